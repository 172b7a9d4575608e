use Rattle.std.proofs.Common.{arith}
use Rattle.sqlite.specs.Held.{state}
use Rattle.sqlite.specs.State.{HasCleanDisk}
use Rattle.jpa_cells.proofs.meaning.Inside.{fails_inside}
use Rattle.jpa_cells.proofs.meaning.Making.{create_makes}
use Rattle.jpa_cells.proofs.cells.make.make_table.Goals as goal

pub returns-clause-makes : goal.returns-clause-makes
returns-clause-makes g c clean =
    let old = state g.S.Store c.args.tx.now.conn.now in
    let new = state g.S.Store c.execute.new.self.conn.now in
    let early : HasCleanDisk old = omega (arith, c.execute.ensures.survives.clean) in
    create_makes old new c.requires.empty early c.execute.result (c.execute.ensures.runs clean (c.requires.inside early))

pub returns-clause-kept : goal.returns-clause-kept
returns-clause-kept g c clean =
    let old = state g.S.Store c.args.tx.now.conn.now in
    let new = state g.S.Store c.execute.new.self.conn.now in
    let early : HasCleanDisk old = omega (arith, c.execute.ensures.survives.clean) in
    fails_inside _ _ old new c.execute.result (c.execute.ensures.runs clean (c.requires.inside early))

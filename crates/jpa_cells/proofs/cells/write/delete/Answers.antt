use Rattle.std.proofs.Common.{arith, rules, to_z-of_z}
use Rattle.sqlite.specs.Held.{state}
use Rattle.sqlite.specs.State.{HasCleanDisk}
use Rattle.jpa_cells.proofs.meaning.Inside.{fails_inside, delete_steps}
use Rattle.jpa_cells.proofs.meaning.Taking.{delete_takes, delete_fault, refused_as}
use Rattle.jpa_cells.proofs.cells.write.delete.Goals as goal

pub returns-clause-performs : goal.returns-clause-performs
returns-clause-performs g c =
    let old = state g.S.Store c.args.tx.now.conn.now in
    let new = state g.S.Store c.execute.new.self.conn.now in
    let early = λ (clean : HasCleanDisk new). let it : HasCleanDisk old = omega (arith, c.execute.ensures.survives.clean) in it in
    record {
      done = λ clean.
          delete_steps old new c.requires.cells (early clean) c.args.table c.args.row.now c.execute.result
          (rw (c.params-to_sql.ensures, c.params-to_sql-2.ensures, to_z-of_z c.ranges.table) at (c.execute.ensures.runs clean (c.requires.inside (early clean))));
      kept = λ clean. fails_inside _ _ old new c.execute.result (c.execute.ensures.runs clean (c.requires.inside (early clean)));
      survives = search rules;
      cause = λ clean _.
          refused_as _ _ old new c.execute.result (delete_fault old new c.requires.cells (early clean) c.args.table c.args.row.now)
          (rw (c.params-to_sql.ensures, c.params-to_sql-2.ensures, to_z-of_z c.ranges.table) at (c.execute.ensures.runs clean (c.requires.inside (early clean))));
    }

pub returns-clause-takes : goal.returns-clause-takes
returns-clause-takes g c clean =
    let old = state g.S.Store c.args.tx.now.conn.now in
    let new = state g.S.Store c.execute.new.self.conn.now in
    let early : HasCleanDisk old = omega (arith, c.execute.ensures.survives.clean) in
    delete_takes old new c.requires.cells early c.args.table c.args.row.now c.execute.result
    (rw (c.params-to_sql.ensures, c.params-to_sql-2.ensures, to_z-of_z c.ranges.table) at (c.execute.ensures.runs clean (c.requires.inside early)))

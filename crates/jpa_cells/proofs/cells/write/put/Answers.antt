use Rattle.std.proofs.Common.{◌≡◌, ap, subst, zero-add, length, IfErr, arith, rules, SFits, w64, to_z-of_z}
use Rattle.std.specs.Result.{IsErr}
use Rattle.std.proofs.lemmas.Result.{IfErr-weaker}
use Rattle.sqlite.specs.Held.{state}
use Rattle.sqlite.specs.State.{HasCleanDisk}
use Rattle.jpa_cells.specs.meaning.Content.{Steps, TakesRowids, IsExcused, with_cells, without_cells}
use Rattle.jpa_cells.specs.meaning.Tables.{statements_of}
use Rattle.jpa_cells.proofs.meaning.Counting.{counts_err}
use Rattle.jpa_cells.proofs.meaning.Inside.{steps_change}
use Rattle.jpa_cells.proofs.meaning.Taking.{takes_then, written_differ, can_fill, excused_later}
use Rattle.jpa_cells.proofs.cells.write.put.Goals as goal

pub returns-clause-performs : goal.returns-clause-performs
returns-clause-performs g c =
    let first = state g.S.Store c.args.tx.now.conn.now in
    let mid = state g.S.Store c.delete.new.tx.conn.now in
    let last = state g.S.Store c.insert_all.new.tx.conn.now in
    let change = c.args.change.now in
    let table : SFits w64 c.args.change.now.table = search rules in
    record {
      done = λ clean.
          let early : HasCleanDisk mid = omega (arith, c.insert_all.ensures.performs.survives.clean) in
          let dropped : Steps first mid (without_cells change.table change.row) = rw (c.as_slice.ensures, to_z-of_z table) at (c.in_ok-delete.ensures.performs.done early) in
          let written : Steps mid last (with_cells change.table change.row change.cells) = rw (c.as_slice-2.ensures, c.as_slice-3.ensures, to_z-of_z table) at (c.in_ok-insert_all.ensures.performs.done clean) in
          steps_change first mid last change dropped written;
      kept = search rules;
      survives = search rules;
      cause = search rules;
    }

pub returns-in_err-delete-clause-counted : goal.returns-in_err-delete-clause-counted
returns-in_err-delete-clause-counted g c =
    let failed : IsErr c.from_residual.result = search rules in
    counts_err c.from_residual.result c.args.writes.now c.delete.new.writes (statements_of c.args.change.now) failed (omega (arith, c.delete.ensures.grown)) (omega (arith, c.delete.ensures.counted))

pub returns-in_err-insert_all-clause-counted : goal.returns-in_err-insert_all-clause-counted
returns-in_err-insert_all-clause-counted g c =
    let failed : IsErr c.from_residual-in_err-insert_all.result = search rules in
    let cells : length c.as_slice-3.result.now ≡ length c.args.change.now.cells = ap length c.as_slice-3.ensures in
    counts_err c.from_residual-in_err-insert_all.result c.args.writes.now c.insert_all.new.writes (statements_of c.args.change.now) failed (omega (arith, c.delete.ensures.grown, c.insert_all.ensures.counted.1))
    (omega (arith, cells, c.delete.ensures.counted, c.insert_all.ensures.counted.2))

pub returns-clause-takes : goal.returns-clause-takes
returns-clause-takes g c clean =
    let first = state g.S.Store c.args.tx.now.conn.now in
    let mid = state g.S.Store c.delete.new.tx.conn.now in
    let last = state g.S.Store c.insert_all.new.tx.conn.now in
    let early : HasCleanDisk mid = omega (arith, c.insert_all.ensures.performs.survives.clean) in
    let written : TakesRowids mid last (length c.args.change.now.cells) = rw (c.as_slice-3.ensures) at (c.in_ok-insert_all.ensures.takes clean) in
    subst (TakesRowids first last) (zero-add (length c.args.change.now.cells)) (takes_then first mid last 0 (length c.args.change.now.cells) (c.in_ok-delete.ensures.takes early) written)

pub returns-clause-once : goal.returns-clause-once
returns-clause-once g c clean =
    let first = state g.S.Store c.args.tx.now.conn.now in
    let last = state g.S.Store c.insert_all.new.tx.conn.now in
    written_differ first last c.args.change.now ((returns-clause-performs g c).done clean)

pub returns-in_err-insert_all-clause-performs : goal.returns-in_err-insert_all-clause-performs
returns-in_err-insert_all-clause-performs g c =
    let first = state g.S.Store c.args.tx.now.conn.now in
    let mid = state g.S.Store c.delete.new.tx.conn.now in
    let last = state g.S.Store c.insert_all.new.tx.conn.now in
    let change = c.args.change.now in
    let table : SFits w64 c.args.change.now.table = search rules in
    record {
      done = search rules;
      kept = search rules;
      survives = search rules;
      cause = λ clean can.
          let early : HasCleanDisk mid = omega (arith, c.insert_all.ensures.performs.survives.clean) in
          let dropped : Steps first mid (without_cells change.table change.row) = rw (c.as_slice.ensures, to_z-of_z table) at (c.in_ok-delete.ensures.performs.done early) in
          let ready = can_fill first mid change dropped (c.in_ok-delete.ensures.takes early) can in
          let fault : IfErr c.insert_all.result (IsExcused mid last) = (rw (c.as_slice-2.ensures, c.as_slice-3.ensures, to_z-of_z table) at (c.insert_all.ensures.performs.cause clean)) ready in
          let since_first : IfErr c.insert_all.result (IsExcused first last) =
          IfErr-weaker c.insert_all.result (IsExcused mid last) (IsExcused first last) (λ e. excused_later first mid last _ e c.delete.ensures.performs.survives early c.insert_all.ensures.performs.survives.counts) fault in
          search (rules, since_first);
    }

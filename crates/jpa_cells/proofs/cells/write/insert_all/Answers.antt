use Rattle.std.proofs.Common.{◌≡◌, ◌∙◌, ◌+◌, drop, length, subst, IfErr, rules, arith, w64, to_z, of_z, to_z-of_z}
use Rattle.std.specs.Prelude.{OnErr}
use Rattle.std.proofs.lemmas.Result.{IfErr-weaker, on_err_weaker}
use Rattle.sqlite.specs.Held.{state}
use Rattle.sqlite.specs.State.{HasCleanDisk, KeepsCommit}
use Rattle.sqlite.proofs.StateLemmas.{survives_then}
use Rattle.jpa_cells.specs.meaning.Content.{Steps, TakesRowids, IsExcused, with_cell}
use Rattle.jpa_cells.proofs.meaning.Inside.{goes_on, one_cell_less}
use Rattle.jpa_cells.proofs.meaning.Turning.{filled}
use Rattle.jpa_cells.proofs.meaning.Taking.{takes_then, can_next, can_first, can_rest, excused_later}
use Rattle.jpa_cells.proofs.cells.write.insert_all.Goals as goal

pub cells-preserved : goal.cells-preserved
cells-preserved g c =
    let first = state g.S.Store c.args.tx.now.conn.now in
    let now = state g.S.Store c.cells.tx.conn.now in
    let next = state g.S.Store c.insert.new.tx.conn.now in
    let early = λ (clean : HasCleanDisk next). let it : HasCleanDisk now = omega (arith, c.insert.ensures.performs.survives.clean) in it in
    let steps = λ (clean : HasCleanDisk next). let it : Steps now next (with_cell (to_z w64 (of_z w64 c.args.table)) c.args.row.now c.cell-item.result) = c.in_ok-insert.ensures.performs.done clean in it in (
      c.insert.ensures.same_reference ∙ c.cells.invariant.0,
      survives_then first now next _ _ (λ _. ⊥) (λ _ db none. none) (λ _ db none. none) c.cells.invariant.1 c.insert.ensures.performs.survives,
      λ clean. goes_on first now next _ (c.cells.invariant.2 (early clean)) (steps clean),
      λ clean. one_cell_less (to_z w64 (of_z w64 c.args.table)) c.args.row.now c.args.cells.now c.cells.cell-index c.cell-item.result now next _ c.cells-test.true c.cell-item.is (steps clean) (c.cells.invariant.3 (early clean)),
      λ clean. takes_then first now next c.cells.cell-index 1 (c.cells.invariant.4 (early clean)) (c.in_ok-insert.ensures.takes clean),
      λ clean can.
          let cell = c.cell-item.result in
          let left = can_next (to_z w64 (of_z w64 c.args.table)) c.args.row.now c.args.cells.now c.cells.cell-index cell now c.cells-test.true c.cell-item.is (c.cells.invariant.5 (early clean) can) in
          can_rest now next (to_z w64 (of_z w64 c.args.table)) c.args.row.now cell (drop (c.cells.cell-index + 1) c.args.cells.now) (steps clean) (c.in_ok-insert.ensures.takes clean) left,
      omega (arith, c.insert.ensures.counted, c.cells.invariant.6),
    )

pub returns-clause-performs : goal.returns-clause-performs
returns-clause-performs g c =
    let first = state g.S.Store c.args.tx.now.conn.now in
    let now = state g.S.Store c.cells.tx.conn.now in
    record {
      done = λ clean. filled first now c.args.table c.args.row.now c.args.cells.now c.cells.cell-index (c.cells.invariant.2 clean) c.cells-test.false (rw (to_z-of_z c.ranges.table) at (c.cells.invariant.3 clean));
      kept = search rules;
      survives = search rules;
      cause = search rules;
    }

pub returns-clause-takes : goal.returns-clause-takes
returns-clause-takes g c clean =
    let all : c.cells.cell-index ≡ length c.args.cells.now = omega (arith, c.cells-test.false, c.cells.auto.cell-index-end) in
    subst (TakesRowids (state g.S.Store c.args.tx.now.conn.now) (state g.S.Store c.cells.tx.conn.now)) all (c.cells.invariant.4 clean)

pub returns-in_err-insert-clause-performs : goal.returns-in_err-insert-clause-performs
returns-in_err-insert-clause-performs g c =
    let first = state g.S.Store c.args.tx.now.conn.now in
    let now = state g.S.Store c.cells.tx.conn.now in
    let next = state g.S.Store c.insert.new.tx.conn.now in
    record {
      done = search rules;
      kept = λ clean.
          let early : HasCleanDisk now = omega (arith, c.insert.ensures.performs.survives.clean) in
          let under = c.cells.invariant.2 early in
          let since_first : OnErr c.insert.result (KeepsCommit first next) =
          on_err_weaker c.insert.result (λ kept. record { was_open = λ _. under.was_open; committed = λ live. kept.committed live ∙ under.committed }) (c.insert.ensures.performs.kept clean) in
          search (rules, since_first);
      survives = search rules;
      cause = λ clean can.
          let early : HasCleanDisk now = omega (arith, c.insert.ensures.performs.survives.clean) in
          let table = c.args.table in
          let cell = c.cell-item.result in
          let rest = drop (c.cells.cell-index + 1) c.args.cells.now in
          let left = can_next table c.args.row.now c.args.cells.now c.cells.cell-index cell now c.cells-test.true c.cell-item.is ((rw (to_z-of_z c.ranges.table) at (c.cells.invariant.5 early)) can) in
          let fault : IfErr c.insert.result (IsExcused now next) = (rw (to_z-of_z c.ranges.table) at (c.insert.ensures.performs.cause clean)) (can_first now table c.args.row.now cell rest left) in
          let since_first : IfErr c.insert.result (IsExcused first next) =
          IfErr-weaker c.insert.result (IsExcused now next) (IsExcused first next) (λ e. excused_later first now next _ e c.cells.invariant.1 early c.insert.ensures.performs.survives.counts) fault in
          search (rules, since_first);
    }

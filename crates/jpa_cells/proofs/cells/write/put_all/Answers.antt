use Rattle.std.proofs.Common.{◌∙◌, ◌+◌, ◌≤◌, drop, take, sum_by, IfErr, rules, arith}
use Rattle.std.specs.Result.{IsErr}
use Rattle.std.proofs.lemmas.Result.{IfErr-weaker}
use Rattle.std.proofs.lemmas.List.Sums.{sum_by_more_le}
use Rattle.jpa_cells.proofs.meaning.Counting.{counts_err}
use Rattle.sqlite.specs.Held.{state}
use Rattle.sqlite.specs.State.{HasCleanDisk}
use Rattle.sqlite.proofs.StateLemmas.{survives_then}
use Rattle.jpa_cells.specs.meaning.Content.{Steps, IsExcused, replaced}
use Rattle.jpa_cells.proofs.meaning.Turning.{finished}
use Rattle.jpa_cells.proofs.meaning.Inside.{goes_on, one_change_less}
use Rattle.jpa_cells.proofs.meaning.Taking.{can_next_change, can_one, can_others, excused_later}
use Rattle.jpa_cells.specs.meaning.Tables.{statements_of, ColumnsDiffer}
use Rattle.jpa_cells.specs.declared.meaning.CellChange.{CellChange}
use Rattle.jpa_cells.proofs.meaning.ListFacts.{all_more}
use Rattle.std.proofs.lemmas.Grind.{common_steps}
use Rattle.jpa_cells.proofs.cells.write.put_all.Goals as goal

pub returns-clause-performs : goal.returns-clause-performs
returns-clause-performs g c =
    let first = state g.S.Store c.args.tx.now.conn.now in
    let now = state g.S.Store c.changes.tx.conn.now in
    record {
      done = λ clean.
          let early : HasCleanDisk first = omega (arith, c.changes.invariant.1.clean) in
          let live = c.changes.invariant.3 clean (omega (arith, c.requires.some, c.changes-test.false)) in
          finished first now c.args.changes.now c.changes.change-index c.requires.ready.cells early (c.changes.invariant.4 clean live) c.changes-test.false (c.changes.invariant.5 clean);
      kept = search rules;
      survives = search rules;
      cause = search rules;
    }

pub changes-preserved : goal.changes-preserved
changes-preserved g c =
    let first = state g.S.Store c.args.tx.now.conn.now in
    let now = state g.S.Store c.changes.tx.conn.now in
    let next = state g.S.Store c.put.new.tx.conn.now in
    let early = λ (clean : HasCleanDisk next). let it : HasCleanDisk now = omega (arith, c.put.ensures.performs.survives.clean) in it in
    let steps = λ (clean : HasCleanDisk next). let it : Steps now next (replaced c.change-item.result) = c.in_ok-put.ensures.performs.done clean in it in (
      c.put.ensures.same_reference ∙ c.changes.invariant.0,
      survives_then first now next _ _ (λ _. ⊥) (λ _ db none. none) (λ _ db none. none) c.changes.invariant.1 c.put.ensures.performs.survives,
      λ clean. (steps clean).inside,
      λ clean _. (steps clean).is_open,
      λ clean _. goes_on first now next _ (c.changes.invariant.4 (early clean) (steps clean).was_open) (steps clean),
      λ clean. one_change_less c.args.changes.now c.changes.change-index c.change-item.result now next _ c.changes-test.true c.change-item.is (steps clean) (c.changes.invariant.5 (early clean)),
      λ clean. all_more (λ (x : CellChange). ColumnsDiffer x.cells) c.args.changes.now c.changes.change-index c.change-item.result c.changes-test.true c.change-item.is (c.changes.invariant.6 (early clean)) (c.in_ok-put.ensures.once clean),
      λ clean can.
          let change = c.change-item.result in
          let left = can_next_change c.args.changes.now c.changes.change-index change now.now c.changes-test.true c.change-item.is (c.changes.invariant.7 (early clean) can) in
          can_others now next change (drop (c.changes.change-index + 1) c.args.changes.now) (c.in_ok-put.ensures.takes clean) left,
      grind (arith, common_steps, c.in_ok-put.ensures.counted, c.changes.invariant.8),
    )

pub returns-in_err-put-clause-counted : goal.returns-in_err-put-clause-counted
returns-in_err-put-clause-counted g c =
    let failed : IsErr c.from_residual.result = search rules in
    let within = sum_by_more_le statements_of c.args.changes.now c.changes.change-index c.change-item.result c.changes-test.true in
    let part : sum_by statements_of (take c.changes.change-index c.args.changes.now) + statements_of c.change-item.result ≤ sum_by statements_of c.args.changes.now = rw (← c.change-item.is) at within in
    counts_err c.from_residual.result c.args.writes.now c.put.new.writes (sum_by statements_of c.args.changes.now) failed (omega (arith, c.put.ensures.counted.1, c.changes.invariant.8)) (omega (arith, part, c.put.ensures.counted.2, c.changes.invariant.8))

pub returns-in_err-put-clause-performs : goal.returns-in_err-put-clause-performs
returns-in_err-put-clause-performs g c =
    let first = state g.S.Store c.args.tx.now.conn.now in
    let now = state g.S.Store c.changes.tx.conn.now in
    let next = state g.S.Store c.put.new.tx.conn.now in
    record {
      done = search rules;
      kept = search rules;
      survives = search rules;
      cause = λ clean can.
          let early : HasCleanDisk now = omega (arith, c.put.ensures.performs.survives.clean) in
          let change = c.change-item.result in
          let rest = drop (c.changes.change-index + 1) c.args.changes.now in
          let left = can_next_change c.args.changes.now c.changes.change-index change now.now c.changes-test.true c.change-item.is (c.changes.invariant.7 early can) in
          let fault : IfErr c.put.result (IsExcused now next) = c.put.ensures.performs.cause clean (can_one now.now change rest left) in
          let since_first : IfErr c.put.result (IsExcused first next) =
          IfErr-weaker c.put.result (IsExcused now next) (IsExcused first next) (λ e. excused_later first now next _ e c.changes.invariant.1 early c.put.ensures.performs.survives.counts) fault in
          search (rules, since_first);
    }

use Rattle.std.proofs.Common.{sym, ◌∙◌}
use Rattle.jpa_rows.proofs.laws.Facts.{true_false}
use Rattle.jpa_object_rows.proofs.mapper.OwnPairs.{told_at, ones_further}
use Rattle.jpa_object_rows.proofs.mapper.own_pairs.judge_own_pairs.Goals as goal
use Rattle.jpa_object_rows.proofs.mapper.own_pairs.judge_own_pairs.Goals.{else-is_own_pair-via-then-is_own_pair+else-not-is_pair_row, else-is_own_pair-via-else-is_own_pair}

pub returns-then-not-is_pair_row-clause-err : goal.returns-then-not-is_pair_row-clause-err
returns-then-not-is_pair_row-clause-err c =
    told_at c.args.metamodel.now c.args.class c.args.owner.now c.args.rows.now c.loop-row.row-index c.row-item.result c.loop-row-test.true c.row-item.is c.loop-row.invariant c.damaged.result
    (sym c.is_own_pair.ensures ∙ c.if-is_own_pair.true) (λ one. true_false (sym (c.is_pair_row.ensures.1 one) ∙ c.if-not-is_pair_row.true)) c.damaged.ensures

pub loop-row-preserved : goal.loop-row-preserved
loop-row-preserved c =
    let further = ones_further c.args.metamodel.now c.args.class c.args.owner.now c.args.rows.now c.loop-row.row-index c.row-item.result c.loop-row-test.true c.row-item.is c.loop-row.invariant in
    elim c.else-is_own_pair.branch [
      | else-is_own_pair-via-then-is_own_pair+else-not-is_pair_row w ↦ further (λ own. w.is_pair_row.ensures.0 w.if-not-is_pair_row.false)
      | else-is_own_pair-via-else-is_own_pair w ↦ further (λ own. absurd (true_false (sym own ∙ sym c.is_own_pair.ensures ∙ w.if-is_own_pair.false)))
    ]

use Rattle.std.proofs.Common.{◌+◌, ◌<◌, ◌&&◌, nat_eq, nat_le, length, drop, sym, ap, ◌∙◌, arith}
use Rattle.std.specs.List.{starts_with}
use Rattle.std.proofs.lemmas.List.{take_rest}
use Rattle.jpql_meaning.proofs.eval.Places.{missed, and_false, not_le}
use Rattle.jpql_meaning.proofs.eval.texts.found_from.Goals as goal
use Rattle.jpql_meaning.proofs.eval.texts.found_from.Goals.{else-from-at-via-then-from-at+else-starts_with, else-from-at-via-else-from-at}

pub loop-at-preserved : goal.loop-at-preserved
loop-at-preserved c =
    let x = c.args.sought.now in
    let cs = c.args.text.now in
    let i = c.loop-at.at in
    let from = c.args.from in
    let below : i < length cs = omega arith in
    c.loop-at.invariant
    ∙ missed i from x cs below
    (elim c.else-from-at.branch [
      | else-from-at-via-then-from-at+else-starts_with w ↦
          ap (λ b. nat_le from (i + 1) && b) (ap (λ rest. starts_with nat_eq rest x) (sym (take_rest cs i)) ∙ sym w.starts_with.ensures.value ∙ w.if-starts_with.false) ∙ and_false _
      | else-from-at-via-else-from-at w ↦ ap (λ b. b && starts_with nat_eq (drop i cs) x) (not_le from (i + 1) w.if-from-at.false)
    ])

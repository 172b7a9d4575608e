use Rattle.std.proofs.Common.{rules, string_bytes, sym, ap, ◌∙◌, arith}
use Rattle.std.proofs.lemmas.Grind.{common_steps}
use Rattle.jpql_meaning.specs.eval.Texts.{end_of}
use Rattle.jpql_meaning.proofs.eval.Places.{taken, left}
use Rattle.jpql_meaning.proofs.eval.texts.written.Goals as goal
use Rattle.jpql_meaning.proofs.eval.texts.written.Goals.{then-has+in_ok-push, else-has}

pub loop-i-preserved : goal.loop-i-preserved
loop-i-preserved c =
    let places = c.args.places.now in
    let end = end_of places.from places.count in
    elim c.if-has.branch [
      | then-has+in_ok-push w ↦
          taken c.loop-i.i places.from end c.args.all.now c.index-all-i.result _ (string_bytes c.loop-i.part) (string_bytes c.if-has.part) c.loop-i-test.true c.index-all-i.is
          (sym c.has.ensures ∙ w.if-has.true) c.loop-i.invariant (first_of (search rules, grind (arith, common_steps)))
      | else-has w ↦
          left c.loop-i.i places.from end c.args.all.now c.index-all-i.result _ (string_bytes c.loop-i.part) (string_bytes c.if-has.part) c.loop-i-test.true c.index-all-i.is
          (sym c.has.ensures ∙ w.if-has.false) c.loop-i.invariant (ap string_bytes w.part-is)
    ]

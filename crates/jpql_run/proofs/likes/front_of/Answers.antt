use Rattle.std.proofs.Common.{subst, ℕ, List}
use Rattle.jpa_value.specs.declared.value.Value.{Value}
use Rattle.jpql_meaning.specs.eval.Seen.{seen}
use Rattle.jpql_meaning.specs.declared.eval.datum.Datum.{Datum}
use Rattle.jpql_meaning.specs.declared.eval.seen.Seen.{Seen}
use Rattle.jpql_run.specs.Bounds.{AlwaysGives}
use Rattle.jpql_run.specs.Likes.{IsFront}
use Rattle.jpql_run.proofs.likes.front_of.Goals as goal

pub returns-in-Some-Text : goal.returns-in-Some-Text
returns-in-Some-Text c =
    let run = c.args.run.now in
    let w = c.args.pattern.now in
    let at = c.in-Some-Text in
    let always : AlwaysGives run w (Datum.Plain (Value.Text at.text.now)) = subst (λ (x : Seen). AlwaysGives run w (seen x)) at.field-0-is at.ensures in
    (at.text.now, always, subst (λ (bytes : List ℕ). IsFront c.args.escape.now bytes c.plain_front-front.result.now) c.as_bytes.ensures c.plain_front-front.ensures)

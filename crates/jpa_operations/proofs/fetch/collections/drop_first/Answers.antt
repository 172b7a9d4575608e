use Rattle.std.proofs.Common.{◌≡◌, ◌∙◌, ap, sym, Some, None}
use Rattle.std.specs.Prelude.{◌==◌}
use Rattle.std.specs.List.{position}
use Rattle.jpa_operations.proofs.fetch.Dropped.{left_none, left_some}
use Rattle.jpa_operations.proofs.fetch.collections.drop_first.Goals as goal

pub returns-in-Some : goal.returns-in-Some
returns-in-Some c =
    let first = position (λ x. x == c.args.object) in
    let there : first c.args.places.now.items ≡ Some c.in-Some.at = sym (c.in-Some.ensures ∙ ap first c.as_slice.ensures.value) in
    let left = left_some c.args.object c.args.places.now.items c.in-Some.at there in
    record { rest = c.remove.ensures.items ∙ left.0; stood = left.1 }

pub returns-in-None : goal.returns-in-None
returns-in-None c =
    let first = position (λ x. x == c.args.object) in
    let nowhere : first c.args.places.now.items ≡ None = sym (c.in-None.ensures ∙ ap first c.as_slice.ensures.value) in
    let left = left_none c.args.object c.args.places.now.items nowhere in
    record { rest = left.0; stood = left.1 }

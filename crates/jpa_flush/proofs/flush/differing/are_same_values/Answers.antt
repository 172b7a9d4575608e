use Rattle.std.proofs.Common.{◌≡◌, ◌∙◌, ap, sym, refl, false}
use Rattle.std.specs.declared.cmp.Ordering.{Ordering}
use Rattle.std.specs.Ordering.{is_eq}
use Rattle.jpa_flush.proofs.flush.Values.{same_by_order}
use Rattle.jpa_flush.proofs.flush.differing.are_same_values.Goals as goal

pub returns-in-Equal : goal.returns-in-Equal
returns-in-Equal c = sym (ap is_eq (sym c.order_keys.ensures ∙ c.in-Equal.is)) ∙ same_by_order c.args.a.now c.args.b.now

not_equal : (r : Ordering) → (r ≡ Ordering.Equal → ⊥) → false ≡ is_eq r
not_equal Ordering.Less h = refl
not_equal Ordering.Equal h = absurd (h refl)
not_equal Ordering.Greater h = refl

pub returns-in_default : goal.returns-in_default
returns-in_default c = not_equal c.order_keys.result c.in_default.not-Equal ∙ ap is_eq c.order_keys.ensures ∙ same_by_order c.args.a.now c.args.b.now

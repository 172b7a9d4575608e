-- Lists of values that are the same.
use Rattle.std.proofs.Common.{◌≡◌, ◌∙◌, List, [], ◌∷◌, refl, ap}
use Rattle.std.specs.Prelude.{◌&&◌}
use Rattle.std.specs.declared.cmp.Ordering.{Ordering}
use Rattle.std.specs.Ordering.{is_eq, ordering_then}
use Rattle.jpa_value.specs.declared.value.Value.{Value}
use Rattle.jpa_value.specs.Value.{value_cmp, key_cmp}
use Rattle.jpa_flush.specs.flush.Flush.{same_values}

then_eq : (r s : Ordering) → is_eq (ordering_then r s) ≡ (is_eq r && is_eq s)
then_eq Ordering.Less s = refl
then_eq Ordering.Equal s = refl
then_eq Ordering.Greater s = refl

pub same_by_order : (xs ys : List Value) → is_eq (key_cmp xs ys) ≡ same_values xs ys
same_by_order [] [] = refl
same_by_order [] (y ∷ ys) = refl
same_by_order (x ∷ xs) [] = refl
same_by_order (x ∷ xs) (y ∷ ys) = then_eq (value_cmp x y) (key_cmp xs ys) ∙ ap (λ b. is_eq (value_cmp x y) && b) (same_by_order xs ys)

-- What is compared datum by datum is compared where it stands; what is the same is one.
use Rattle.std.proofs.Common.{◌≡◌, refl, ap, ◌∙◌, ◌&&◌, List, [], ◌∷◌, map}
use Rattle.std.specs.Ordering.{ordering_then, is_eq}
use Rattle.std.specs.Cmp.Lexicographic.{slice_cmp}
use Rattle.std.specs.declared.cmp.Ordering.{Ordering}
use Rattle.std.specs.declared.cmp.Ordering.TheVariants as o
use Rattle.jpql_meaning.specs.declared.eval.datum.Datum.{Datum}
use Rattle.jpql_meaning.specs.declared.eval.seen.Seen.{Seen}
use Rattle.jpql_meaning.specs.eval.Data.{datum_cmp, same_datum, same_data}
use Rattle.jpql_meaning.specs.eval.Seen.{seen}
use Rattle.jpql_meaning.specs.eval.SeenOrder.{seen_cmp}
use Rattle.jpql_meaning.proofs.eval.Orders.{same_by_order}
use Rattle.jpql_select.specs.select.Keys.{data_cmp, is_same}

pub by_seen : (xs ys : List Seen) → slice_cmp seen_cmp xs ys ≡ data_cmp (map seen xs) (map seen ys)
by_seen [] [] = refl
by_seen [] (y ∷ ys) = refl
by_seen (x ∷ xs) [] = refl
by_seen (x ∷ xs) (y ∷ ys) = ap (ordering_then (seen_cmp x y)) (by_seen xs ys)

eq_then : (a b : Ordering) → is_eq (ordering_then a b) ≡ (is_eq a && is_eq b)
eq_then o.Less b = refl
eq_then o.Equal b = refl
eq_then o.Greater b = refl

pub same_by_cmp : (xs ys : List Datum) → is_same xs ys ≡ same_data xs ys
same_by_cmp [] [] = refl
same_by_cmp [] (y ∷ ys) = refl
same_by_cmp (x ∷ xs) [] = refl
same_by_cmp (x ∷ xs) (y ∷ ys) =
    eq_then (datum_cmp x y) (data_cmp xs ys) ∙ ap (λ b. b && is_same xs ys) (same_by_order x y) ∙ ap (λ b. same_datum x y && b) (same_by_cmp xs ys)

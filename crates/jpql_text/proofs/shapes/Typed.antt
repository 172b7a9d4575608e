-- What a shape says of calls is what the grammar and the types say.
use Rattle.std.proofs.Common.{◌≡◌, ◌∙◌, refl, ap, sym, ℕ, zero, suc, nat_eq, nat_le, length, Bool, true, false, ◌&&◌, ◌||◌, List, [], ◌∷◌, map, Option, Some, None, if◌then◌else◌}
use Rattle.std.specs.List.{list_all}
use Rattle.std.specs.Prelude.{IfSome}
use Rattle.std.proofs.Math.Dec.{leb-zero, leb-suc-zero, leb-suc-suc, eqb-zero-suc, eqb-suc-zero, eqb-suc-suc}
use Rattle.jpql_trees.specs.declared.tree.Function.{Function}
use Rattle.jpql_trees.specs.declared.tree.Function.TheVariants as f
use Rattle.jpql_trees.specs.tree.Calls.{takes}
use Rattle.jpql_types.specs.declared.sort.Sort.{Sort}
use Rattle.jpql_types.specs.Scope.{when}
use Rattle.jpql_types.specs.Sorts.{call_sort, fit, given_sort, goes_with}
use Rattle.jpql_types.specs.Sorts as sorts
use Rattle.jpql_text.specs.shapes.Shapes.{ArgumentKind, Shape, any, are_of, call_by, given_by, integer, is_within, shape, sort_of, takes_by, text}

-- ---- how many

one_count : (k n : ℕ) → nat_eq n k ≡ nat_le k n && nat_le n k
one_count zero zero = refl
one_count zero (suc n) = rw (eqb-suc-zero n, leb-suc-zero n, leb-zero (suc n)) refl
one_count (suc k) zero = rw (eqb-zero-suc k, leb-suc-zero k) refl
one_count (suc k) (suc n) = rw (eqb-suc-suc n k, leb-suc-suc k n, leb-suc-suc n k) (one_count k n)

none_left : (n : ℕ) → nat_eq n 0 ≡ nat_le n 0
none_left zero = refl
none_left (suc n) = eqb-suc-zero n ∙ sym (leb-suc-zero n)

two_counts : (k n : ℕ) → nat_eq n k || nat_eq n (suc k) ≡ nat_le k n && nat_le n (suc k)
two_counts zero zero = refl
two_counts zero (suc n) = rw (eqb-suc-zero n, eqb-suc-suc n 0, leb-zero (suc n), leb-suc-suc n 0) (none_left n)
two_counts (suc k) zero = rw (eqb-zero-suc k, eqb-zero-suc (suc k), leb-suc-zero k) refl
two_counts (suc k) (suc n) = rw (eqb-suc-suc n k, eqb-suc-suc n (suc k), leb-suc-suc k n, leb-suc-suc n (suc k)) (two_counts k n)

and_true : (a : Bool) → a ≡ a && true
and_true true = refl
and_true false = refl

pub counted : (f : Function) (n : ℕ) → IfSome (shape f) (λ h. takes f n ≡ takes_by h n)
counted f.Length n = one_count 1 n
counted f.Concat n = and_true (nat_le 2 n)
counted f.Substring n = two_counts 2 n
counted f.Locate n = two_counts 2 n
counted f.Abs n = one_count 1 n
counted f.Mod n = one_count 2 n
counted f.Coalesce n = and_true (nat_le 2 n)
counted f.NullIf n = one_count 2 n
counted f.Upper n = one_count 1 n
counted f.Lower n = one_count 1 n
counted (f.Trim sides) n = two_counts 1 n
counted f.Case n = tt
counted f.Match n = tt
counted (f.Test op) n = tt
counted f.IsBetween n = tt
counted f.IsAmong n = tt
counted f.IsLike n = tt
counted f.IsNull n = tt
counted f.And n = tt
counted f.Or n = tt
counted f.Not n = tt

-- ---- of which sorts

true_false : {A : Type 0} → false ≡ true → A
true_false e = cc

and_right : (a b : Bool) → a && b ≡ true → b ≡ true
and_right true b both = both
and_right false b both = true_false both

-- no more arguments than kinds: none is asked twice
fit_of : (kinds : List ArgumentKind) (all : List Sort) → nat_le (length all) (length kinds) ≡ true → fit (map sort_of kinds) all ≡ are_of kinds all
fit_of kinds [] few = refl
fit_of [] (s ∷ all) few = true_false (sym (leb-suc-zero (length all)) ∙ few)
fit_of (k ∷ []) (s ∷ []) few = refl
fit_of (k ∷ []) (s ∷ t ∷ all) few = true_false (sym (leb-suc-zero (length all)) ∙ sym (leb-suc-suc (suc (length all)) 0) ∙ few)
fit_of (k ∷ j ∷ kinds) (s ∷ all) few = ap (λ b. goes_with (sort_of k) s && b) (fit_of (j ∷ kinds) all (sym (leb-suc-suc (length all) (suc (length kinds))) ∙ few))

repeated : (k : ArgumentKind) (all : List Sort) → list_all (goes_with (sort_of k)) all ≡ are_of (k ∷ []) all
repeated k [] = refl
repeated k (s ∷ all) = ap (λ b. goes_with (sort_of k) s && b) (repeated k all)

all_texts : (all : List Sort) → list_all (goes_with sorts.text) all ≡ are_of (text ∷ text ∷ []) all
all_texts [] = refl
all_texts (s ∷ all) = ap (λ b. goes_with sorts.text s && b) (repeated text all)

-- as many as the kinds at most
bounded : (kinds : List ArgumentKind) (least : ℕ) (given : Sort) (all : List Sort) → nat_le least (length all) && nat_le (length all) (length kinds) ≡ true
    → when (fit (map sort_of kinds) all) given ≡ when (are_of kinds all) given
bounded kinds least given all taken = ap (λ b. when b given) (fit_of kinds all (and_right (nat_le least (length all)) (nat_le (length all) (length kinds)) taken))

given_same : (f : Function) (all : List Sort) → IfSome (shape f) (λ h. takes_by h (length all) ≡ true → given_sort f all ≡ given_by h.arguments h.result all)
given_same f.Length all = λ taken. bounded (text ∷ []) 1 sorts.integer all taken
given_same f.Concat all = λ taken. ap (λ b. when b sorts.text) (all_texts all)
given_same f.Substring all = λ taken. bounded (text ∷ integer ∷ integer ∷ []) 2 sorts.text all taken
given_same f.Locate all = λ taken. bounded (text ∷ text ∷ integer ∷ []) 2 sorts.integer all taken
given_same f.Abs all = λ taken. bounded (integer ∷ []) 1 sorts.integer all taken
given_same f.Mod all = λ taken. bounded (integer ∷ integer ∷ []) 2 sorts.integer all taken
given_same f.Coalesce all = λ taken. refl
given_same f.NullIf all = λ taken. refl
given_same f.Upper all = λ taken. bounded (text ∷ []) 1 sorts.text all taken
given_same f.Lower all = λ taken. bounded (text ∷ []) 1 sorts.text all taken
given_same (f.Trim sides) all = λ taken. bounded (text ∷ text ∷ []) 1 sorts.text all taken
given_same f.Case all = tt
given_same f.Match all = tt
given_same (f.Test op) all = tt
given_same f.IsBetween all = tt
given_same f.IsAmong all = tt
given_same f.IsLike all = tt
given_same f.IsNull all = tt
given_same f.And all = tt
given_same f.Or all = tt
given_same f.Not all = tt

where_taken : (taken : Bool) (a b : Option Sort) → (taken ≡ true → a ≡ b) → (if taken then a else None) ≡ (if taken then b else None)
where_taken true a b same = same refl
where_taken false a b same = refl

shaped : (o : Option Shape) (f : Function) (all : List Sort) → IfSome o (λ h. takes f (length all) ≡ takes_by h (length all))
    → IfSome o (λ h. takes_by h (length all) ≡ true → given_sort f all ≡ given_by h.arguments h.result all) → IfSome o (λ h. call_sort f all ≡ call_by h all)
shaped None f all counts same = tt
shaped (Some h) f all counts same =
    ap (λ (taken : Bool). if taken then given_sort f all else None) counts
    ∙ where_taken (takes_by h (length all)) (given_sort f all) (given_by h.arguments h.result all) same

pub typed : (f : Function) (all : List Sort) → IfSome (shape f) (λ h. call_sort f all ≡ call_by h all)
typed f all = shaped (shape f) f all (counted f (length all)) (given_same f all)

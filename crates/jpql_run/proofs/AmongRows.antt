-- A value among rows, told by what is printed of them and by whether one is null.
use Rattle.std.proofs.Common.{rules, ◌≡◌, ◌∙◌, refl, ap, sym, ℕ, Bool, true, false, cond, List, [], ◌∷◌, map}
use Rattle.std.specs.Prelude.{◌||◌, nat_eq}
use Rattle.std.specs.List.{filter, list_any}
use Rattle.std.proofs.lemmas.Bool.{false≢true}
use Rattle.jpql_trees.specs.declared.tree.Comparison.{Comparison}
use Rattle.jpql_meaning.specs.declared.eval.datum.Datum.{Datum}
use Rattle.jpql_meaning.specs.declared.eval.datum.Truth.{Truth}
use Rattle.jpql_meaning.specs.eval.Data.{is_nothing, same_datum, datum_cmp, holds, compared, among}
use Rattle.jpql_meaning.specs.eval.Truths.{truth_of, or3}
use Rattle.jpql_meaning.specs.plan.Meaning.{is_any}
use Rattle.jpql_run.specs.ByValue.{print}
use Rattle.jpql_run.specs.Ready.{is_printed_as}
use Rattle.jpql_run.proofs.Asked.{same_exact}

-- by whether a row is the same, and whether one is null
abbrev some : Bool → Bool → Truth
some same null = cond same Truth.Yes (cond null Truth.Unknown Truth.No)

-- ---- null is unknown beside any row

unknown_or : (b : Bool) → or3 Truth.Unknown (cond b Truth.Unknown Truth.No) ≡ Truth.Unknown
unknown_or true = refl
unknown_or false = refl

null_among : (x : Datum) (rows : List Datum) → is_nothing x ≡ true → among x rows ≡ cond (is_any rows) Truth.Unknown Truth.No
null_among x [] h = refl
null_among x (y ∷ rows) h =
    (λ i. or3 (cond (h i || is_nothing y) Truth.Unknown (truth_of (holds Comparison.Equal (same_datum x y) (datum_cmp x y)))) (null_among x rows h i))
    ∙ unknown_or (is_any rows)

-- ---- another value is the same as a row, or unknown beside a null

one_more : (null same a b : Bool) → (null ≡ true → same ≡ false) → or3 (cond null Truth.Unknown (truth_of same)) (some a b) ≡ some (same || a) (null || b)
one_more false true a b h = refl
one_more false false a b h = refl
one_more true true a b h = absurd (false≢true (sym (h refl)))
one_more true false true b h = refl
one_more true false false true h = refl
one_more true false false false h = refl

-- null is the same as null alone
null_differs : (x y : Datum) → is_nothing x ≡ false → is_nothing y ≡ true → same_datum x y ≡ false
null_differs x y h k = by (same_datum x y) refl
  where
    by : (b : Bool) → same_datum x y ≡ b → b ≡ false
    by false e = refl
    by true e = absurd (false≢true (sym h ∙ ap is_nothing (same_exact x y e) ∙ k))

some_among : (x : Datum) (rows : List Datum) → is_nothing x ≡ false → among x rows ≡ some (list_any (same_datum x) rows) (list_any is_nothing rows)
some_among x [] h = refl
some_among x (y ∷ rows) h =
    (λ i. or3 (cond (h i || is_nothing y) Truth.Unknown (truth_of (holds Comparison.Equal (same_datum x y) (datum_cmp x y)))) (some_among x rows h i))
    ∙ one_more (is_nothing y) (same_datum x y) (list_any (same_datum x) rows) (list_any is_nothing rows) (null_differs x y h)

-- ---- what is the same is printed the same

self_eq : (n : ℕ) → nat_eq n n ≡ true
self_eq n = search rules

printed : (x : Datum) (rows : List Datum) → list_any (same_datum x) (filter (is_printed_as (print x)) rows) ≡ list_any (same_datum x) rows
printed x [] = refl
printed x (y ∷ rows) = by (is_printed_as (print x) y) (same_datum x y) refl refl (printed x rows)
  where
    by : (k s : Bool) → is_printed_as (print x) y ≡ k → same_datum x y ≡ s → list_any (same_datum x) (filter (is_printed_as (print x)) rows) ≡ list_any (same_datum x) rows
        → list_any (same_datum x) (cond k (y ∷ filter (is_printed_as (print x)) rows) (filter (is_printed_as (print x)) rows)) ≡ (same_datum x y || list_any (same_datum x) rows)
    by true s e g r = ap (λ b. same_datum x y || b) r
    by false false e g r = r ∙ sym (ap (λ b. b || list_any (same_datum x) rows) g)
    by false true e g r = absurd (false≢true (sym e ∙ ap (λ d. nat_eq (print x) (print d)) (sym (same_exact x y g)) ∙ self_eq (print x)))

-- a value among rows, by what stands under its print
pub among_told : (x : Datum) (rows found : List Datum) → found ≡ filter (is_printed_as (print x)) rows
    → cond (is_nothing x) (cond (is_any rows) Truth.Unknown Truth.No) (some (list_any (same_datum x) found) (list_any is_nothing rows)) ≡ among x rows
among_told x rows found e = by (is_nothing x) refl
  where
    by : (b : Bool) → is_nothing x ≡ b → cond b (cond (is_any rows) Truth.Unknown Truth.No) (some (list_any (same_datum x) found) (list_any is_nothing rows)) ≡ among x rows
    by true h = sym (null_among x rows h)
    by false h = ap (λ s. some s (list_any is_nothing rows)) (ap (list_any (same_datum x)) e ∙ printed x rows) ∙ sym (some_among x rows h)

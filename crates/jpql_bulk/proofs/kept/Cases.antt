-- What CASE and the tests inside one give is of the sort that typing says.
use Rattle.std.proofs.Common.{◌≡◌, refl, sym, Bool, true, false, List, [], ◌∷◌}
use Rattle.std.specs.Prelude.{◌&&◌, if◌then◌else◌, Option, Some, None}
use Rattle.std.specs.List.{list_all}
use Rattle.std.proofs.lemmas.Bool.{and_from, and_parts, false≢true}
use Rattle.jpa_rows.proofs.laws.Facts.{some_none, value_in}
use Rattle.jpa_stored.specs.objects.Sets.{each_fits}
use Rattle.jpql_trees.specs.declared.tree.Comparison.{Comparison}
use Rattle.jpql_trees.specs.tree.Steps.{◌>>=◌}
use Rattle.jpql_types.specs.declared.sort.Sort.{Sort}
use Rattle.jpql_types.specs.Scope.{when}
use Rattle.jpql_types.specs.Sorts.{integer, are_comparable, comparison_sort, joined, joined_basic, match_sort, outcomes, whens}
use Rattle.jpql_meaning.specs.declared.eval.datum.Datum.{Datum}
use Rattle.jpql_meaning.specs.declared.eval.datum.Truth.{Truth}
use Rattle.jpql_meaning.specs.eval.Truths.{is_yes}
use Rattle.jpql_meaning.specs.eval.Data.{compared}
use Rattle.jpql_meaning.specs.eval.Cases.{truth_datum, matched, chosen_of}
use Rattle.jpql_bulk.specs.kept.Fits.{is_of_sort}
use Rattle.jpql_bulk.proofs.kept.Sorts.{null_of, basic_each}

pub truth_of_sort : (t : Truth) → is_of_sort integer (truth_datum t) ≡ true
truth_of_sort Truth.Yes = refl
truth_of_sort Truth.No = refl
truth_of_sort Truth.Unknown = refl

-- ---- what stands behind THEN and ELSE

outcomes_fit : (ss : List Sort) (ds : List Datum) → each_fits is_of_sort ss ds ≡ true → each_fits is_of_sort (outcomes ss) (outcomes ds) ≡ true
outcomes_fit [] [] h = refl
outcomes_fit [] (d ∷ ds) h = absurd (false≢true h)
outcomes_fit (s ∷ []) [] h = absurd (false≢true h)
outcomes_fit (s ∷ []) (d ∷ []) h = h
outcomes_fit (s ∷ []) (d ∷ e ∷ ds) h = absurd (false≢true (and_parts (is_of_sort s d) false h).1)
outcomes_fit (s ∷ t ∷ ss) [] h = absurd (false≢true h)
outcomes_fit (s ∷ t ∷ ss) (d ∷ []) h = absurd (false≢true (and_parts (is_of_sort s d) false h).1)
outcomes_fit (s ∷ t ∷ ss) (d ∷ e ∷ ds) h =
    let more = and_parts (is_of_sort s d) (is_of_sort t e && each_fits is_of_sort ss ds) h in
    let parts = and_parts (is_of_sort t e) (each_fits is_of_sort ss ds) more.1 in
    and_from (is_of_sort t e) (each_fits is_of_sort (outcomes ss) (outcomes ds)) parts.0 (outcomes_fit ss ds parts.1)

matched_each : (s : Sort) (x : Datum) (ds : List Datum) → list_all (is_of_sort s) (outcomes ds) ≡ true → is_of_sort s (matched x ds) ≡ true
matched_each s x [] h = null_of s
matched_each s x (d ∷ []) h = (and_parts (is_of_sort s d) true h).0
matched_each s x (w ∷ a ∷ ds) h =
    let parts = and_parts (is_of_sort s a) (list_all (is_of_sort s) (outcomes ds)) h in
    by_test (is_yes (compared Comparison.Equal x w)) parts.0 (matched_each s x ds parts.1)
  where
    by_test : (b : Bool) → is_of_sort s a ≡ true → is_of_sort s (matched x ds) ≡ true → is_of_sort s (if b then a else matched x ds) ≡ true
    by_test true own later = own
    by_test false own later = later

pub matched_is : (r : Sort) (x : Datum) (ss : List Sort) (ds : List Datum) → joined_basic (outcomes ss) ≡ Some r → each_fits is_of_sort ss ds ≡ true → is_of_sort r (matched x ds) ≡ true
matched_is r x ss ds e h = matched_each r x ds (basic_each r (outcomes ss) (outcomes ds) e (outcomes_fit ss ds h))

pub chosen_is : (r : Sort) (ss : List Sort) (ds : List Datum) → match_sort ss ≡ Some r → each_fits is_of_sort ss ds ≡ true → is_of_sort r (chosen_of ds) ≡ true
chosen_is r [] ds e h = absurd (some_none r (sym e))
chosen_is r (s ∷ ss) [] e h = absurd (false≢true h)
chosen_is r (s ∷ ss) (d ∷ ds) e h = by_sort (joined (s ∷ whens ss)) e
  where
    by_sort : (o : Option Sort) → (o >>= λ t. joined_basic (outcomes ss)) ≡ Some r → is_of_sort r (matched d ds) ≡ true
    by_sort None f = absurd (some_none r (sym f))
    by_sort (Some t) f = matched_is r d ss ds f (and_parts (is_of_sort s d) (each_fits is_of_sort ss ds) h).1

-- ---- where a test may stand, it gives an integer

when_integer : (b : Bool) (r : Sort) → when b integer ≡ Some r → integer ≡ r
when_integer true r e = value_in integer r e
when_integer false r e = absurd (some_none r (sym e))

pub compared_integer : (op : Comparison) (ss : List Sort) (r : Sort) → comparison_sort op ss ≡ Some r → integer ≡ r
compared_integer op [] r e = absurd (some_none r (sym e))
compared_integer op (a ∷ []) r e = absurd (some_none r (sym e))
compared_integer op (a ∷ b ∷ ss) r e = when_integer (are_comparable op a b) r e

pub integer_then : (o : Option Sort) (r : Sort) → (o >>= λ s. Some integer) ≡ Some r → integer ≡ r
integer_then None r e = absurd (some_none r (sym e))
integer_then (Some s) r e = value_in integer r e

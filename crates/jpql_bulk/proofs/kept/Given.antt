-- The datum that a parameter stands for is of the parameter's sort.
use Rattle.std.proofs.Common.{◌≡◌, refl, sym, subst, ℕ, ◌+◌, suc, Bool, true, false, List, [], ◌∷◌, arith}
use Rattle.std.specs.Prelude.{◌||◌, if◌then◌else◌, find, Option, Some, None, unwrap_or, slice_index_or}
use Rattle.std.specs.List.{list_any, position_from}
use Rattle.std.proofs.lemmas.Bool.{and_parts, false≢true}
use Rattle.jpa_model.specs.Chains.{same_name}
use Rattle.jpa_model.specs.declared.unit.PersistenceUnit.{PersistenceUnit}
use Rattle.jpql_trees.specs.tree.Names.{Text}
use Rattle.jpql_types.specs.declared.sort.Sort.{Sort}
use Rattle.jpql_types.specs.Typing.{parameter_sort}
use Rattle.jpql_types.specs.Trees.{place_of_parameter}
use Rattle.jpql_meaning.specs.declared.eval.datum.Datum.{Datum}
use Rattle.jpql_meaning.specs.eval.Data.{null}
use Rattle.jpql_bulk.specs.kept.Fits.{is_of, are_of}

module _ (m : PersistenceUnit) (t : Text × Sort → Bool) where
  abbrev sort_in : Option (Text × Sort) → Sort
  sort_in None = Sort.Null
  sort_in (Some p) = p.1

  abbrev place_in : Option ℕ → ℕ
  place_in o = unwrap_or o 0

  -- a place that is counted from one on
  later : (k : ℕ) (sorts : List (Text × Sort)) → list_any t sorts ≡ true → place_in (position_from t (k + 1) sorts) ≡ suc (place_in (position_from t k sorts))
  later k [] h = absurd (false≢true h)
  later k (p ∷ sorts) h = by_test (t p) h (λ g. later (k + 1) sorts g)
    where
      by_test : (b : Bool) → (b || list_any t sorts) ≡ true
          → (list_any t sorts ≡ true → place_in (position_from t (k + 1 + 1) sorts) ≡ suc (place_in (position_from t (k + 1) sorts)))
          → place_in (if b then Some (k + 1) else position_from t (k + 1 + 1) sorts) ≡ suc (place_in (if b then Some k else position_from t (k + 1) sorts))
      by_test true g rest = omega arith
      by_test false g rest = rest g

  found_datum : (sorts : List (Text × Sort)) (ds : List Datum) → are_of m sorts ds ≡ true → list_any t sorts ≡ true
      → is_of m (sort_in (find t sorts)) (slice_index_or ds (place_in (position_from t 0 sorts)) null) ≡ true
  found_datum [] ds h g = absurd (false≢true g)
  found_datum (p ∷ sorts) [] h g = absurd (false≢true h)
  found_datum (p ∷ sorts) (d ∷ ds) h g =
      let parts = and_parts (is_of m p.1 d) (are_of m sorts ds) h in
      by_test (t p) g parts.0 (λ k. found_datum sorts ds parts.1 k)
    where
      by_test : (b : Bool) → (b || list_any t sorts) ≡ true → is_of m p.1 d ≡ true
          → (list_any t sorts ≡ true → is_of m (sort_in (find t sorts)) (slice_index_or ds (place_in (position_from t 0 sorts)) null) ≡ true)
          → is_of m (sort_in (if b then Some p else find t sorts)) (slice_index_or (d ∷ ds) (place_in (if b then Some 0 else position_from t (0 + 1) sorts)) null) ≡ true
      by_test true k own rest = own
      by_test false k own rest = subst (λ n. is_of m (sort_in (find t sorts)) (slice_index_or (d ∷ ds) n null) ≡ true) (sym (later 0 sorts k)) (rest k)

pub parameter_of : (m : PersistenceUnit) (sorts : List (Text × Sort)) (ds : List Datum) (name : Text) → are_of m sorts ds ≡ true
    → list_any (λ (p : Text × Sort). same_name p.0 name) sorts ≡ true
    → is_of m (parameter_sort sorts name) (slice_index_or ds (place_of_parameter sorts name) null) ≡ true
parameter_of m sorts ds name h g = by_found (find (λ (p : Text × Sort). same_name p.0 name) sorts) refl
  where
    all : is_of m (sort_in m (λ (p : Text × Sort). same_name p.0 name) (find (λ (p : Text × Sort). same_name p.0 name) sorts)) (slice_index_or ds (place_of_parameter sorts name) null) ≡ true
    all = found_datum m (λ (p : Text × Sort). same_name p.0 name) sorts ds h g

    by_found : (o : Option (Text × Sort)) → find (λ (p : Text × Sort). same_name p.0 name) sorts ≡ o
        → is_of m (parameter_sort sorts name) (slice_index_or ds (place_of_parameter sorts name) null) ≡ true
    by_found None e = rw e (rw e at all)
    by_found (Some p) e = rw e (rw e at all)

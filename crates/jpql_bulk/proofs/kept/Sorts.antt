-- Data of sorts that go together.
use Rattle.std.proofs.Common.{◌≡◌, ◌∙◌, refl, ap, sym, subst, ℕ, Bool, true, false, List, [], ◌∷◌}
use Rattle.std.specs.Prelude.{if◌then◌else◌, Option, Some, None}
use Rattle.std.specs.List.{list_all}
use Rattle.std.proofs.lemmas.Bool.{and_from, and_parts, false≢true, eqb-true}
use Rattle.jpa_value.specs.declared.value.Value.{Value}
use Rattle.jpa_value.specs.declared.value.Kind.{Kind}
use Rattle.jpa_value.specs.Value.{is_null}
use Rattle.jpa_model.specs.declared.unit.PersistenceUnit.{PersistenceUnit}
use Rattle.jpa_rows.proofs.laws.Facts.{some_none, value_in}
use Rattle.jpa_stored.specs.objects.Sets.{each_fits}
use Rattle.jpql_trees.specs.tree.Steps.{◌>>=◌}
use Rattle.jpql_types.specs.declared.sort.Sort.{Sort}
use Rattle.jpql_types.specs.Scope.{when}
use Rattle.jpql_types.specs.Sorts.{same_kind, goes_with, is_basic, known_of, joined_with, joined, joined_basic}
use Rattle.jpql_meaning.specs.declared.eval.datum.Datum.{Datum}
use Rattle.jpql_meaning.specs.eval.Data.{null}
use Rattle.jpql_bulk.specs.kept.Fits.{is_kind, is_of_sort, is_named_in, is_of}

-- ---- null is of every sort

null_kind : (k : Kind) → is_kind k Value.Null ≡ true
null_kind k = refl

pub null_of : (s : Sort) → is_of_sort s null ≡ true
null_of Sort.Null = refl
null_of (Sort.Basic k) = refl
null_of (Sort.Entity root) = refl

is_the_null : (v : Value) → is_null v ≡ true → v ≡ Value.Null
is_the_null Value.Null h = refl
is_the_null (Value.Int n) h = absurd (false≢true h)
is_the_null (Value.Text bytes) h = absurd (false≢true h)
is_the_null (Value.Bytes bytes) h = absurd (false≢true h)

-- what is of the sort of null is null
pub nothing_is : (d : Datum) → is_of_sort Sort.Null d ≡ true → d ≡ null
nothing_is (Datum.Plain v) h = ap Datum.Plain (is_the_null v h)
nothing_is (Datum.Entity id) h = absurd (false≢true h)

pub nothing_of : (s : Sort) (d : Datum) → is_of_sort Sort.Null d ≡ true → is_of_sort s d ≡ true
nothing_of s d h = ap (is_of_sort s) (nothing_is d h) ∙ null_of s

-- ---- sorts that go together

pub kinds_are : (a b : Kind) → same_kind a b ≡ true → a ≡ b
kinds_are Kind.Int Kind.Int h = refl
kinds_are Kind.Int Kind.Text h = absurd (false≢true h)
kinds_are Kind.Int Kind.Bytes h = absurd (false≢true h)
kinds_are Kind.Text Kind.Int h = absurd (false≢true h)
kinds_are Kind.Text Kind.Text h = refl
kinds_are Kind.Text Kind.Bytes h = absurd (false≢true h)
kinds_are Kind.Bytes Kind.Int h = absurd (false≢true h)
kinds_are Kind.Bytes Kind.Text h = absurd (false≢true h)
kinds_are Kind.Bytes Kind.Bytes h = refl

other_root : (a b : ℕ) (d : Datum) → is_of_sort (Sort.Entity b) d ≡ true → is_of_sort (Sort.Entity a) d ≡ true
other_root a b (Datum.Plain v) h = h
other_root a b (Datum.Entity id) h = refl

-- a datum of one is of the other, where that is known
pub goes_of : (s t : Sort) (d : Datum) → goes_with s t ≡ true → (s ≡ Sort.Null → ⊥) → is_of_sort t d ≡ true → is_of_sort s d ≡ true
goes_of Sort.Null t d g k h = absurd (k refl)
goes_of (Sort.Basic a) Sort.Null d g k h = nothing_of (Sort.Basic a) d h
goes_of (Sort.Basic a) (Sort.Basic b) d g k h = subst (λ c. is_of_sort (Sort.Basic c) d ≡ true) (sym (kinds_are a b g)) h
goes_of (Sort.Basic a) (Sort.Entity root) d g k h = absurd (false≢true g)
goes_of (Sort.Entity a) Sort.Null d g k h = nothing_of (Sort.Entity a) d h
goes_of (Sort.Entity a) (Sort.Basic b) d g k h = absurd (false≢true g)
goes_of (Sort.Entity a) (Sort.Entity b) d g k h = other_root a b d h

-- and is named in the hierarchy
pub goes_named : (m : PersistenceUnit) (s t : Sort) (d : Datum) → goes_with s t ≡ true → is_of m t d ≡ true → is_named_in m s d ≡ true
goes_named m Sort.Null t d g h = refl
goes_named m (Sort.Basic a) t d g h = refl
goes_named m (Sort.Entity a) t (Datum.Plain v) g h = refl
goes_named m (Sort.Entity a) Sort.Null (Datum.Entity id) g h = absurd (false≢true h)
goes_named m (Sort.Entity a) (Sort.Basic b) (Datum.Entity id) g h = absurd (false≢true g)
goes_named m (Sort.Entity a) (Sort.Entity b) (Datum.Entity id) g h =
    subst (λ c. is_named_in m (Sort.Entity c) (Datum.Entity id) ≡ true) (sym (eqb-true a b g)) h

-- ---- the one sort of all

known_left : (s t : Sort) (d : Datum) → is_of_sort s d ≡ true → is_of_sort (known_of s t) d ≡ true
known_left Sort.Null t d h = nothing_of t d h
known_left (Sort.Basic a) t d h = h
known_left (Sort.Entity a) t d h = h

basic_known : (a : Kind) → Sort.Basic a ≡ Sort.Null → ⊥
basic_known a e = absurd cc

entity_known : (a : ℕ) → Sort.Entity a ≡ Sort.Null → ⊥
entity_known a e = absurd cc

known_right : (s t : Sort) (d : Datum) → goes_with s t ≡ true → is_of_sort t d ≡ true → is_of_sort (known_of s t) d ≡ true
known_right Sort.Null t d g h = h
known_right (Sort.Basic a) t d g h = goes_of (Sort.Basic a) t d g (basic_known a) h
known_right (Sort.Entity a) t d g h = goes_of (Sort.Entity a) t d g (entity_known a) h

-- each is of the sort of all, and so is what was of the sort before
pub record AreJoined (s r : Sort) (ds : List Datum) : Type 0 where
  pub before : (d : Datum) → is_of_sort s d ≡ true → is_of_sort r d ≡ true
  pub each : list_all (is_of_sort r) ds ≡ true

pub joined_of : (s r : Sort) (ss : List Sort) (ds : List Datum) → joined_with s ss ≡ Some r → each_fits is_of_sort ss ds ≡ true → AreJoined s r ds
joined_of s r [] [] e h = record { before = λ d k. subst (λ t. is_of_sort t d ≡ true) (value_in s r e) k; each = refl }
joined_of s r [] (d ∷ ds) e h = absurd (false≢true h)
joined_of s r (t ∷ ts) [] e h = absurd (false≢true h)
joined_of s r (t ∷ ts) (d ∷ ds) e h = by_test (goes_with s t) refl e (λ g. joined_of (known_of s t) r ts ds g (and_parts (is_of_sort t d) (each_fits is_of_sort ts ds) h).1)
  where
    by_test : (b : Bool) → goes_with s t ≡ b → (if b then joined_with (known_of s t) ts else None) ≡ Some r
        → (joined_with (known_of s t) ts ≡ Some r → AreJoined (known_of s t) r ds) → AreJoined s r (d ∷ ds)
    by_test true g f k =
        let j = k f in
        record {
          before = λ x of_s. j.before x (known_left s t x of_s);
          each = and_from (is_of_sort r d) (list_all (is_of_sort r) ds)
              (j.before d (known_right s t d g (and_parts (is_of_sort t d) (each_fits is_of_sort ts ds) h).0)) j.each;
        }
    by_test false g f k = absurd (some_none r (sym f))

basic_joined : (o : Option Sort) (r : Sort) → (o >>= λ s. when (is_basic s) s) ≡ Some r → o ≡ Some r
basic_joined None r e = absurd (some_none r (sym e))
basic_joined (Some s) r e = by_test (is_basic s) e
  where
    by_test : (b : Bool) → when b s ≡ Some r → Some s ≡ Some r
    by_test true f = f
    by_test false f = absurd (some_none r (sym f))

-- COALESCE and NULLIF
pub basic_each : (r : Sort) (ss : List Sort) (ds : List Datum) → joined_basic ss ≡ Some r → each_fits is_of_sort ss ds ≡ true → list_all (is_of_sort r) ds ≡ true
basic_each r ss ds e h = (joined_of Sort.Null r ss ds (basic_joined (joined ss) r e) h).each

-- Next numbers one by one: the row of each that rose is put, and the rows of the set with the new numbers are seen.
use Rattle.std.specs.Prelude.{◌≡◌, ◌≢◌, ℕ, zero, suc, pos, ◌<◌, ◌≤◌, ◌+◌, ◌^◌, Bool, true, false, cond, ◌==◌, ◌&&◌, nat_le, nat_lt, List, [], ◌∷◌, length, slice_set, Some}
use Rattle.std.proofs.Common.{refl, sym, ap, subst, ◌∙◌, arith, get_or, add-one}
use Rattle.std.proofs.lemmas.Bool.Decides.{nat_tests}
use Rattle.std.specs.FinMap.{put}
use Rattle.jpa_value.specs.Value.{identity_cmp, is_i64}
use Rattle.jpa_model.specs.declared.unit.Entity.{Entity}
use Rattle.jpa_model.specs.declared.unit.Origin.{Origin}
use Rattle.jpa_model.specs.declared.unit.PersistenceUnit.{PersistenceUnit}
use Rattle.jpa_model.specs.declared.unit.Root.{Root}
use Rattle.jpa_model.specs.Chains.{entity_at, no_entity}
use Rattle.jpa_model.specs.Kept.{IsDescribed}
use Rattle.jpa_behaviour.specs.Behaviour.{World, IsRegular}
use Rattle.jpa_stored.specs.objects.Sets.{StoredSet, each_fits}
use Rattle.jpa_rows.specs.rows.Cells.{is_next, are_numbers}
use Rattle.jpa_rows.specs.rows.Numbers.{IsNarrowOrigin}
use Rattle.jpa_rows.specs.rows.Rows.{Rows}
use Rattle.jpa_rows.specs.rows.Tables.{schema_of}
use Rattle.jpa_rows.proofs.laws.Each.{each_put}
use Rattle.jpa_rows.proofs.laws.Facts.{and_first, and_second, and_both, true_false}
use Rattle.jpa_rows.proofs.laws.Overlay.{seen_put}
use Rattle.jpa_object_rows.specs.meaning.Unambiguous.{is_class}
use Rattle.jpa_object_rows.proofs.meaning.Bytes.Described.{described_mapped}
use Rattle.jpa_object_rows.proofs.meaning.Bytes.Mapped.{IsMapped}
use Rattle.jpa_object_rows.proofs.meaning.Bytes.Orders.{identities, are_same_numbers}
use Rattle.jpa_object_rows.specs.meaning.Raw.{is_id_of}
use Rattle.jpa_object_rows.specs.meaning.Objects.{is_discriminator, number_id, number_row}
use Rattle.jpa_object_rows.proofs.meaning.Exact.{rows_numbered_in}
use Rattle.jpa_object_rows.proofs.meaning.Named.{number_named}
use Rattle.jpa_rows.specs.overlay.Overlay.{Changes}
use Rattle.jpa_object_rows.specs.store.Shown.{with_next, Show}

-- ---- the first so many of the new numbers, and those before for the others

abbrev pub stepped : ℕ → List ℕ → List ℕ → List ℕ
stepped zero next before = before
stepped (suc i) [] before = before
stepped (suc i) (n ∷ next) [] = []
stepped (suc i) (n ∷ next) (b ∷ before) = n ∷ stepped i next before

module _ {A B : Type 0} (ok : A → B → Bool) where
  pub fits_length : (xs : List A) (ys : List B) → each_fits ok xs ys ≡ true → length xs ≡ length ys
  fits_length [] [] h = refl
  fits_length [] (y ∷ ys) h = absurd (true_false (sym h))
  fits_length (x ∷ xs) [] h = absurd (true_false (sym h))
  fits_length (x ∷ xs) (y ∷ ys) h = ap suc (fits_length xs ys (and_second (ok x y) _ h))

  pub fits_at : (xs : List A) (ys : List B) (i : ℕ) (d : A) (e : B) → each_fits ok xs ys ≡ true → i < length xs → ok (get_or xs i d) (get_or ys i e) ≡ true
  fits_at [] ys i d e h l = absurd (omega arith)
  fits_at (x ∷ xs) [] i d e h l = absurd (true_false (sym h))
  fits_at (x ∷ xs) (y ∷ ys) zero d e h l = and_first (ok x y) _ h
  fits_at (x ∷ xs) (y ∷ ys) (suc i) d e h l = fits_at xs ys i d e (and_second (ok x y) _ h) (omega arith)

-- they fit what both fit
stepped_fits : {A : Type 0} (ok : A → ℕ → Bool) (xs : List A) (i : ℕ) (next before : List ℕ) → each_fits ok xs before ≡ true → each_fits ok xs next ≡ true → each_fits ok xs (stepped i next before) ≡ true
stepped_fits ok xs zero next before h g = h
stepped_fits ok [] (suc i) [] before h g = h
stepped_fits ok [] (suc i) (n ∷ next) before h g = absurd (true_false (sym g))
stepped_fits ok (x ∷ xs) (suc i) [] before h g = absurd (true_false (sym g))
stepped_fits ok (x ∷ xs) (suc i) (n ∷ next) [] h g = absurd (true_false (sym h))
stepped_fits ok (x ∷ xs) (suc i) (n ∷ next) (b ∷ before) h g =
    and_both (ok x n) _ (and_first (ok x n) _ g) (stepped_fits ok xs i next before (and_second (ok x b) _ h) (and_second (ok x n) _ g))

set_next : (i : ℕ) (next before : List ℕ) (d : ℕ) → i < length next → length before ≡ length next → slice_set (stepped i next before) i (get_or next i d) ≡ stepped (suc i) next before
set_next i [] before d l e = absurd (omega arith)
set_next i (n ∷ next) [] d l e = absurd (omega arith)
set_next zero (n ∷ next) (b ∷ before) d l e = refl
set_next (suc i) (n ∷ next) (b ∷ before) d l e = ap (λ r. n ∷ r) (set_next i next before d (omega arith) (omega arith))

-- a number that rose
stepped_more : (i : ℕ) (next before : List ℕ) (d : ℕ) → i < length next → length before ≡ length next → slice_set (stepped i next before) i (get_or next i d) ≡ stepped (i + 1) next before
stepped_more i next before d l e = set_next i next before d l e ∙ ap (λ k. stepped k next before) (sym (add-one i))

same_next : (i : ℕ) (next before : List ℕ) (d : ℕ) → i < length next → length before ≡ length next → get_or before i d ≡ get_or next i d → stepped i next before ≡ stepped (suc i) next before
same_next i [] before d l e is = absurd (omega arith)
same_next i (n ∷ next) [] d l e is = absurd (omega arith)
same_next zero (n ∷ next) (b ∷ before) d l e is = ap (λ m. m ∷ before) is
same_next (suc i) (n ∷ next) (b ∷ before) d l e is = ap (λ r. n ∷ r) (same_next i next before d (omega arith) (omega arith) is)

-- and one that did not
stepped_same : (i : ℕ) (next before : List ℕ) (d : ℕ) → i < length next → length before ≡ length next → get_or before i d ≡ get_or next i d → stepped i next before ≡ stepped (i + 1) next before
stepped_same i next before d l e is = same_next i next before d l e is ∙ ap (λ k. stepped k next before) (sym (add-one i))

stepped_all : (i : ℕ) (next before : List ℕ) → length next ≤ i → length before ≡ length next → stepped i next before ≡ next
stepped_all zero [] [] l e = refl
stepped_all zero [] (b ∷ before) l e = absurd (omega arith)
stepped_all zero (n ∷ next) before l e = absurd (omega arith)
stepped_all (suc i) [] [] l e = refl
stepped_all (suc i) [] (b ∷ before) l e = absurd (omega arith)
stepped_all (suc i) (n ∷ next) [] l e = absurd (omega arith)
stepped_all (suc i) (n ∷ next) (b ∷ before) l e = ap (λ r. n ∷ r) (stepped_all i next before (omega arith) (omega arith))

stepped_length : (i : ℕ) (next before : List ℕ) → length before ≡ length next → length (stepped i next before) ≡ length next
stepped_length zero next before e = e
stepped_length (suc i) [] before e = e
stepped_length (suc i) (n ∷ next) [] e = e
stepped_length (suc i) (n ∷ next) (b ∷ before) e = ap suc (stepped_length i next before (omega arith))

-- ---- a next number

is_positive : (origin : Origin) (k : ℕ) → is_next origin k ≡ true → nat_lt 0 k ≡ true
is_positive (Origin.Root root) k h =
    elim root.generated as (λ b. cond b (nat_lt 0 k && is_i64 (pos k)) (k == 1) ≡ true → nat_lt 0 k ≡ true) [
      | true ↦ λ g. and_first (nat_lt 0 k) _ g
      | false ↦ λ g. ap (nat_lt 0) (are_same_numbers k 1 g)
    ] h
is_positive (Origin.Extends parent) k h = ap (nat_lt 0) (are_same_numbers k 1 h)

-- one that rose is not 1
not_first : (origin : Origin) (b k : ℕ) → is_next origin b ≡ true → nat_le b k ≡ true → b ≢ k → k == 1 ≡ false
not_first origin b k h le apart = above b k (is_positive origin b h) le apart
  where
    above : (b k : ℕ) → nat_lt 0 b ≡ true → nat_le b k ≡ true → b ≢ k → k == 1 ≡ false
    above b k p le apart = grind (arith, nat_tests)

small_table : (table : ℕ) → table < 2 ^ 32 → is_i64 (pos table) ≡ true
small_table table l = grind (arith, nat_tests)

-- ---- its row

module _ (world : World) (mapped : IsMapped world.model) (regular : IsRegular world) (named : (class : ℕ) → is_class world.model class ≡ true → is_discriminator (entity_at world.model class) ≡ true)
    (base : Rows) (changes : Changes) (set : StoredSet) (numbers : List ℕ) (s : Show world base changes set numbers) (class k : ℕ) (within : is_class world.model class ≡ true) (long : nat_lt class (length numbers) ≡ true)
    (more : k == 1 ≡ false) (still : are_numbers world.model (slice_set numbers class k) ≡ true) where
  root_put : (root : Root) → (entity_at world.model class).origin ≡ Origin.Root root → root.table < 2 ^ 32 → root.generated ≡ true → nat_lt 0 k ≡ true → is_i64 (pos k) ≡ true
      → Show world base (with_next (Origin.Root root) k changes) set (slice_set numbers class k)
  root_put root is narrow generated positive small = record {
    below = s.below;
    own = each_put identities (λ id row. is_id_of (schema_of world.model) id ≡ true) (number_id root.table) (Some (number_row k)) changes (number_named world.model root.table (small_table root.table narrow)) s.own;
    rising = s.rising;
    storable = s.storable;
    numbered = still;
    seen = seen_put identities base s.below changes (number_id root.table) (Some (number_row k)) ∙ ap (put identity_cmp (number_id root.table) (number_row k)) s.seen
        ∙ rows_numbered_in world mapped regular named set s.storable numbers s.numbered class k root within long is generated more positive small;
  }

  number_put : (origin : Origin) → (entity_at world.model class).origin ≡ origin → IsNarrowOrigin origin → is_next origin k ≡ true → Show world base (with_next origin k changes) set (slice_set numbers class k)
  number_put (Origin.Extends parent) is narrow h = absurd (true_false (sym h ∙ more))
  number_put (Origin.Root root) is narrow h =
      elim root.generated as (λ b. root.generated ≡ b → cond b (nat_lt 0 k && is_i64 (pos k)) (k == 1) ≡ true → Show world base (with_next (Origin.Root root) k changes) set (slice_set numbers class k)) [
        | true ↦ λ generated g. root_put root is narrow.table generated (and_first (nat_lt 0 k) _ g) (and_second (nat_lt 0 k) _ g)
        | false ↦ λ generated g. absurd (true_false (sym g ∙ more))
      ] refl h

-- ---- a turn of the loop over them

pub is_below : (i n : ℕ) → i < n → nat_lt i n ≡ true
is_below i n l = grind (arith, nat_tests)

-- a number of the metamodel
pub is_number : (m : PersistenceUnit) (numbers : List ℕ) (i : ℕ) → are_numbers m numbers ≡ true → i < length numbers → is_next (entity_at m i).origin (get_or numbers i 0) ≡ true
is_number m numbers i are l =
    let same = fits_length (λ (e : Entity) (k : ℕ). is_next e.origin k) m.entities numbers are in
    fits_at (λ (e : Entity) (k : ℕ). is_next e.origin k) m.entities numbers i no_entity 0 are (subst (λ n. i < n) (sym same) l)

module _ (m : PersistenceUnit) (described : IsDescribed m) (named : (class : ℕ) → is_class m class ≡ true → is_discriminator (entity_at m class) ≡ true) (before next : List ℕ) (are : are_numbers m before ≡ true)
    (are_next : are_numbers m next ≡ true) (rising : each_fits nat_le before next ≡ true) (world : World) (model : world.model ≡ m) (base : Rows) (set : StoredSet) where
  both : length before ≡ length next
  both = fits_length nat_le before next rising

  pub turned_same : (changes new : Changes) (i : ℕ) → i < length next → get_or before i 0 ≡ get_or next i 0 → new ≡ changes → Show world base changes set (stepped i next before)
      → Show world base new set (stepped (i + 1) next before)
  turned_same changes new i l same e s =
      subst (λ numbers. Show world base new set numbers) (stepped_same i next before 0 l both same) (subst (λ cs. Show world base cs set (stepped i next before)) (sym e) s)

  pub turned_over : (changes : Changes) (i : ℕ) → length next ≤ i → Show world base changes set (stepped i next before) → Show world base changes set next
  turned_over changes i l s = subst (λ numbers. Show world base changes set numbers) (stepped_all i next before l both) s

  module _ (regular : IsRegular world) (changes new : Changes) (i : ℕ) (l : i < length next) where
    within : is_class m i ≡ true
    within = is_below i (length m.entities) (subst (λ n. i < n) (sym (fits_length (λ (e : Entity) (k : ℕ). is_next e.origin k) m.entities next are_next)) l)

    long : nat_lt i (length (stepped i next before)) ≡ true
    long = ap (nat_lt i) (stepped_length i next before both) ∙ is_below i (length next) l

    more : get_or before i 0 ≢ get_or next i 0 → get_or next i 0 == 1 ≡ false
    more apart =
        not_first (entity_at m i).origin (get_or before i 0) (get_or next i 0) (is_number m before i are (subst (λ n. i < n) (sym both) l))
        (fits_at nat_le before next i 0 0 rising (subst (λ n. i < n) (sym both) l)) apart

    still : are_numbers m (slice_set (stepped i next before) i (get_or next i 0)) ≡ true
    still =
        ap (are_numbers m) (stepped_more i next before 0 l both) ∙ stepped_fits (λ (e : Entity) (k : ℕ). is_next e.origin k) m.entities (i + 1) next before are are_next

    pub turned_more : (origin : Origin) → origin ≡ (entity_at m i).origin → IsNarrowOrigin origin → get_or before i 0 ≢ get_or next i 0 → new ≡ with_next origin (get_or next i 0) changes
        → Show world base changes set (stepped i next before) → Show world base new set (stepped (i + 1) next before)
    turned_more origin is narrow apart e s =
        let back = sym model in
        let next_is : is_next origin (get_or next i 0) ≡ true = subst (λ o. is_next o (get_or next i 0) ≡ true) (sym is) (is_number m next i are_next l) in
        subst (λ numbers. Show world base new set numbers) (stepped_more i next before 0 l both)
        (subst (λ cs. Show world base cs set (slice_set (stepped i next before) i (get_or next i 0))) (sym e)
        (number_put world (described_mapped world.model (subst IsDescribed back described)) regular
        (subst (λ (n : PersistenceUnit). (class : ℕ) → is_class n class ≡ true → is_discriminator (entity_at n class) ≡ true) back named)
        base changes set (stepped i next before) s i (get_or next i 0) (subst (λ (n : PersistenceUnit). is_class n i ≡ true) back within) long (more apart)
        (subst (λ (n : PersistenceUnit). are_numbers n (slice_set (stepped i next before) i (get_or next i 0)) ≡ true) back still) origin
        (sym (is ∙ ap (λ (n : PersistenceUnit). (entity_at n i).origin) back)) narrow next_is))

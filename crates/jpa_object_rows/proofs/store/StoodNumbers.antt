-- The row of a next number in the rows of a set: where the number is not 1 it stands, and else none does.
use Rattle.std.specs.Prelude.{◌≡◌, ◌≢◌, ℕ, zero, suc, pos, ◌<◌, nat_le, Bool, true, false, cond, ◌==◌, ◌&&◌, nat_lt, List, [], ◌∷◌, length, slice_set, Some, None}
use Rattle.std.proofs.Common.{refl, sym, ap, subst, ◌∙◌, arith, get_or}
use Rattle.std.specs.List.{zip}
use Rattle.std.specs.FinMap.{find}
use Rattle.std.specs.Ordering.{eq_by_cmp}
use Rattle.jpa_value.specs.Value.{identity_cmp, is_i64}
use Rattle.jpa_model.specs.declared.unit.Entity.{Entity}
use Rattle.jpa_model.specs.declared.unit.Origin.{Origin}
use Rattle.jpa_model.specs.declared.unit.PersistenceUnit.{PersistenceUnit}
use Rattle.jpa_model.specs.declared.unit.Root.{Root}
use Rattle.jpa_model.specs.Chains.{entity_at}
use Rattle.jpa_model.specs.Kept.{IsDescribed}
use Rattle.jpa_behaviour.specs.Behaviour.{World, IsRegular}
use Rattle.jpa_stored.specs.objects.Sets.{StoredSet, each_fits}
use Rattle.jpa_rows.specs.rows.Cells.{is_next, are_numbers}
use Rattle.jpa_rows.specs.rows.Rows.{RowId, Row, Rows}
use Rattle.jpa_rows.proofs.laws.Elements.{Has}
use Rattle.jpa_rows.proofs.laws.Facts.{and_first, and_second, some_none, value_in}
use Rattle.jpa_rows.proofs.laws.Maps.{same_key, ties_itself}
use Rattle.jpa_object_rows.specs.meaning.Unambiguous.{is_class}
use Rattle.jpa_object_rows.specs.meaning.View.{AreStorable}
use Rattle.jpa_object_rows.proofs.meaning.Bytes.Described.{described_mapped}
use Rattle.jpa_object_rows.proofs.meaning.Bytes.Mapped.{IsMapped}
use Rattle.jpa_object_rows.proofs.meaning.Bytes.MappedClasses.{unambiguous_mapped}
use Rattle.jpa_object_rows.proofs.meaning.Bytes.Orders.{identities, are_same_numbers}
use Rattle.jpa_object_rows.specs.meaning.Objects.{is_discriminator, number_id, number_row}
use Rattle.jpa_rows.specs.rows.NextNumbers.{number_entry, number_rows}
use Rattle.jpa_object_rows.specs.meaning.Sets.{rows_of}
use Rattle.jpa_object_rows.proofs.meaning.Marked.{set_passed}
use Rattle.jpa_object_rows.proofs.meaning.NextNumbers.{found_row, number_found, has_set}
use Rattle.jpa_rows.specs.overlay.Overlay.{Changes}
use Rattle.jpa_object_rows.specs.store.Shown.{with_puts, Recall, with_old_next}
use Rattle.jpa_object_rows.specs.store.Shown as shown
use Rattle.jpa_object_rows.proofs.store.Stepped.{fits_length, is_number, is_below}
use Rattle.jpa_object_rows.proofs.store.Stood.{past_puts, Replaces, recalled}

-- ---- the row of one number

set_again : (ns : List ℕ) (i d : ℕ) → i < length ns → slice_set ns i (get_or ns i d) ≡ ns
set_again [] i d l = absurd (omega arith)
set_again (n ∷ ns) zero d l = refl
set_again (n ∷ ns) (suc i) d l = ap (λ r. n ∷ r) (set_again ns i d (omega arith))

-- the id of one row, and the row
one_found : (id q : RowId) (r row : Row) → find identity_cmp q ((id, r) ∷ []) ≡ Some row → (q ≡ id) × (r ≡ row)
one_found id q r row e =
    elim (eq_by_cmp identity_cmp q id) as (λ b. eq_by_cmp identity_cmp q id ≡ b → cond b (Some r) None ≡ Some row → (q ≡ id) × (r ≡ row)) [
      | true ↦ λ t k. (same_key identities q id t, value_in r row k)
      | false ↦ λ t k. absurd (some_none row (sym k))
    ] refl e

module _ (world : World) (mapped : IsMapped world.model) (regular : IsRegular world) (named : (class : ℕ) → is_class world.model class ≡ true → is_discriminator (entity_at world.model class) ≡ true)
    (set : StoredSet) (h : AreStorable world set) (numbers : List ℕ) (are : are_numbers world.model numbers ≡ true) (class : ℕ) (within : is_class world.model class ≡ true) (less : class < length numbers)
    (long : nat_lt class (length numbers) ≡ true) (root : Root) (is : (entity_at world.model class).origin ≡ Origin.Root root) (generated : root.generated ≡ true)
    (k : ℕ) (at : get_or numbers class 0 ≡ k) (positive : nat_lt 0 k ≡ true) (small : is_i64 (pos k) ≡ true) where
  number_stands : find identity_cmp (number_id root.table) (rows_of world set numbers) ≡ find identity_cmp (number_id root.table) (number_entry root.table k)
  number_stands =
      let m = world.model in
      let clear = unambiguous_mapped m mapped in
      let again : slice_set numbers class k ≡ numbers = ap (slice_set numbers class) (sym at) ∙ set_again numbers class 0 less in
      let there = subst (λ ns. Has (zip m.entities ns) (entity_at m class, k)) again (has_set m.entities numbers class k within long) in
      set_passed world clear (number_id root.table) refl set h (number_rows m numbers) ∙ found_row m clear numbers (entity_at m class, k) there root is generated

  number_there : k == 1 ≡ false → find identity_cmp (number_id root.table) (rows_of world set numbers) ≡ Some (number_row k)
  number_there more = number_stands ∙ number_found root.table k more

  number_absent : k == 1 ≡ true → find identity_cmp (number_id root.table) (rows_of world set numbers) ≡ None
  number_absent one = number_stands ∙ ap (λ b. find identity_cmp (number_id root.table) (cond b [] ((number_id root.table, number_row k) ∷ []))) one

  -- the row that stands, if any
  abbrev old_number : Bool → Rows
  old_number b = cond b [] ((number_id root.table, number_row k) ∷ [])

  number_replaces : (n : ℕ) → Replaces (rows_of world set numbers) (old_number (k == 1)) ((number_id root.table, number_row n) ∷ [])
  number_replaces n = record { there = by_there (k == 1) refl; new = λ q row none e. by_new (k == 1) refl q row none (one_found (number_id root.table) q (number_row n) row e).0 }
    where
      by_there : (b : Bool) → k == 1 ≡ b → (q : RowId) (row : Row) → find identity_cmp q (old_number b) ≡ Some row → find identity_cmp q (rows_of world set numbers) ≡ Some row
      by_there true t q row e = absurd (some_none row (sym e))
      by_there false t q row e =
          let same = one_found (number_id root.table) q (number_row k) row e in
          ap (λ i. find identity_cmp i (rows_of world set numbers)) same.0 ∙ number_there t ∙ ap Some same.1

      by_new : (b : Bool) → k == 1 ≡ b → (q : RowId) (row : Row) → find identity_cmp q (old_number b) ≡ None → q ≡ number_id root.table → find identity_cmp q (rows_of world set numbers) ≡ None
      by_new true t q row none same = ap (λ i. find identity_cmp i (rows_of world set numbers)) same ∙ number_absent t
      by_new false t q row none same =
          absurd (some_none (number_row k)
          (sym (ap (λ b. cond b (Some (number_row k)) None) (ap (λ i. eq_by_cmp identity_cmp i (number_id root.table)) same ∙ ties_itself identities (number_id root.table))) ∙ none))

  number_recalled : (n : ℕ) (stood changes : Changes) → Recall (rows_of world set numbers) stood changes
      → Recall (rows_of world set numbers) (with_old_next (Origin.Root root) k stood) (shown.with_next (Origin.Root root) n changes)
  number_recalled n stood changes r =
      let news = (number_id root.table, number_row n) ∷ [] in
      subst (λ noted. Recall (rows_of world set numbers) noted (with_puts news changes)) (by_test (k == 1))
      (recalled (rows_of world set numbers) (old_number (k == 1)) news (number_replaces n) stood changes r (with_puts news changes) (λ q none fresh. past_puts q news changes fresh))
    where
      by_test : (b : Bool) → with_puts (old_number b) stood ≡ cond b stood (shown.with_next (Origin.Root root) k stood)
      by_test true = refl
      by_test false = refl

-- ---- a turn of the loop over them

module _ (m : PersistenceUnit) (described : IsDescribed m) (named : (class : ℕ) → is_class m class ≡ true → is_discriminator (entity_at m class) ≡ true) (before next : List ℕ) (are : are_numbers m before ≡ true)
    (are_next : are_numbers m next ≡ true) (rising : each_fits nat_le before next ≡ true) (world : World) (model : world.model ≡ m) (regular : IsRegular world) (set : StoredSet) (h : AreStorable world set) where
  module _ (stood changes : Changes) (i : ℕ) (l : i < length next) (apart : get_or before i 0 ≢ get_or next i 0) where
    back : m ≡ world.model
    back = sym model

    less : i < length before
    less = subst (λ n. i < n) (sym (fits_length nat_le before next rising)) l

    within : is_class m i ≡ true
    within = is_below i (length m.entities) (subst (λ n. i < n) (sym (fits_length (λ (e : Entity) (k : ℕ). is_next e.origin k) m.entities next are_next)) l)

    by_origin : (origin : Origin) → (entity_at world.model i).origin ≡ origin → is_next origin (get_or before i 0) ≡ true → is_next origin (get_or next i 0) ≡ true → Recall (rows_of world set before) stood changes
        → Recall (rows_of world set before) (with_old_next origin (get_or before i 0) stood) (shown.with_next origin (get_or next i 0) changes)
    by_origin (Origin.Extends parent) is hb hn r = absurd (apart (are_same_numbers (get_or before i 0) 1 hb ∙ sym (are_same_numbers (get_or next i 0) 1 hn)))
    by_origin (Origin.Root root) is hb hn r =
        let b = get_or before i 0 in
        let n = get_or next i 0 in
        elim root.generated as (λ t. root.generated ≡ t → cond t (nat_lt 0 b && is_i64 (pos b)) (b == 1) ≡ true → cond t (nat_lt 0 n && is_i64 (pos n)) (n == 1) ≡ true
        → Recall (rows_of world set before) (with_old_next (Origin.Root root) b stood) (shown.with_next (Origin.Root root) n changes)) [
          | true ↦ λ generated h_b h_n.
              number_recalled world (described_mapped world.model (subst IsDescribed back described)) regular
              (subst (λ (n : PersistenceUnit). (class : ℕ) → is_class n class ≡ true → is_discriminator (entity_at n class) ≡ true) back named) set h before
              (subst (λ (n : PersistenceUnit). are_numbers n before ≡ true) back are) i (subst (λ (n : PersistenceUnit). is_class n i ≡ true) back within) less (is_below i (length before) less) root is generated
              b refl (and_first (nat_lt 0 b) _ h_b) (and_second (nat_lt 0 b) _ h_b) n stood changes r
          | false ↦ λ generated h_b h_n. absurd (apart (are_same_numbers b 1 h_b ∙ sym (are_same_numbers n 1 h_n)))
        ] refl hb hn

    pub noted_more : (new_stood new_changes : Changes) (origin : Origin) → origin ≡ (entity_at m i).origin → new_changes ≡ shown.with_next origin (get_or next i 0) changes
        → new_stood ≡ with_old_next origin (get_or before i 0) stood → Recall (rows_of world set before) stood changes → Recall (rows_of world set before) new_stood new_changes
    noted_more new_stood new_changes origin is e f r =
        subst (λ cs. Recall (rows_of world set before) new_stood cs) (sym e)
        (subst (λ cs. Recall (rows_of world set before) cs (shown.with_next origin (get_or next i 0) changes)) (sym f)
        (by_origin origin (sym (is ∙ ap (λ (n : PersistenceUnit). (entity_at n i).origin) back))
        (subst (λ o. is_next o (get_or before i 0) ≡ true) (sym is) (is_number m before i are less)) (subst (λ o. is_next o (get_or next i 0) ≡ true) (sym is) (is_number m next i are_next l)) r))

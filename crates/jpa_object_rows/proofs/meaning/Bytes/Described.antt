-- The unit that a well-formed description describes is unambiguous.
use Rattle.std.specs.Prelude.{◌≡◌, ℕ, zero, suc, ◌+◌, ◌<◌, ℤ, pos, unsigned_abs, true, ◌==◌, ◌&&◌, not, List, [], ◌∷◌, ◌++◌, map, length, filter, Option, Some, None, is_some, unwrap_or, IfSome}
use Rattle.std.proofs.Common.{refl, sym, ap, subst, ◌∙◌, inl, inr, zero-add}
use Rattle.std.proofs.lemmas.List.{get_or-map, length-map}
use Rattle.std.proofs.lemmas.List.Elements.{All-contains}
use Rattle.std.specs.List.{flat_map, list_any, list_all, range_with_len, AllByRecursion}
use Rattle.jpa_value.specs.Value.{is_i64}
use Rattle.jpa_model.specs.declared.draft.Draft.{Draft}
use Rattle.jpa_model.specs.declared.draft.DraftEntity.{DraftEntity}
use Rattle.jpa_model.specs.declared.draft.DraftOrigin.{DraftOrigin}
use Rattle.jpa_model.specs.declared.unit.Entity.{Entity}
use Rattle.jpa_model.specs.declared.unit.Origin.{Origin}
use Rattle.jpa_model.specs.declared.unit.PersistenceUnit.{PersistenceUnit}
use Rattle.jpa_model.specs.Chains.{chain, chain_from, superclass_in, entity_at, no_entity, same_name}
use Rattle.jpa_model.specs.Drafted as drafted
use Rattle.jpa_model.specs.WellFormed as well_formed
use Rattle.jpa_model.specs.Described.{unit_of, entity_of, origin_of}
use Rattle.jpa_model.specs.Kept.{IsDescribed}
use Rattle.jpa_model.proofs.Found.{position_from-within}
use Rattle.jpa_model.proofs.Within.{chain-within}
use Rattle.jpa_rows.specs.rows.Cells.{tables_of}
use Rattle.jpa_rows.proofs.laws.Facts.{and_first, and_second, and_both, true_false}
use Rattle.jpa_rows.proofs.laws.Elements.{Has, contains_from_has, into_map, from_filter, into_filter, into_flat_map}
use Rattle.jpa_rows.proofs.laws.Lists.{all_from, each_passes, has_any, filter_same, flat_map_same, map-flat_map}
use Rattle.jpa_rows.specs.rows.Tables.{classes}
use Rattle.jpa_object_rows.specs.meaning.Unambiguous.{IsUnambiguous, are_distinct_numbers, is_class}
use Rattle.jpa_object_rows.proofs.meaning.Bytes.Orders.{same_bytes_itself, same_number}
use Rattle.jpa_object_rows.proofs.meaning.Bytes.Classes.{below, is_below, class_within, within_classes, item_at}
use Rattle.jpa_object_rows.proofs.meaning.Bytes.Tables.{own_tables}
use Rattle.jpa_object_rows.proofs.meaning.Bytes.Climb.{first_in}
use Rattle.jpa_object_rows.proofs.meaning.Bytes.Distinct.{unless_any}
use Rattle.jpa_object_rows.proofs.meaning.Bytes.Mapped.{IsMapped, own_columns, hierarchy, first_has, last_has}
use Rattle.jpa_object_rows.proofs.meaning.Bytes.MappedClasses.{unambiguous_mapped}
use Rattle.jpa_object_rows.proofs.meaning.Bytes.DescribedNumbers.{is_revision, distinct_numbers, none_zero, all_small, columns_described, all_tables_described}

-- ---- what a well-formed description keeps

record Kept (d : Draft) : Type 0 where
  revision : well_formed.has_revision d ≡ true
  named : list_all (well_formed.is_superclass_named d) d.entities ≡ true
  rooted : list_all (well_formed.begins_with_root d) (drafted.chains d) ≡ true
  tables : well_formed.are_numbers (flat_map drafted.tables d.entities) ≡ true
  apart : list_all (λ root. well_formed.is_stored_apart d (drafted.hierarchy d root)) (drafted.classes d) ≡ true

kept : (d : Draft) → well_formed.is_well_formed d ≡ true → Kept d
kept d h =
    let together = and_second (well_formed.has_revision d && well_formed.has_entities d) _ h in
    let roots = and_first (well_formed.has_roots d) _ together in
    let later = and_second (well_formed.has_members d) _ (and_second (well_formed.has_roots d) _ together) in
    let numbers = and_first (well_formed.has_numbers d) _ later in
    let named_rooted = and_first (list_all (well_formed.is_superclass_named d) d.entities && list_all (well_formed.begins_with_root d) (drafted.chains d)) _ roots in
    let short = list_all well_formed.is_discriminator_short d.entities in
    let numbered = and_first (short && well_formed.are_numbers (flat_map drafted.tables d.entities)) _ numbers in
    record {
      revision = and_first (well_formed.has_revision d) _ (and_first (well_formed.has_revision d && well_formed.has_entities d) _ h);
      named = and_first (list_all (well_formed.is_superclass_named d) d.entities) _ named_rooted;
      rooted = and_second (list_all (well_formed.is_superclass_named d) d.entities) _ named_rooted;
      tables = and_second short _ numbered;
      apart = and_second (short && well_formed.are_numbers (flat_map drafted.tables d.entities)) _ numbers;
    }

-- items with the same name are one
distinct_names : {A : Type 0} (name : A → List ℕ) (xs : List A) → well_formed.are_distinct_by name xs ≡ true → (a b : A) → Has xs a → Has xs b → name a ≡ name b → a ≡ b
distinct_names name [] h a b p q e = absurd p
distinct_names name (x ∷ xs) h a b (inl p) (inl q) e = sym p ∙ q
distinct_names name (x ∷ xs) h a b (inl p) (inr q) e =
    absurd (true_false (sym (and_first (not (list_any (λ y. same_name (name x) (name y)) xs)) _ h)
    ∙ ap not (has_any (λ y. same_name (name x) (name y)) xs b q (ap (same_name (name x)) (sym (ap name p ∙ e)) ∙ same_bytes_itself (name x)))))
distinct_names name (x ∷ xs) h a b (inr p) (inl q) e =
    absurd (true_false (sym (and_first (not (list_any (λ y. same_name (name x) (name y)) xs)) _ h)
    ∙ ap not (has_any (λ y. same_name (name x) (name y)) xs a p (ap (same_name (name x)) (e ∙ sym (ap name q)) ∙ same_bytes_itself (name x)))))
distinct_names name (x ∷ xs) h a b (inr p) (inr q) e = distinct_names name xs (and_second (not (list_any (λ y. same_name (name x) (name y)) xs)) _ h) a b p q e

module _ (d : Draft) (well : well_formed.is_well_formed d ≡ true) where
  abbrev m : PersistenceUnit
  m = unit_of d

  count : length m.entities ≡ length d.entities
  count = length-map d.entities (entity_of d)

  within_draft : (c : ℕ) → is_class m c ≡ true → c < length d.entities
  within_draft c h = subst (λ n. c < n) count (below c (length m.entities) h)

  entity_described : (c : ℕ) → is_class m c ≡ true → entity_at m c ≡ entity_of d (drafted.entity_at d c)
  entity_described c h = get_or-map (entity_of d) d.entities c drafted.no_entity no_entity (within_draft c h)

  has_draft : (c : ℕ) → is_class m c ≡ true → Has d.entities (drafted.entity_at d c)
  has_draft c h = item_at d.entities c drafted.no_entity (within_draft c h)

  classes_described : classes m ≡ drafted.classes d
  classes_described = ap (range_with_len 0) count

  -- ---- chains

  place_within : (name : List ℕ) (p : ℕ) → drafted.place_of d name ≡ Some p → is_class m p ≡ true
  place_within name p e =
      let found = position_from-within (λ (e : DraftEntity). same_name e.name name) 0 d.entities in
      let less : p < length d.entities = subst (λ n. p < n) (zero-add (length d.entities)) (subst (λ o. IfSome o (λ k. k < 0 + length d.entities)) e found) in
      is_below p (length m.entities) (subst (λ n. p < n) (sym count) less)

  named_place : (e : DraftEntity) (name : List ℕ) → e.origin ≡ DraftOrigin.Extends name → well_formed.is_superclass_named d e ≡ true → is_some (drafted.place_of d name) ≡ true
  named_place e name is h = sym (ap (well_formed.is_superclass_named d) (λ i. record e { origin = is i })) ∙ h

  by_place : (n c : ℕ) (o : Option ℕ) → is_some o ≡ true → ((p : ℕ) → o ≡ Some p → chain_from m n p (entity_at m p).origin ≡ drafted.chain_from d n p (drafted.superclass_of d p))
      → chain_from m (suc n) c (Origin.Extends (unwrap_or o 0)) ≡ drafted.chain_from d (suc n) c o
  by_place n c None h rest = absurd (true_false (sym h))
  by_place n c (Some p) h rest = ap (λ cs. cs ++ c ∷ []) (rest p refl)

  by_origin : (n c : ℕ) (o : DraftOrigin) → ((name : List ℕ) → o ≡ DraftOrigin.Extends name → is_some (drafted.place_of d name) ≡ true)
      → ((name : List ℕ) (p : ℕ) → drafted.place_of d name ≡ Some p → chain_from m n p (entity_at m p).origin ≡ drafted.chain_from d n p (drafted.superclass_of d p))
      → chain_from m (suc n) c (origin_of d o) ≡ drafted.chain_from d (suc n) c (drafted.superclass_in d o)
  by_origin n c (DraftOrigin.Root r) named rest = refl
  by_origin n c (DraftOrigin.Extends name) named rest = by_place n c (drafted.place_of d name) (named name refl) (rest name)

  chain_described_from : (n c : ℕ) → is_class m c ≡ true → chain_from m n c (entity_at m c).origin ≡ drafted.chain_from d n c (drafted.superclass_of d c)
  chain_described_from zero c h = refl
  chain_described_from (suc n) c h =
      let e = drafted.entity_at d c in
      ap (λ (z : Entity). chain_from m (suc n) c z.origin) (entity_described c h)
      ∙ by_origin n c e.origin (λ name is. named_place e name is (each_passes (well_formed.is_superclass_named d) d.entities (kept d well).named e (has_draft c h)))
      (λ name p f. chain_described_from n p (place_within name p f))

  chain_described : (c : ℕ) → is_class m c ≡ true → chain m c ≡ drafted.chain d c
  chain_described c h = ap (λ n. chain_from m n c (entity_at m c).origin) count ∙ chain_described_from (length d.entities) c h

  within_chain : (class : ℕ) → is_class m class ≡ true → (c : ℕ) → Has (chain m class) c → is_class m c ≡ true
  within_chain class h c k =
      is_below c (length m.entities)
      (All-contains (λ c. c < length m.entities) (chain m class) c (chain-within m (d, (well, refl)) class (below class (length m.entities) h)) (contains_from_has (chain m class) c k))

  root_origin : (o : DraftOrigin) → well_formed.is_root o ≡ true → superclass_in (origin_of d o) ≡ None
  root_origin (DraftOrigin.Root r) h = refl
  root_origin (DraftOrigin.Extends name) h = absurd (true_false (sym h))

  ends_at_root : (class : ℕ) → is_class m class ≡ true → superclass_in (entity_at m (first_in (chain m class))).origin ≡ None
  ends_at_root class h =
      let first = first_in (chain m class) in
      let within = within_chain class h first (first_has (chain m class) class (last_has m (length m.entities) class (entity_at m class).origin)) in
      let here = into_map (drafted.chain d) (drafted.classes d) class (subst (λ cs. Has cs class) classes_described (within_classes m class h)) in
      let rooted = each_passes (well_formed.begins_with_root d) (drafted.chains d) (kept d well).rooted (drafted.chain d class) here in
      ap (λ (e : Entity). superclass_in e.origin) (entity_described first within)
      ∙ root_origin (drafted.entity_at d first).origin (ap (λ cs. well_formed.is_root (drafted.entity_at d (first_in cs)).origin) (chain_described class h) ∙ rooted)

  -- ---- hierarchies

  hierarchy_described : (root : ℕ) → hierarchy m root ≡ drafted.hierarchy d root
  hierarchy_described root =
      filter_same (λ c. first_in (chain m c) == root) (λ c. drafted.first_of (drafted.chain d c) == root) (classes m) (λ c k. ap (λ cs. first_in cs == root) (chain_described c (class_within m c k)))
      ∙ ap (filter (λ c. drafted.first_of (drafted.chain d c) == root)) classes_described

  hierarchy_within : (root c : ℕ) → Has (hierarchy m root) c → is_class m c ≡ true
  hierarchy_within root c k = class_within m c (from_filter (λ c. first_in (chain m c) == root) (classes m) c k).0

  stored_apart : (root : ℕ) → is_class m root ≡ true → well_formed.is_stored_apart d (hierarchy m root) ≡ true
  stored_apart root h =
      ap (well_formed.is_stored_apart d) (hierarchy_described root)
      ∙ each_passes (λ root. well_formed.is_stored_apart d (drafted.hierarchy d root)) (drafted.classes d) (kept d well).apart root (subst (λ cs. Has cs root) classes_described (within_classes m root h))

  abbrev numbers_in : ℕ → List ℤ
  numbers_in root = drafted.declared_by drafted.columns d (hierarchy m root)

  are_numbers_in : (root : ℕ) → is_class m root ≡ true → well_formed.are_numbers (numbers_in root) ≡ true
  are_numbers_in root h = and_first (well_formed.are_numbers (numbers_in root)) _ (stored_apart root h)

  own_described : (c : ℕ) → is_class m c ≡ true → own_columns (entity_at m c) ≡ map unsigned_abs (drafted.columns (drafted.entity_at d c))
  own_described c h = ap own_columns (entity_described c h) ∙ columns_described d (drafted.entity_at d c)

  columns_in : (root : ℕ) → is_class m root ≡ true → are_distinct_numbers (flat_map (λ c. own_columns (entity_at m c)) (hierarchy m root)) ≡ true
  columns_in root h =
      ap are_distinct_numbers
      (flat_map_same (λ c. own_columns (entity_at m c)) (λ c. map unsigned_abs (drafted.columns (drafted.entity_at d c))) (hierarchy m root) (λ c k. own_described c (hierarchy_within root c k))
      ∙ sym (map-flat_map unsigned_abs (λ c. drafted.columns (drafted.entity_at d c)) (hierarchy m root)))
      ∙ distinct_numbers (numbers_in root) (are_numbers_in root h)

  no_column_zero : (class : ℕ) → is_class m class ≡ true → Has (own_columns (entity_at m class)) 0 → ⊥
  no_column_zero class h k =
      let root = first_in (chain m class) in
      let within = within_chain class h root (first_has (chain m class) class (last_has m (length m.entities) class (entity_at m class).origin)) in
      let here = into_filter (λ c. first_in (chain m c) == root) (classes m) class (within_classes m class h) (same_number root) in
      none_zero (numbers_in root) (and_first (list_all well_formed.is_number (numbers_in root)) _ (are_numbers_in root within))
      (subst (λ ns. Has ns 0) (sym (map-flat_map unsigned_abs (λ c. drafted.columns (drafted.entity_at d c)) (hierarchy m root)))
      (into_flat_map (λ c. map unsigned_abs (drafted.columns (drafted.entity_at d c))) (hierarchy m root) class 0 here (subst (λ ns. Has ns 0) (own_described class h) k)))

  discriminators_in : (root : ℕ) → is_class m root ≡ true → (a b : ℕ) → Has (hierarchy m root) a → Has (hierarchy m root) b → (entity_at m a).discriminator ≡ (entity_at m b).discriminator → a ≡ b
  discriminators_in root h a b p q e =
      let name = λ (c : ℕ). drafted.discriminator (drafted.entity_at d c) in
      let same = λ (c : ℕ) (k : Has (hierarchy m root) c). ap (λ (z : Entity). z.discriminator) (entity_described c (hierarchy_within root c k)) in
      distinct_names name (hierarchy m root) (and_second (well_formed.are_numbers (numbers_in root)) _ (stored_apart root h)) a b p q (sym (same a p) ∙ e ∙ same b q)

  -- ---- tables

  abbrev all_numbers : List ℤ
  all_numbers = flat_map drafted.tables d.entities

  tables_are : flat_map own_tables m.entities ≡ map unsigned_abs all_numbers
  tables_are = all_tables_described d d.entities

  real_tables : list_all well_formed.is_number all_numbers ≡ true
  real_tables = and_first (list_all well_formed.is_number all_numbers) _ (kept d well).tables

  distinct_tables : are_distinct_numbers (tables_of m) ≡ true
  distinct_tables =
      and_both (not (list_any (λ b. 0 == b) (flat_map own_tables m.entities))) _
      (unless_any 0 (flat_map own_tables m.entities) (λ k. none_zero all_numbers real_tables (subst (λ ns. Has ns 0) tables_are k)))
      (ap are_distinct_numbers tables_are ∙ distinct_numbers all_numbers (kept d well).tables)

  small_tables : AllByRecursion (λ table. is_i64 (pos table) ≡ true) (tables_of m)
  small_tables = (
    refl,
    all_from (λ table. is_i64 (pos table) ≡ true) (flat_map own_tables m.entities) (λ n k. all_small all_numbers real_tables n (subst (λ ns. Has ns n) tables_are k)),
  )

  mapped : IsMapped m
  mapped = record {
    revision = is_revision d.revision (kept d well).revision;
    tables = distinct_tables;
    small = small_tables;
    ends = ends_at_root;
    within = within_chain;
    columns = columns_in;
    numbered = no_column_zero;
    discriminators = discriminators_in;
  }

-- every metamodel is unambiguous
pub unambiguous : (m : PersistenceUnit) → IsDescribed m → IsUnambiguous m
unambiguous m described = subst IsUnambiguous (sym (described.1).1) (unambiguous_mapped (unit_of described.0) (mapped described.0 (described.1).0))

-- and what is numbered in a hierarchy is numbered once
pub described_mapped : (m : PersistenceUnit) → IsDescribed m → IsMapped m
described_mapped m described = subst IsMapped (sym (described.1).1) (mapped described.0 (described.1).0)

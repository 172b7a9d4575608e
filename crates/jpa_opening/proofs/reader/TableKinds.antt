-- A table is that of next numbers and the revision, a root's or a join table, and a sound row is of the kind of its table.
use Rattle.std.specs.Prelude.{◌≡◌, ◌⊎◌, ◌==◌, ℕ, true, [], ◌∷◌, Option, Some, None, is_some}
use Rattle.std.proofs.Common.{refl, sym, ap, subst, ◌∙◌, inl, inr}
use Rattle.std.specs.List.{flat_map, list_any}
use Rattle.jpa_value.specs.declared.value.Identity.{Identity}
use Rattle.jpa_model.specs.declared.unit.PersistenceUnit.{PersistenceUnit}
use Rattle.jpa_model.specs.declared.unit.Relation.{Relation}
use Rattle.jpa_model.specs.declared.unit.Root.{Root}
use Rattle.jpa_model.specs.Chains.{entity_at, root_of, relations_of, chain}
use Rattle.jpa_behaviour.specs.Behaviour.{World}
use Rattle.jpa_stored.specs.declared.objects.stored.Stored.{Stored}
use Rattle.jpa_rows.specs.rows.Cells.{root_tables, join_tables}
use Rattle.jpa_rows.specs.rows.Rows.{RowId, Row}
use Rattle.jpa_rows.proofs.laws.Facts.{true_false, value_in}
use Rattle.jpa_rows.proofs.laws.Elements.{Has, append_has, from_flat_map, into_flat_map}
use Rattle.jpa_rows.proofs.laws.Lists.{any_has, has_any}
use Rattle.jpa_rows.specs.rows.Tables.{classes}
use Rattle.jpa_object_rows.specs.meaning.Identities.{declares, declarer_at, root_at, is_join_of}
use Rattle.jpa_object_rows.specs.meaning.Unambiguous.{IsUnambiguous, is_class, joins_of}
use Rattle.jpa_object_rows.specs.meaning.View.{is_storable}
use Rattle.jpa_object_rows.proofs.meaning.Bytes.Classes.{has_entity, class_within, within_classes, find_some, find_missed}
use Rattle.jpa_object_rows.proofs.meaning.Bytes.Keys.{table_is}
use Rattle.jpa_object_rows.proofs.meaning.Bytes.Mapped.{last_has}
use Rattle.jpa_object_rows.proofs.meaning.Bytes.Orders.{same_number}
use Rattle.jpa_object_rows.proofs.meaning.Bytes.Others.{join_no_root}
use Rattle.jpa_object_rows.proofs.meaning.Bytes.Reading.{storable}
use Rattle.jpa_object_rows.proofs.meaning.Bytes.Tables.{own_tables, has_join_table, zero_root, zero_join, distinct_apart}
use Rattle.jpa_object_rows.specs.meaning.Objects.{pair_row, number_id}
use Rattle.jpa_object_rows.proofs.meaning.Kept.{join_of_class}
use Rattle.jpa_object_rows.specs.mapper.Mapped.{IsMainRow}
use Rattle.jpa_opening.specs.reader.Numbers.{table_named}
use Rattle.jpa_opening.specs.reader.Sound.{IsNumberRow, IsRevisionRow, IsPairRow, IsSoundRow, is_join}

-- ---- the class that declares a join table

-- a join table is that of a relation of a class above
pub record Declared (m : PersistenceUnit) (class join : ℕ) : Type 0 where
  pub above : ℕ
  pub in_chain : Has (chain m class) above
  pub declares : declares join (entity_at m above) ≡ true

pub declared_above : (m : PersistenceUnit) (class join : ℕ) → Has (joins_of (relations_of m class)) join → Declared m class join
declared_above m class join h =
    let r = from_flat_map (λ (r : Relation). join_tables r.side) (relations_of m class) join h in
    let c = from_flat_map (λ c. (entity_at m c).relations) (chain m class) r.0 r.1 in
    record {
      above = c.0;
      in_chain = c.1;
      declares = has_any (λ (s : Relation). list_any (λ t. t == join) (join_tables s.side)) (entity_at m c.0).relations r.0 c.2
          (has_any (λ t. t == join) (join_tables (r.0).side) join r.2 (same_number join));
    }

-- and each class below the declaring one has the relation
pub joins_below : (m : PersistenceUnit) (class above join : ℕ) → Has (chain m class) above → declares join (entity_at m above) ≡ true → Has (joins_of (relations_of m class)) join
joins_below m class above join k h =
    let r = from_flat_map (λ (r : Relation). join_tables r.side) (entity_at m above).relations join (has_join_table join (entity_at m above) h) in
    into_flat_map (λ (r : Relation). join_tables r.side) (relations_of m class) r.0 join (into_flat_map (λ c. (entity_at m c).relations) (chain m class) above r.0 k r.1) r.2

-- a class declares a join table
pub record Declares (m : PersistenceUnit) (join class : ℕ) : Type 0 where
  pub is : is_class m class ≡ true
  pub declares : declares join (entity_at m class) ≡ true

pub found_declarer : (m : PersistenceUnit) (join class : ℕ) → declarer_at m join ≡ Some class → Declares m join class
found_declarer m join class e =
    let f = find_some (λ c. declares join (entity_at m c)) (classes m) class e in
    record { is = class_within m class f.0; declares = f.1 }

-- and is found by it
pub record Declarer (m : PersistenceUnit) (join : ℕ) : Type 0 where
  pub class : ℕ
  pub at : declarer_at m join ≡ Some class
  pub does : Declares m join class

pub declarer : (m : PersistenceUnit) (join : ℕ) → is_join m join ≡ true → Declarer m join
declarer m join h = by_answer (declarer_at m join) refl
  where
    by_answer : (o : Option ℕ) → declarer_at m join ≡ o → Declarer m join
    by_answer (Some class) e = record { class = class; at = e; does = found_declarer m join class e }
    by_answer None e =
        let c = any_has (λ class. declares join (entity_at m class)) (classes m) h in
        absurd (true_false (sym c.2 ∙ find_missed (λ class. declares join (entity_at m class)) (classes m) c.0 e c.1))

pub declared_join : (m : PersistenceUnit) (join class : ℕ) → is_class m class ≡ true → declares join (entity_at m class) ≡ true → is_join m join ≡ true
declared_join m join class is h = has_any (λ c. declares join (entity_at m c)) (classes m) class (within_classes m class is) h

pub is_declared : (m : PersistenceUnit) (join : ℕ) → is_some (declarer_at m join) ≡ true → is_join m join ≡ true
is_declared m join h = by_answer (declarer_at m join) refl h
  where
    by_answer : (o : Option ℕ) → declarer_at m join ≡ o → is_some o ≡ true → is_join m join ≡ true
    by_answer None e k = absurd (true_false (sym k))
    by_answer (Some class) e k = let d = found_declarer m join class e in declared_join m join class d.is d.declares

pub has_declarer : (m : PersistenceUnit) (join : ℕ) → is_join m join ≡ true → is_some (declarer_at m join) ≡ true
has_declarer m join h = ap is_some (declarer m join h).at

module _ (m : PersistenceUnit) (clear : IsUnambiguous m) where
  -- ---- no table is of two kinds

  pub declarer_joins : (join : ℕ) (d : Declarer m join) → is_join_of m join (root_of m d.class).table ≡ true
  declarer_joins join d = join_of_class m clear d.class (d.does).is join (joins_below m d.class d.class join (last_has m _ d.class (entity_at m d.class).origin) (d.does).declares)

  pub no_join : (table : ℕ) (root : Root) → root_at m table ≡ Some root → is_join m table ≡ true → ⊥
  no_join table root at h = let d = declarer m table h in join_no_root m table (root_of m d.class).table root (declarer_joins table d) at

  pub zero_no_root : (root : Root) → root_at m 0 ≡ Some root → ⊥
  zero_no_root root at = cc (zero_root m clear.tables)

  pub zero_no_join : is_join m 0 ≡ true → ⊥
  zero_no_join h = let d = declarer m 0 h in cc (zero_join m clear.tables, d.at)

  pub root_no_declarer : (table : ℕ) (root : Root) → root_at m table ≡ Some root → declarer_at m table ≡ None
  root_no_declarer table root at = by_answer (declarer_at m table) refl
    where
      by_answer : (o : Option ℕ) → declarer_at m table ≡ o → declarer_at m table ≡ None
      by_answer None e = e
      by_answer (Some class) e = let d = found_declarer m table class e in absurd (no_join table root at (declared_join m table class d.is d.declares))

-- ---- rows

module _ (world : World) (clear : IsUnambiguous world.model) where
  pub main_root : (id : Identity) (x : Stored) → is_storable world id x ≡ true → root_at world.model id.table ≡ Some (root_of world.model x.class)
  main_root id x h =
      let m = world.model in
      let s = storable world id x h in
      ap (root_at m) (table_is (root_of m x.class) id s.of_root) ∙ clear.root x.class s.class

  -- a sound row of a join table is that of a pair
  pub pair_in_join : (id : RowId) (row : Row) → is_join world.model id.table ≡ true → IsSoundRow world id row → row ≡ pair_row
  pair_in_join id row h (inl revision) = absurd (zero_no_join world.model clear (ap (is_join world.model) (ap (λ (i : RowId). i.table) (sym revision.under)) ∙ h))
  pair_in_join id row h (inr (inl number)) = absurd (zero_no_join world.model clear (ap (is_join world.model) (ap (λ (i : RowId). i.table) (sym number.under)) ∙ h))
  pair_in_join id row h (inr (inr (inl pair))) = pair.says
  pair_in_join id row h (inr (inr (inr main))) = absurd (no_join world.model clear id.table (root_of world.model (main.0).class) (main_root id main.0 main.1) h)

  -- a sound row of table 0 is that of the revision or of a next number
  pub kind_in_zero : (id : RowId) (row : Row) → id.table ≡ 0 → IsSoundRow world id row → IsRevisionRow world.model id row ⊎ IsNumberRow world.model id row
  kind_in_zero id row zero (inl revision) = inl revision
  kind_in_zero id row zero (inr (inl number)) = inr number
  kind_in_zero id row zero (inr (inr (inl pair))) = absurd (zero_no_join world.model clear (ap (is_join world.model) (sym zero) ∙ pair.join))
  kind_in_zero id row zero (inr (inr (inr main))) =
      absurd (zero_no_root world.model clear (root_of world.model (main.0).class) (ap (root_at world.model) (sym zero) ∙ main_root id main.0 main.1))

  -- no hierarchy has table 0
  no_generator : (row : Row) → IsNumberRow world.model (number_id 0) row → ⊥
  no_generator row n =
      let m = world.model in
      let e = entity_at m n.class in
      let here : Has (root_tables e.origin) (n.root).table = subst (λ o. Has (root_tables o) (n.root).table) (sym n.origin) (inl refl) in
      let own : Has (own_tables e) (n.root).table = append_has (root_tables e.origin) (flat_map (λ r. join_tables r.side) e.relations) (n.root).table (inl here) in
      distinct_apart (0 ∷ []) (flat_map own_tables m.entities) clear.tables (n.root).table (inl (value_in 0 (n.root).table (ap table_named n.under)))
      (into_flat_map own_tables m.entities e (n.root).table (has_entity m n.class n.within) own)

  -- a sound row under the id of the revision's row is that one
  pub revision_at : (row : Row) → IsSoundRow world (number_id 0) row → IsRevisionRow world.model (number_id 0) row
  revision_at row sound = elim (kind_in_zero (number_id 0) row refl sound) [ inl revision ↦ revision | inr number ↦ absurd (no_generator row number) ]

  pub main_no_number : (id : RowId) (row : Row) → IsMainRow world id row → IsNumberRow world.model id row → ⊥
  main_no_number id row main number =
      zero_no_root world.model clear (root_of world.model (main.0).class) (ap (root_at world.model) (ap (λ (i : RowId). i.table) (sym number.under)) ∙ main_root id main.0 main.1)

  pub main_no_revision : (id : RowId) (row : Row) → IsMainRow world id row → IsRevisionRow world.model id row → ⊥
  main_no_revision id row main revision =
      zero_no_root world.model clear (root_of world.model (main.0).class) (ap (root_at world.model) (ap (λ (i : RowId). i.table) (sym revision.under)) ∙ main_root id main.0 main.1)

  pub main_no_pair : (id : RowId) (row : Row) → IsMainRow world id row → IsPairRow world.model id row → ⊥
  main_no_pair id row main pair = no_join world.model clear id.table (root_of world.model (main.0).class) (main_root id main.0 main.1) pair.join

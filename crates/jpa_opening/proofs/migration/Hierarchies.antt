-- In a hierarchy no two attributes have one column, so no two cells that become of a row have one.
use Rattle.std.specs.Prelude.{◌≡◌, ℕ, true, ◌==◌, List, [], ◌∷◌, ◌++◌, map}
use Rattle.std.proofs.Common.{refl, sym, ap, subst, ◌∙◌, inl, inr}
use Rattle.std.specs.List.{flat_map}
use Rattle.jpa_model.specs.declared.unit.Attribute.{Attribute}
use Rattle.jpa_model.specs.declared.unit.PersistenceUnit.{PersistenceUnit}
use Rattle.jpa_model.specs.Chains.{chain, entity_at, root_class, root_of, attributes_of, relations_of, column_of}
use Rattle.jpa_model.specs.Kept.{IsDescribed}
use Rattle.jpa_behaviour.specs.Behaviour.{World}
use Rattle.jpa_description.specs.declared.history.history.Change.{Change}
use Rattle.jpa_description.specs.declared.history.history.History.{History}
use Rattle.jpa_description.specs.history.History.{changed, class_at, changes_of, changes_along}
use Rattle.jpa_rows.proofs.laws.Elements.{Has, append_has, from_flat_map, into_flat_map, into_map, from_filter, into_filter}
use Rattle.jpa_rows.proofs.laws.Lists.{filter_same, map-flat_map, flat_map_same}
use Rattle.jpa_rows.specs.rows.Tables.{classes, classes_below}
use Rattle.jpa_cells.specs.meaning.Tables.{ColumnsDiffer}
use Rattle.jpa_object_rows.specs.meaning.Unambiguous.{are_distinct_numbers, is_class, version_columns, link_columns}
use Rattle.jpa_object_rows.proofs.meaning.Bytes.Orders.{are_same_numbers, same_number}
use Rattle.jpa_object_rows.proofs.meaning.Bytes.Classes.{class_within, within_classes}
use Rattle.jpa_object_rows.proofs.meaning.Bytes.Tables.{distinct_rest}
use Rattle.jpa_object_rows.proofs.meaning.Bytes.Distinct.{distinct_first, one_owner, distinct_at}
use Rattle.jpa_object_rows.proofs.meaning.Bytes.Climb as climb
use Rattle.jpa_object_rows.proofs.meaning.Bytes.Mapped.{own_version, own_columns, hierarchy, lineage}
use Rattle.jpa_object_rows.proofs.meaning.Bytes.Described.{unambiguous, described_mapped}
use Rattle.jpa_opening.specs.migration.Migration.{changes_below}
use Rattle.jpa_opening.specs.migration.Changed.{default_cell}
use Rattle.jpa_opening.proofs.migration.Columns.{distinct_items}
use Rattle.jpa_opening.proofs.migration.Apart.{defaults_differ}

own : (attributes : List Attribute) (changes : List Change) → map (λ p. (p.0).column) (changed attributes changes) ≡ map (λ a. a.column) attributes
own [] changes = refl
own (a ∷ attributes) [] = ap (λ l. a.column ∷ l) (own attributes [])
own (a ∷ attributes) (c ∷ changes) = ap (λ l. a.column ∷ l) (own attributes changes)

module _ (m : PersistenceUnit) (described : IsDescribed m) (h : History) where
  own_of : (class : ℕ) → map (λ p. (p.0).column) (changes_of m h class) ≡ map (λ a. a.column) (entity_at m class).attributes
  own_of class = own (entity_at m class).attributes (class_at h class).changes

  pub same_classes : (root : ℕ) → classes_below m root ≡ hierarchy m root
  same_classes root =
      filter_same (λ c. root_class m c == root) (λ c. climb.first_in (chain m c) == root) (classes m) (λ c k. ap (λ r. r == root) (lineage m (described_mapped m described) c (class_within m c k)).root_first)

  has_column : (class : ℕ) (p : Attribute × Change) → Has (changes_of m h class) p → Has (own_columns (entity_at m class)) (p.0).column
  has_column class p k =
      let e = entity_at m class in
      let versions = own_version e.origin in
      let attributes = map (λ (a : Attribute). a.column) e.attributes in
      append_has (versions ++ attributes) (flat_map (λ r. link_columns (column_of r.side)) e.relations) (p.0).column
      (inl (append_has versions attributes (p.0).column (inr (subst (λ ns. Has ns (p.0).column) (own_of class) (into_map (λ (q : Attribute × Change). (q.0).column) (changes_of m h class) p k)))))

  module _ (root : ℕ) (within : is_class m root ≡ true) where
    columns_in : are_distinct_numbers (flat_map (λ c. own_columns (entity_at m c)) (hierarchy m root)) ≡ true
    columns_in = (described_mapped m described).columns root within

    pub one_attribute : (p q : Attribute × Change) → Has (changes_below m h root) p → Has (changes_below m h root) q → (p.0).column ≡ (q.0).column → p ≡ q
    one_attribute p q j k e =
        let r = from_flat_map (changes_of m h) (classes_below m root) p j in
        let s = from_flat_map (changes_of m h) (classes_below m root) q k in
        let c = r.0 in
        let here = subst (λ cs. Has cs c) (same_classes root) r.1 in
        let there = subst (λ cs. Has cs s.0) (same_classes root) s.1 in
        let same : c ≡ s.0 =
        one_owner (λ c. own_columns (entity_at m c)) (hierarchy m root) columns_in c s.0 (p.0).column here there (has_column c p r.2) (subst (Has (own_columns (entity_at m s.0))) (sym e) (has_column s.0 q s.2)) in
        let ours = entity_at m c in
        let versions = own_version ours.origin in
        let attributes = map (λ (a : Attribute). a.column) ours.attributes in
        let distinct = distinct_rest versions attributes (distinct_first (versions ++ attributes) _ (distinct_at (λ c. own_columns (entity_at m c)) (hierarchy m root) columns_in c here)) in
        distinct_items (λ (q : Attribute × Change). (q.0).column) (changes_of m h c) (subst (λ ns. are_distinct_numbers ns ≡ true) (sym (own_of c)) distinct) p q r.2 (subst (λ d. Has (changes_of m h d) q) (sym same) s.2) e

    root_of_class : (c : ℕ) → Has (classes_below m root) c → root_class m c ≡ root
    root_of_class c k = are_same_numbers (root_class m c) root (from_filter (λ c. root_class m c == root) (classes m) c k).1

    -- what is said along the chain of a class is said in its hierarchy
    pub along_below : (class : ℕ) → Has (classes_below m root) class → (p : Attribute × Change) → Has (changes_along m h class) p → Has (changes_below m h root) p
    along_below class k p j =
        let r = from_flat_map (changes_of m h) (chain m class) p j in
        let is = class_within m class (from_filter (λ c. root_class m c == root) (classes m) class k).0 in
        let inside = (described_mapped m described).within class is r.0 r.1 in
        let same = (lineage m (described_mapped m described) class is).same_root r.0 r.1 ∙ root_of_class class k in
        into_flat_map (changes_of m h) (classes_below m root) r.0 p
        (into_filter (λ c. root_class m c == root) (classes m) r.0 (within_classes m r.0 inside) (ap (λ n. n == root) same ∙ same_number root)) r.2

  -- ---- defaults

  pub class_differ : (world : World) → world.model ≡ m → (class : ℕ) → is_class m class ≡ true → ColumnsDiffer (flat_map (default_cell world) (changes_along m h class))
  class_differ world e class k =
      let versions = 0 ∷ version_columns (root_of m class).version in
      let attributes = map (λ (a : Attribute). a.column) (attributes_of m class) in
      let links = flat_map (λ r. link_columns (column_of r.side)) (relations_of m class) in
      let all = (unambiguous m described).columns class k in
      let same : map (λ p. (p.0).column) (changes_along m h class) ≡ attributes =
      map-flat_map (λ (p : Attribute × Change). (p.0).column) (changes_of m h) (chain m class) ∙ flat_map_same _ _ (chain m class) (λ c k. own_of c)
      ∙ sym (map-flat_map (λ (a : Attribute). a.column) (λ c. (entity_at m c).attributes) (chain m class)) in
      defaults_differ world (changes_along m h class) (subst (λ ns. are_distinct_numbers ns ≡ true) (sym same) (distinct_rest versions attributes (distinct_first (versions ++ attributes) links all)))

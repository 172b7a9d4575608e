-- The columns of a hierarchy's table are found by their numbers.
use Rattle.std.specs.Prelude.{◌≡◌, ℕ, true, ◌==◌, not, List, [], ◌∷◌, ◌++◌, map, Option, Some, None}
use Rattle.std.proofs.Common.{refl, sym, ap, subst, ◌∙◌, inl, inr, ◌⊎◌, append_assoc}
use Rattle.std.proofs.lemmas.Grind.{flat_map-append}
use Rattle.std.specs.List.{flat_map, list_any}
use Rattle.jpa_model.specs.declared.unit.Attribute.{Attribute}
use Rattle.jpa_model.specs.declared.unit.Column.{Column}
use Rattle.jpa_model.specs.declared.unit.Entity.{Entity}
use Rattle.jpa_model.specs.declared.unit.PersistenceUnit.{PersistenceUnit}
use Rattle.jpa_model.specs.declared.unit.Relation.{Relation}
use Rattle.jpa_model.specs.declared.unit.VersionColumn.{VersionColumn}
use Rattle.jpa_model.specs.Chains.{entity_at, root_of, root_class, chain, column_of, attributes_of, relations_of}
use Rattle.jpa_rows.specs.declared.rows.schema.ColumnRule.{ColumnRule}
use Rattle.jpa_rows.specs.rows.Rows.{rule_of}
use Rattle.jpa_rows.specs.rows.Tables.{version_rules, attribute_rule, link_rules, rules_of_class, classes_below, rules_of, classes}
use Rattle.jpa_rows.proofs.laws.Facts.{and_both}
use Rattle.jpa_rows.proofs.laws.Elements.{Has, has_append, append_has, from_flat_map, into_flat_map, from_filter, into_filter, into_map}
use Rattle.jpa_rows.proofs.laws.Lists.{filter_same, flat_map_same, flat_map-flat_map}
use Rattle.jpa_object_rows.specs.meaning.Unambiguous.{are_distinct_numbers, is_class, version_columns, link_columns}
use Rattle.jpa_object_rows.proofs.meaning.Bytes.Orders.{are_same_numbers, same_number}
use Rattle.jpa_object_rows.proofs.meaning.Bytes.Classes.{class_within, within_classes, find_only}
use Rattle.jpa_object_rows.proofs.meaning.Bytes.Tables.{distinct_rest, distinct_apart}
use Rattle.jpa_object_rows.proofs.meaning.Bytes.Distinct.{unless_any, distinct_first, distinct_joined, one_owner, distinct_at}
use Rattle.jpa_object_rows.proofs.meaning.Bytes.Mapped.{IsMapped, own_version, own_columns, hierarchy, Lineage, lineage}
use Rattle.jpa_object_rows.proofs.meaning.Bytes.Climb as climb
use Rattle.jpa_object_rows.proofs.meaning.Tables.{main_table}

-- ---- their numbers

abbrev numbers : List ColumnRule → List ℕ
numbers = flat_map (λ u. u.column ∷ [])

version_number : (o : Option VersionColumn) → numbers (version_rules o) ≡ version_columns o
version_number None = refl
version_number (Some v) = refl

attribute_numbers : (attributes : List Attribute) → numbers (map attribute_rule attributes) ≡ map (λ a. a.column) attributes
attribute_numbers [] = refl
attribute_numbers (a ∷ attributes) = ap (λ r. a.column ∷ r) (attribute_numbers attributes)

link_number : (m : PersistenceUnit) (target : ℕ) (o : Option Column) → numbers (link_rules m target o) ≡ link_columns o
link_number m target None = refl
link_number m target (Some c) = refl

-- what a class declares besides a version
abbrev parts : Entity → List ℕ
parts e = map (λ a. a.column) e.attributes ++ flat_map (λ r. link_columns (column_of r.side)) e.relations

class_numbers : (m : PersistenceUnit) (e : Entity) → numbers (rules_of_class m e) ≡ parts e
class_numbers m e =
    flat_map-append (λ (u : ColumnRule). u.column ∷ []) (map attribute_rule e.attributes) (flat_map (λ r. link_rules m r.target (column_of r.side)) e.relations)
    ∙ (λ i. attribute_numbers e.attributes i
    ++ (flat_map-flat_map (λ (u : ColumnRule). u.column ∷ []) (λ r. link_rules m r.target (column_of r.side)) e.relations
    ∙ flat_map_same (λ r. numbers (link_rules m r.target (column_of r.side))) (λ r. link_columns (column_of r.side)) e.relations (λ r k. link_number m r.target (column_of r.side))) i)

-- lists of which each has a part of another's
distinct_parts : (f g : ℕ → List ℕ) (cs : List ℕ) → are_distinct_numbers (flat_map g cs) ≡ true → ((c : ℕ) → are_distinct_numbers (g c) ≡ true → are_distinct_numbers (f c) ≡ true)
    → ((c n : ℕ) → Has (f c) n → Has (g c) n) → are_distinct_numbers (flat_map f cs) ≡ true
distinct_parts f g [] h part within = refl
distinct_parts f g (c ∷ cs) h part within =
    distinct_joined (f c) (flat_map f cs) (part c (distinct_first (g c) (flat_map g cs) h)) (distinct_parts f g cs (distinct_rest (g c) (flat_map g cs) h) part within)
    (λ n p q. let r = from_flat_map f cs n q in distinct_apart (g c) (flat_map g cs) h n (within c n p) (into_flat_map g cs r.0 n r.1 (within r.0 n r.2)))

module _ (m : PersistenceUnit) (mapped : IsMapped m) (class : ℕ) (is : is_class m class ≡ true) where
  abbrev first : ℕ
  first = root_class m class

  abbrev below : List ℕ
  below = classes_below m first

  line : Lineage m class
  line = lineage m mapped class is

  below_class : (c : ℕ) → Has below c → is_class m c ≡ true
  below_class c h = class_within m c (from_filter (λ d. root_class m d == first) (classes m) c h).0

  in_below : (c : ℕ) → is_class m c ≡ true → root_class m c ≡ first → Has below c
  in_below c k e = into_filter (λ d. root_class m d == first) (classes m) c (within_classes m c k) (ap (λ n. n == first) e ∙ same_number first)

  chain_below : (c : ℕ) → Has (chain m class) c → Has below c
  chain_below c h = in_below c (mapped.within class is c h) (line.same_root c h)

  first_below : Has below first
  first_below = chain_below first line.has_root

  below_is : below ≡ hierarchy m first
  below_is = filter_same (λ c. root_class m c == first) (λ c. climb.first_in (chain m c) == first) (classes m) (λ c k. ap (λ n. n == first) (lineage m mapped c (class_within m c k)).root_first)

  abbrev all_of : ℕ → List ℕ
  all_of c = own_columns (entity_at m c)

  all_apart : are_distinct_numbers (flat_map all_of below) ≡ true
  all_apart = ap (λ cs. are_distinct_numbers (flat_map all_of cs)) below_is ∙ mapped.columns first line.root_within

  part_in : (c n : ℕ) → Has (parts (entity_at m c)) n → Has (all_of c) n
  part_in c n h =
      let e = entity_at m c in
      let attributes = map (λ (a : Attribute). a.column) e.attributes in
      let links = flat_map (λ (r : Relation). link_columns (column_of r.side)) e.relations in
      subst (λ ns. Has ns n) (sym (append_assoc (own_version e.origin) attributes links)) (append_has (own_version e.origin) (parts e) n (inr h))

  part_apart : (c : ℕ) → are_distinct_numbers (all_of c) ≡ true → are_distinct_numbers (own_version (entity_at m c).origin ++ parts (entity_at m c)) ≡ true
  part_apart c h =
      let e = entity_at m c in
      let attributes = map (λ (a : Attribute). a.column) e.attributes in
      let links = flat_map (λ (r : Relation). link_columns (column_of r.side)) e.relations in
      ap are_distinct_numbers (sym (append_assoc (own_version e.origin) attributes links)) ∙ h

  abbrev versions : List ℕ
  versions = version_columns (root_of m class).version

  own_versions : own_version (entity_at m first).origin ≡ versions
  own_versions = ap own_version line.origin

  version_in : (n : ℕ) → Has versions n → Has (all_of first) n
  version_in n h =
      let e = entity_at m first in
      let attributes = map (λ (a : Attribute). a.column) e.attributes in
      let links = flat_map (λ (r : Relation). link_columns (column_of r.side)) e.relations in
      append_has (own_version e.origin ++ attributes) links n (inl (append_has (own_version e.origin) attributes n (inl (subst (λ ns. Has ns n) (sym own_versions) h))))

  abbrev all_parts : List ℕ
  all_parts = flat_map (λ c. parts (entity_at m c)) below

  no_zero : Has versions 0 ⊎ Has all_parts 0 → ⊥
  no_zero (inl h) = mapped.numbered first line.root_within (version_in 0 h)
  no_zero (inr h) = let r = from_flat_map (λ c. parts (entity_at m c)) below 0 h in mapped.numbered r.0 (below_class r.0 r.1) (part_in r.0 0 r.2)

  columns_apart : are_distinct_numbers (0 ∷ (versions ++ all_parts)) ≡ true
  columns_apart =
      let first_apart = part_apart first (distinct_at all_of below all_apart first first_below) in
      and_both (not (list_any (λ b. 0 == b) (versions ++ all_parts))) _
      (unless_any 0 (versions ++ all_parts) (λ h. no_zero (has_append versions all_parts 0 h)))
      (distinct_joined versions all_parts
      (ap are_distinct_numbers (sym own_versions) ∙ distinct_first (own_version (entity_at m first).origin) (parts (entity_at m first)) first_apart)
      (distinct_parts (λ c. parts (entity_at m c)) all_of below all_apart (λ c h. distinct_rest (own_version (entity_at m c).origin) (parts (entity_at m c)) (part_apart c h)) part_in)
      (λ n p q.
      let r = from_flat_map (λ c. parts (entity_at m c)) below n q in
      let same = one_owner all_of below all_apart first r.0 n first_below r.1 (version_in n p) (part_in r.0 n r.2) in
      distinct_apart (own_version (entity_at m first).origin) (parts (entity_at m first)) first_apart n (subst (λ ns. Has ns n) (sym own_versions) p)
      (subst (λ c. Has (parts (entity_at m c)) n) (sym same) r.2)))

  abbrev columns : List ColumnRule
  columns = rules_of m first (root_of m class)

  column_numbers : numbers columns ≡ 0 ∷ (versions ++ all_parts)
  column_numbers =
      let here = version_rules (root_of m class).version in
      let rest = flat_map (λ c. rules_of_class m (entity_at m c)) below in
      ap (λ ns. 0 ∷ ns)
      (flat_map-append (λ (u : ColumnRule). u.column ∷ []) here rest
      ∙ (λ i. version_number (root_of m class).version i
      ++ (flat_map-flat_map (λ (u : ColumnRule). u.column ∷ []) (λ c. rules_of_class m (entity_at m c)) below
      ∙ flat_map_same (λ c. numbers (rules_of_class m (entity_at m c))) (λ c. parts (entity_at m c)) below (λ c k. class_numbers m (entity_at m c))) i))

  -- ---- each is found

  pub rule_found : (u : ColumnRule) → Has columns u → rule_of (main_table m first (root_of m class)) u.column ≡ Some u
  rule_found u h =
      find_only (λ v. v.column == u.column) columns u h (same_number u.column)
      (λ v g e. one_owner (λ (w : ColumnRule). w.column ∷ []) columns (ap are_distinct_numbers column_numbers ∙ columns_apart) v u u.column g h (inl (are_same_numbers v.column u.column e)) (inl refl))

  pub has_version : (u : ColumnRule) → Has (version_rules (root_of m class).version) u → Has columns u
  has_version u h = inr (append_has (version_rules (root_of m class).version) (flat_map (λ c. rules_of_class m (entity_at m c)) below) u (inl h))

  has_rule : (c : ℕ) → Has (chain m class) c → (u : ColumnRule) → Has (rules_of_class m (entity_at m c)) u → Has columns u
  has_rule c k u h =
      inr (append_has (version_rules (root_of m class).version) (flat_map (λ c. rules_of_class m (entity_at m c)) below) u
      (inr (into_flat_map (λ c. rules_of_class m (entity_at m c)) below c u (chain_below c k) h)))

  pub has_attribute : (a : Attribute) → Has (attributes_of m class) a → Has columns (attribute_rule a)
  has_attribute a h =
      let r = from_flat_map (λ c. (entity_at m c).attributes) (chain m class) a h in
      let e = entity_at m r.0 in
      has_rule r.0 r.1 (attribute_rule a)
      (append_has (map attribute_rule e.attributes) (flat_map (λ s. link_rules m s.target (column_of s.side)) e.relations) (attribute_rule a) (inl (into_map attribute_rule e.attributes a r.2)))

  pub has_link : (s : Relation) → Has (relations_of m class) s → (u : ColumnRule) → Has (link_rules m s.target (column_of s.side)) u → Has columns u
  has_link s h u k =
      let r = from_flat_map (λ c. (entity_at m c).relations) (chain m class) s h in
      let e = entity_at m r.0 in
      has_rule r.0 r.1 u
      (append_has (map attribute_rule e.attributes) (flat_map (λ t. link_rules m t.target (column_of t.side)) e.relations) u
      (inr (into_flat_map (λ (t : Relation). link_rules m t.target (column_of t.side)) e.relations s u r.2 k)))

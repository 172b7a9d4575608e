-- The tables of an unambiguous metamodel are found by their numbers: that of next numbers, those of roots, join tables.
use Rattle.std.specs.Prelude.{◌≡◌, ℕ, zero, suc, Bool, true, false, ◌==◌, nat_lt, List, [], ◌∷◌, ◌++◌, map, length, slice_index_or, find, Option, Some, None, option_map}
use Rattle.std.proofs.Common.{refl, sym, ap, subst, ◌∙◌, inl, inr, arith}
use Rattle.std.proofs.lemmas.Bool.Decides.{nat_tests}
use Rattle.std.proofs.lemmas.Grind.{flat_map-append}
use Rattle.std.proofs.lemmas.List.FromFn.{fill_by_all}
use Rattle.std.specs.List.{flat_map}
use Rattle.jpa_value.specs.declared.value.Kind.{Kind}
use Rattle.jpa_model.specs.declared.unit.Entity.{Entity}
use Rattle.jpa_model.specs.declared.unit.Origin.{Origin}
use Rattle.jpa_model.specs.declared.unit.PersistenceUnit.{PersistenceUnit}
use Rattle.jpa_model.specs.declared.unit.Relation.{Relation}
use Rattle.jpa_model.specs.declared.unit.Root.{Root}
use Rattle.jpa_model.specs.declared.unit.Side.{Side}
use Rattle.jpa_model.specs.Chains.{entity_at, no_entity, root_in, root_of, chain, relations_of}
use Rattle.jpa_rows.specs.declared.rows.schema.TableRule.{TableRule}
use Rattle.jpa_rows.specs.rows.Cells.{root_tables, join_tables, tables_of}
use Rattle.jpa_rows.specs.rows.Rows.{table_of}
use Rattle.jpa_rows.specs.rows.Tables.{kinds_of, rules_of, one_number, root_table, join_table, tables_of_class, schema_of, classes}
use Rattle.jpa_rows.proofs.laws.Facts.{value_in, some_none, true_false}
use Rattle.jpa_rows.proofs.laws.Elements.{Has, append_has, from_flat_map, into_flat_map}
use Rattle.jpa_rows.proofs.laws.Lists.{has_any, flat_map_same, flat_map-map, flat_map-flat_map}
use Rattle.jpa_object_rows.specs.meaning.Identities.{has_table, root_at}
use Rattle.jpa_object_rows.specs.meaning.Unambiguous.{IsUnambiguous, are_distinct_numbers, is_class}
use Rattle.jpa_object_rows.proofs.meaning.Bytes.Orders.{are_same_numbers, same_number}
use Rattle.jpa_object_rows.proofs.meaning.Bytes.Classes.{class_within, within_classes, find_only, find_some}
use Rattle.jpa_object_rows.proofs.meaning.Bytes.Tables.{own_tables}
use Rattle.jpa_object_rows.proofs.meaning.Bytes.Distinct.{one_owner}

-- ---- their numbers

abbrev pub numbers : List TableRule → List ℕ
numbers = flat_map (λ t. t.table ∷ [])

root_number : (m : PersistenceUnit) (class : ℕ) (origin : Origin) → numbers (root_table m class origin) ≡ root_tables origin
root_number m class (Origin.Root root) = refl
root_number m class (Origin.Extends parent) = refl

join_number : (m : PersistenceUnit) (class : ℕ) (r : Relation) → numbers (join_table m class r) ≡ join_tables r.side
join_number m class r = by_side r.side
  where
    by_side : (side : Side) → numbers (join_table m class (record r { side = side })) ≡ join_tables side
    by_side (Side.ManyToOne c) = refl
    by_side (Side.OneToOne c) = refl
    by_side (Side.OneToOneInverse o) = refl
    by_side (Side.OneToMany o) = refl
    by_side (Side.ManyToMany join) = refl
    by_side (Side.ManyToManyInverse o) = refl

class_numbers : (m : PersistenceUnit) (class : ℕ) → numbers (tables_of_class m class) ≡ own_tables (entity_at m class)
class_numbers m class =
    let e = entity_at m class in
    flat_map-append (λ (t : TableRule). t.table ∷ []) (root_table m class e.origin) (flat_map (join_table m class) e.relations)
    ∙ (λ i. root_number m class e.origin i
    ++ (flat_map-flat_map (λ (t : TableRule). t.table ∷ []) (join_table m class) e.relations ∙ flat_map_same (λ r. numbers (join_table m class r)) (λ r. join_tables r.side) e.relations (λ r k. join_number m class r)) i)

entities_by_class : (m : PersistenceUnit) → map (entity_at m) (classes m) ≡ m.entities
entities_by_class m = sym (fill_by_all (entity_at m) m.entities (length m.entities) no_entity refl (λ k h. refl))

pub unit_numbers : (m : PersistenceUnit) → numbers (schema_of m).tables ≡ tables_of m
unit_numbers m =
    ap (λ ns. 0 ∷ ns)
    (flat_map-flat_map (λ (t : TableRule). t.table ∷ []) (tables_of_class m) (classes m)
    ∙ flat_map_same (λ c. numbers (tables_of_class m c)) (λ c. own_tables (entity_at m c)) (classes m) (λ c k. class_numbers m c)
    ∙ sym (flat_map-map own_tables (entity_at m) (classes m))
    ∙ ap (flat_map own_tables) (entities_by_class m))

-- ---- each is found

pub table_found : (m : PersistenceUnit) → are_distinct_numbers (tables_of m) ≡ true → (t : TableRule) → Has (schema_of m).tables t → table_of (schema_of m) t.table ≡ Some t
table_found m distinct t h =
    let tables = (schema_of m).tables in
    find_only (λ u. u.table == t.table) tables t h (same_number t.table)
    (λ u g e. one_owner (λ (v : TableRule). v.table ∷ []) tables (ap are_distinct_numbers (unit_numbers m) ∙ distinct) u t t.table g h (inl (are_same_numbers u.table t.table e)) (inl refl))

pub has_table_of_class : (m : PersistenceUnit) (class : ℕ) → is_class m class ≡ true → (t : TableRule) → Has (tables_of_class m class) t → Has (schema_of m).tables t
has_table_of_class m class is t h = inr (into_flat_map (tables_of_class m) (classes m) class t (within_classes m class is) h)

-- ---- the table of a root

abbrev pub main_table : PersistenceUnit → ℕ → Root → TableRule
main_table m class root = record { table = root.table; key = kinds_of root; columns = rules_of m class root }

pub has_main_table : (m : PersistenceUnit) (class : ℕ) → is_class m class ≡ true → (root : Root) → (entity_at m class).origin ≡ Origin.Root root → Has (schema_of m).tables (main_table m class root)
has_main_table m class is root e =
    let own = entity_at m class in
    has_table_of_class m class is (main_table m class root)
    (append_has (root_table m class own.origin) (flat_map (join_table m class) own.relations) (main_table m class root)
    (inl (subst (λ o. Has (root_table m class o) (main_table m class root)) (sym e) (inl refl))))

-- the class that begins the hierarchy of a root
pub record Beginning (m : PersistenceUnit) (root : Root) : Type 0 where
  pub class : ℕ
  pub is : is_class m class ≡ true
  pub origin : (entity_at m class).origin ≡ Origin.Root root

origin_with : (table : ℕ) (origin : Origin) → has_table table origin ≡ true → origin ≡ Origin.Root (root_in origin)
origin_with table (Origin.Root root) h = refl
origin_with table (Origin.Extends parent) h = absurd (true_false (sym h))

pub beginning : (m : PersistenceUnit) (table : ℕ) (root : Root) → root_at m table ≡ Some root → Beginning m root
beginning m table root e = by_answer (find (λ class. has_table table (entity_at m class).origin) (classes m)) refl e
  where
    by_answer : (o : Option ℕ) → find (λ class. has_table table (entity_at m class).origin) (classes m) ≡ o → option_map (λ class. root_in (entity_at m class).origin) o ≡ Some root → Beginning m root
    by_answer None f g = absurd (some_none root (sym g))
    by_answer (Some class) f g =
        let r = find_some (λ class. has_table table (entity_at m class).origin) (classes m) class f in
        record { class = class; is = class_within m class r.0; origin = origin_with table (entity_at m class).origin r.1 ∙ ap Origin.Root (value_in _ root g) }

pub root_table_found : (m : PersistenceUnit) → are_distinct_numbers (tables_of m) ≡ true → (root : Root) (b : Beginning m root) → table_of (schema_of m) root.table ≡ Some (main_table m b.class root)
root_table_found m distinct root b = table_found m distinct (main_table m b.class root) (has_main_table m b.class b.is root b.origin)

-- ---- join tables

abbrev pub pair_table : ℕ → List Kind → List Kind → TableRule
pair_table join owner target = record { table = join; key = owner ++ target; columns = one_number }

not_first : (n : ℕ) → nat_lt 0 (suc n) ≡ false → ⊥
not_first n h = grind (arith, nat_tests)

not_later : (k n : ℕ) → nat_lt (suc k) (suc n) ≡ false → nat_lt k n ≡ false
not_later k n h = grind (arith, nat_tests)

no_item : {A : Type 0} (xs : List A) (k : ℕ) (d : A) → nat_lt k (length xs) ≡ false → slice_index_or xs k d ≡ d
no_item [] k d h = refl
no_item (x ∷ xs) zero d h = absurd (not_first (length xs) h)
no_item (x ∷ xs) (suc k) d h = no_item xs k d (not_later k (length xs) h)

-- only a class has relations
pub declaring_class : (m : PersistenceUnit) (c : ℕ) (r : Relation) → Has (entity_at m c).relations r → is_class m c ≡ true
declaring_class m c r h = by_test (is_class m c) refl
  where
    by_test : (b : Bool) → is_class m c ≡ b → is_class m c ≡ true
    by_test true e = e
    by_test false e = absurd (subst (λ (z : Entity). Has z.relations r) (no_item m.entities c no_entity e) h)

-- a relation with a join table of a class has the table of the class's keys and the target's
pub join_table_found : (m : PersistenceUnit) → IsUnambiguous m → (class : ℕ) → is_class m class ≡ true → (r : Relation) → Has (relations_of m class) r → (join : ℕ) → r.side ≡ Side.ManyToMany join
    → table_of (schema_of m) join ≡ Some (pair_table join (kinds_of (root_of m class)) (kinds_of (root_of m r.target)))
join_table_found m clear class is r h join side =
    let from = from_flat_map (λ c. (entity_at m c).relations) (chain m class) r h in
    let c = from.0 in
    let e = entity_at m c in
    let t = pair_table join (kinds_of (root_of m c)) (kinds_of (root_of m r.target)) in
    let own : Has (join_table m c r) t = subst (λ (z : Relation). Has (join_table m c z) t) (λ i. record r { side = sym side i }) (inl refl) in
    let same = clear.kinds class c is (has_any (λ d. d == c) (chain m class) c from.1 (same_number c)) in
    table_found m clear.tables t (has_table_of_class m c (declaring_class m c r from.2) t
    (append_has (root_table m c e.origin) (flat_map (join_table m c) e.relations) t (inr (into_flat_map (join_table m c) e.relations r t from.2 own))))
    ∙ (λ i. Some (pair_table join (kinds_of (sym same i)) (kinds_of (root_of m r.target))))

-- Tables of an unambiguous metamodel: table 0 is nobody's.
use Rattle.std.specs.Prelude.{◌≡◌, ℕ, Bool, true, false, ◌==◌, not, List, [], ◌∷◌, ◌++◌, option_map, None}
use Rattle.std.proofs.Common.{refl, sym, ap, subst, ◌∙◌, inl, inr}
use Rattle.std.specs.List.{flat_map, list_any}
use Rattle.jpa_model.specs.declared.unit.Entity.{Entity}
use Rattle.jpa_model.specs.declared.unit.Origin.{Origin}
use Rattle.jpa_model.specs.declared.unit.Relation.{Relation}
use Rattle.jpa_model.specs.declared.unit.PersistenceUnit.{PersistenceUnit}
use Rattle.jpa_model.specs.Chains.{entity_at, root_in}
use Rattle.jpa_rows.specs.rows.Cells.{root_tables, join_tables, tables_of}
use Rattle.jpa_rows.proofs.laws.Facts.{and_first, and_second, true_false}
use Rattle.jpa_rows.proofs.laws.Elements.{Has, append_has, into_flat_map}
use Rattle.jpa_rows.proofs.laws.Lists.{any_has, has_any}
use Rattle.jpa_rows.specs.rows.Tables.{classes}
use Rattle.jpa_object_rows.specs.meaning.Identities.{has_table, root_at, declares, declarer_at}
use Rattle.jpa_object_rows.specs.meaning.Unambiguous.{are_distinct_numbers, is_class}
use Rattle.jpa_object_rows.proofs.meaning.Bytes.Orders.{are_same_numbers, same_number}
use Rattle.jpa_object_rows.proofs.meaning.Bytes.Classes.{class_within, has_entity, find_none}

-- ---- the tables of one entity

abbrev pub own_tables : Entity → List ℕ
own_tables e = root_tables e.origin ++ flat_map (λ r. join_tables r.side) e.relations

pub has_root_table : (table : ℕ) (origin : Origin) → has_table table origin ≡ true → Has (root_tables origin) table
has_root_table table (Origin.Root root) h = inl (are_same_numbers root.table table h)
has_root_table table (Origin.Extends parent) h = absurd (true_false (sym h))

pub has_join_table : (join : ℕ) (e : Entity) → declares join e ≡ true → Has (flat_map (λ r. join_tables r.side) e.relations) join
has_join_table join e h =
    let r = any_has (λ (r : Relation). list_any (λ t. t == join) (join_tables r.side)) e.relations h in
    let t = any_has (λ t. t == join) (join_tables (r.0).side) r.2 in
    into_flat_map (λ (r : Relation). join_tables r.side) e.relations r.0 join r.1 (subst (Has (join_tables (r.0).side)) (are_same_numbers t.0 join t.2) t.1)

-- ---- table 0

pub unless_true : (b : Bool) → (b ≡ true → ⊥) → b ≡ false
unless_true true h = absurd (h refl)
unless_true false h = refl

no_zero : (m : PersistenceUnit) → are_distinct_numbers (tables_of m) ≡ true → (class : ℕ) → is_class m class ≡ true → Has (own_tables (entity_at m class)) 0 → ⊥
no_zero m h class within at =
    let rest = flat_map own_tables m.entities in
    let here : Has rest 0 = into_flat_map own_tables m.entities (entity_at m class) 0 (has_entity m class within) at in
    true_false (sym (and_first (not (list_any (λ b. 0 == b) rest)) _ h) ∙ ap not (has_any (λ b. 0 == b) rest 0 here refl))

pub zero_root : (m : PersistenceUnit) → are_distinct_numbers (tables_of m) ≡ true → root_at m 0 ≡ None
zero_root m h =
    ap (option_map (λ class. root_in (entity_at m class).origin))
    (find_none (λ class. has_table 0 (entity_at m class).origin) (classes m)
    (λ class g. unless_true (has_table 0 (entity_at m class).origin)
    (λ e. no_zero m h class (class_within m class g) (append_has (root_tables (entity_at m class).origin) _ 0 (inl (has_root_table 0 (entity_at m class).origin e))))))

pub zero_join : (m : PersistenceUnit) → are_distinct_numbers (tables_of m) ≡ true → declarer_at m 0 ≡ None
zero_join m h =
    find_none (λ class. declares 0 (entity_at m class)) (classes m)
    (λ class g. unless_true (declares 0 (entity_at m class))
    (λ e. no_zero m h class (class_within m class g) (append_has (root_tables (entity_at m class).origin) _ 0 (inr (has_join_table 0 (entity_at m class) e)))))

-- ---- numbers that are distinct

pub distinct_rest : (xs ys : List ℕ) → are_distinct_numbers (xs ++ ys) ≡ true → are_distinct_numbers ys ≡ true
distinct_rest [] ys h = h
distinct_rest (x ∷ xs) ys h = distinct_rest xs ys (and_second (not (list_any (λ b. x == b) (xs ++ ys))) _ h)

pub distinct_apart : (xs ys : List ℕ) → are_distinct_numbers (xs ++ ys) ≡ true → (n : ℕ) → Has xs n → Has ys n → ⊥
distinct_apart [] ys h n p q = absurd p
distinct_apart (x ∷ xs) ys h n (inl e) q =
    let here = has_any (λ b. x == b) (xs ++ ys) n (append_has xs ys n (inr q)) (ap (λ b. x == b) (sym e) ∙ same_number x) in
    true_false (sym (and_first (not (list_any (λ b. x == b) (xs ++ ys))) _ h) ∙ ap not here)
distinct_apart (x ∷ xs) ys h n (inr p) q = distinct_apart xs ys (and_second (not (list_any (λ b. x == b) (xs ++ ys))) _ h) n p q

-- Units in which each chain ends at a root, and what is numbered in a hierarchy is numbered once: roots and chains.
use Rattle.std.specs.Prelude.{◌≡◌, ℕ, zero, suc, ◌-◌, pos, true, ◌==◌, ◌||◌, nat_lt, List, [], ◌∷◌, ◌++◌, map, length, filter, slice_index_or, Option, Some, None, option_map}
use Rattle.std.proofs.Common.{refl, sym, ap, subst, ◌∙◌, arith, inl, inr}
use Rattle.std.specs.List.{flat_map, AllByRecursion}
use Rattle.std.proofs.lemmas.List.FromFn.{fill_by_all}
use Rattle.jpa_value.specs.Value.{is_i64}
use Rattle.jpa_model.specs.declared.unit.Entity.{Entity}
use Rattle.jpa_model.specs.declared.unit.Origin.{Origin}
use Rattle.jpa_model.specs.declared.unit.PersistenceUnit.{PersistenceUnit}
use Rattle.jpa_model.specs.Chains.{chain, chain_from, superclass_in, root_in, root_of, root_class, entity_at, no_entity, is_kind_of, column_of}
use Rattle.jpa_rows.specs.rows.Cells.{tables_of, root_tables, join_tables}
use Rattle.jpa_rows.proofs.laws.Elements.{Has, append_has}
use Rattle.jpa_rows.proofs.laws.Lists.{any_has, flat_map-map}
use Rattle.jpa_rows.specs.rows.Tables.{classes}
use Rattle.jpa_object_rows.specs.meaning.Identities.{has_table, root_at}
use Rattle.jpa_object_rows.specs.meaning.Unambiguous.{are_distinct_numbers, is_class, version_columns, link_columns}
use Rattle.jpa_object_rows.proofs.meaning.Bytes.Orders.{are_same_numbers, same_number}
use Rattle.jpa_object_rows.proofs.meaning.Bytes.Classes.{below, class_within, within_classes, find_only}
use Rattle.jpa_object_rows.proofs.meaning.Bytes.Tables.{own_tables, has_root_table, distinct_rest}
use Rattle.jpa_object_rows.proofs.meaning.Bytes.Climb as climb
use Rattle.jpa_object_rows.proofs.meaning.Bytes.Distinct.{one_owner}

abbrev pub own_version : Origin → List ℕ
own_version (Origin.Root root) = version_columns root.version
own_version (Origin.Extends parent) = []

-- the columns that a class itself declares
abbrev pub own_columns : Entity → List ℕ
own_columns e = own_version e.origin ++ map (λ a. a.column) e.attributes ++ flat_map (λ r. link_columns (column_of r.side)) e.relations

-- the classes whose chains begin with this one
abbrev pub hierarchy : PersistenceUnit → ℕ → List ℕ
hierarchy m root = filter (λ class. climb.first_in (chain m class) == root) (classes m)

pub record IsMapped (m : PersistenceUnit) : Type 0 where
  pub revision : (m.revision == 1 || m.revision == 2) ≡ true
  pub tables : are_distinct_numbers (tables_of m) ≡ true
  pub small : AllByRecursion (λ table. is_i64 (pos table) ≡ true) (tables_of m)
  pub ends : (class : ℕ) → is_class m class ≡ true → superclass_in (entity_at m (climb.first_in (chain m class))).origin ≡ None
  pub within : (class : ℕ) → is_class m class ≡ true → (c : ℕ) → Has (chain m class) c → is_class m c ≡ true
  pub columns : (root : ℕ) → is_class m root ≡ true → are_distinct_numbers (flat_map (λ c. own_columns (entity_at m c)) (hierarchy m root)) ≡ true
  pub numbered : (class : ℕ) → is_class m class ≡ true → Has (own_columns (entity_at m class)) 0 → ⊥
  pub discriminators : (root : ℕ) → is_class m root ≡ true → (a b : ℕ) → Has (hierarchy m root) a → Has (hierarchy m root) b → (entity_at m a).discriminator ≡ (entity_at m b).discriminator → a ≡ b

-- ---- chains of a unit climb

abbrev up : PersistenceUnit → ℕ → Option ℕ
up m c = superclass_in (entity_at m c).origin

climbs_from : (m : PersistenceUnit) (n c : ℕ) (origin : Origin) → chain_from m n c origin ≡ climb.climb (up m) n c (superclass_in origin)
climbs_from m zero c origin = refl
climbs_from m (suc n) c (Origin.Root r) = refl
climbs_from m (suc n) c (Origin.Extends parent) = ap (λ cs. cs ++ c ∷ []) (climbs_from m n parent (entity_at m parent).origin)

above : (k n : ℕ) → nat_lt k n ≡ true → n ≡ suc (n - 1)
above k n h = let less = below k n h in omega arith

chain_climbs : (m : PersistenceUnit) (class c : ℕ) → is_class m class ≡ true → chain m c ≡ climb.chain (up m) (length m.entities - 1) c
chain_climbs m class c h = climbs_from m (length m.entities) c (entity_at m c).origin ∙ ap (λ n. climb.climb (up m) n c (up m c)) (above class (length m.entities) h)

-- ---- the root of a class

origin_of_root : (origin : Origin) → superclass_in origin ≡ None → origin ≡ Origin.Root (root_in origin)
origin_of_root (Origin.Root r) e = refl
origin_of_root (Origin.Extends parent) e = cc

pub last_has : (m : PersistenceUnit) (n c : ℕ) (origin : Origin) → Has (chain_from m n c origin) c
last_has m zero c origin = inl refl
last_has m (suc n) c (Origin.Root r) = inl refl
last_has m (suc n) c (Origin.Extends parent) = append_has (chain_from m n parent (entity_at m parent).origin) (c ∷ []) c (inr (inl refl))

pub first_has : (xs : List ℕ) (x : ℕ) → Has xs x → Has xs (climb.first_in xs)
first_has [] x h = absurd h
first_has (y ∷ ys) x h = inl refl

first_as : (xs : List ℕ) (x d : ℕ) → Has xs x → slice_index_or xs 0 d ≡ climb.first_in xs
first_as [] x d h = absurd h
first_as (y ∷ ys) x d h = refl

-- what a class's chain says
pub record Lineage (m : PersistenceUnit) (class : ℕ) : Type 0 where
  pub root_first : root_class m class ≡ climb.first_in (chain m class)
  pub root_within : is_class m (root_class m class) ≡ true
  pub has_root : Has (chain m class) (root_class m class)
  pub origin : (entity_at m (root_class m class)).origin ≡ Origin.Root (root_of m class)
  -- the class has the root of each class above it
  pub same_root : (c : ℕ) → Has (chain m class) c → root_class m c ≡ root_class m class
  pub once : climb.NoDuplicates (chain m class)

module _ (m : PersistenceUnit) (mapped : IsMapped m) where
  root_is_first : (c : ℕ) → root_class m c ≡ climb.first_in (chain m c)
  root_is_first c = first_as (chain m c) c c (last_has m (length m.entities) c (entity_at m c).origin)

  pub lineage : (class : ℕ) → is_class m class ≡ true → Lineage m class
  lineage class h =
      let n = length m.entities - 1 in
      let same = λ (c : ℕ). chain_climbs m class c h in
      let all = climb.climbs (up m) n class (ap (λ cs. up m (climb.first_in cs)) (sym (chain_climbs m class class h)) ∙ mapped.ends class h) in
      let has_first = first_has (chain m class) class (last_has m (length m.entities) class (entity_at m class).origin) in
      let first = root_is_first class in
      record {
        root_first = first;
        root_within = ap (is_class m) first ∙ mapped.within class h (climb.first_in (chain m class)) has_first;
        has_root = subst (Has (chain m class)) (sym first) has_first;
        origin = origin_of_root (entity_at m (root_class m class)).origin (ap (up m) first ∙ mapped.ends class h);
        same_root = λ c k.
            root_is_first c ∙ ap climb.first_in (same c) ∙ (all.each c (subst (λ cs. Has cs c) (same class) k)).first ∙ ap climb.first_in (sym (same class)) ∙ sym first;
        once = subst climb.NoDuplicates (sym (same class)) all.once;
      }

  pub root_above : (class : ℕ) → is_class m class ≡ true → (c : ℕ) → Has (chain m class) c → root_of m c ≡ root_of m class
  root_above class h c k = ap (λ r. root_in (entity_at m r).origin) ((lineage class h).same_root c k)

  pub kinds_root : (class other : ℕ) → is_class m class ≡ true → is_kind_of m class other ≡ true → root_of m class ≡ root_of m other
  kinds_root class other h k =
      let r = any_has (λ c. c == other) (chain m class) k in
      sym (root_above class h other (subst (Has (chain m class)) (are_same_numbers r.0 other r.2) r.1))

  -- ---- entities by class

  entities_by_class : map (entity_at m) (classes m) ≡ m.entities
  entities_by_class = sym (fill_by_all (entity_at m) m.entities (length m.entities) no_entity refl (λ k h. refl))

  pub class_tables : are_distinct_numbers (flat_map (λ c. own_tables (entity_at m c)) (classes m)) ≡ true
  class_tables =
      ap are_distinct_numbers (sym (flat_map-map own_tables (entity_at m) (classes m)) ∙ ap (flat_map own_tables) entities_by_class) ∙ distinct_rest (0 ∷ []) (flat_map own_tables m.entities) mapped.tables

  -- a table is of one class
  pub one_class : (a b table : ℕ) → is_class m a ≡ true → is_class m b ≡ true → Has (own_tables (entity_at m a)) table → Has (own_tables (entity_at m b)) table → a ≡ b
  one_class a b table ha hb p q = one_owner (λ c. own_tables (entity_at m c)) (classes m) class_tables a b table (within_classes m a ha) (within_classes m b hb) p q

  pub root_has_table : (class table : ℕ) → has_table table (entity_at m class).origin ≡ true → Has (own_tables (entity_at m class)) table
  root_has_table class table h = append_has (root_tables (entity_at m class).origin) (flat_map (λ r. join_tables r.side) (entity_at m class).relations) table (inl (has_root_table table (entity_at m class).origin h))

  own_root_table : (class : ℕ) → is_class m class ≡ true → has_table (root_of m class).table (entity_at m (root_class m class)).origin ≡ true
  own_root_table class h = ap (has_table (root_of m class).table) (lineage class h).origin ∙ same_number (root_of m class).table

  pub root_named : (class : ℕ) → is_class m class ≡ true → root_at m (root_of m class).table ≡ Some (root_of m class)
  root_named class h =
      let table = (root_of m class).table in
      let l = lineage class h in
      ap (option_map (λ c. root_in (entity_at m c).origin))
      (find_only (λ c. has_table table (entity_at m c).origin) (classes m) (root_class m class) (within_classes m (root_class m class) l.root_within) (own_root_table class h)
      (λ c k e. one_class c (root_class m class) table (class_within m c k) l.root_within (root_has_table c table e) (root_has_table (root_class m class) table (own_root_table class h))))

  -- roots with the same table are one
  pub same_root_class : (a b : ℕ) → is_class m a ≡ true → is_class m b ≡ true → (root_of m a).table ≡ (root_of m b).table → root_class m a ≡ root_class m b
  same_root_class a b ha hb e =
      one_class (root_class m a) (root_class m b) (root_of m b).table (lineage a ha).root_within (lineage b hb).root_within
      (subst (Has (own_tables (entity_at m (root_class m a)))) e (root_has_table (root_class m a) (root_of m a).table (own_root_table a ha)))
      (root_has_table (root_class m b) (root_of m b).table (own_root_table b hb))

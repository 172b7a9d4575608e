-- In a unit that a well-formed description describes, the numbers of tables and columns fit 32 bits.
use Rattle.std.specs.Prelude.{◌≡◌, ℕ, zero, suc, ◌+◌, ◌<◌, ◌≤◌, ◌^◌, ℤ, pos, negsuc, unsigned_abs, int_le, true, ◌==◌, ◌&&◌, List, [], ◌∷◌, ◌++◌, map, length, Option, Some, None, option_map, unwrap_or, IfSome}
use Rattle.std.proofs.Common.{refl, sym, subst, inl, inr, ◌⊎◌, zero-add, arith, get_or}
use Rattle.std.proofs.lemmas.Bool.Decides.{nat_tests}
use Rattle.std.proofs.lemmas.List.{get_or-map, length-map}
use Rattle.std.proofs.lemmas.List.Elements.{All-nil, All-cons}
use Rattle.std.specs.List.{flat_map, list_all, range_with_len}
use Rattle.jpa_model.specs.declared.draft.Draft.{Draft}
use Rattle.jpa_model.specs.declared.draft.DraftAttribute.{DraftAttribute}
use Rattle.jpa_model.specs.declared.draft.DraftEntity.{DraftEntity}
use Rattle.jpa_model.specs.declared.draft.DraftOrigin.{DraftOrigin}
use Rattle.jpa_model.specs.declared.draft.DraftRelation.{DraftRelation}
use Rattle.jpa_model.specs.declared.draft.DraftSide.{DraftSide}
use Rattle.jpa_model.specs.declared.draft.DraftVersion.{DraftVersion}
use Rattle.jpa_model.specs.declared.draft.RelationKind.{RelationKind}
use Rattle.jpa_model.specs.declared.unit.Attribute.{Attribute}
use Rattle.jpa_model.specs.declared.unit.PersistenceUnit.{PersistenceUnit}
use Rattle.jpa_model.specs.Chains.{entity_at, no_entity, column_of, same_name}
use Rattle.jpa_model.specs.Drafted as drafted
use Rattle.jpa_model.specs.WellFormed as well_formed
use Rattle.jpa_model.specs.Described.{unit_of, entity_of, origin_of, attribute_of, relation_of, side_of, version_of}
use Rattle.jpa_model.specs.Kept.{IsDescribed}
use Rattle.jpa_model.proofs.Found.{position_from-within}
use Rattle.jpa_rows.proofs.laws.Facts.{and_first, and_second, true_false}
use Rattle.jpa_rows.proofs.laws.Elements.{Has, append_has, into_filter, into_flat_map}
use Rattle.jpa_rows.proofs.laws.Lists.{each_passes}
use Rattle.jpa_rows.specs.rows.Numbers.{join_of, IsNarrow, IsNarrowVersion, IsNarrowLink, IsNarrowOrigin, IsNarrowRelation, AreNarrowAttributes, AreNarrowRelations}

-- numbers that a description may name
AreNumbers : List ℤ → Type 0
AreNumbers ns = (n : ℤ) → Has ns n → well_formed.is_number n ≡ true

narrow : (n : ℤ) → well_formed.is_number n ≡ true → unsigned_abs n < 2 ^ 32
narrow (pos k) h = below k (and_second (int_le (pos 1) (pos k)) _ h)
  where
    below : (k : ℕ) → int_le (pos k) (pos 1000000) ≡ true → k < 2 ^ 32
    below k h = grind (arith, nat_tests)
narrow (negsuc k) h = absurd (true_false (sym h))

-- ---- what an entity declares

narrow_version : (o : Option DraftVersion) → AreNumbers (drafted.listed (λ v. v.column) o) → IsNarrowVersion (option_map version_of o)
unfolding AreNumbers
narrow_version None h = tt
narrow_version (Some v) h = narrow v.column (h v.column (inl refl))

narrow_origin : (d : Draft) (o : DraftOrigin) → AreNumbers (drafted.version_columns o) → AreNumbers (drafted.root_tables o) → IsNarrowOrigin (origin_of d o)
unfolding AreNumbers
narrow_origin d (DraftOrigin.Root r) columns tables = record { table = narrow r.table (tables r.table (inl refl)); version = narrow_version r.version columns }
narrow_origin d (DraftOrigin.Extends name) columns tables = tt

narrow_attributes : (attributes : List DraftAttribute) → AreNumbers (map (λ a. a.column) attributes) → AreNarrowAttributes (map attribute_of attributes)
unfolding AreNumbers
narrow_attributes [] h = All-nil _
narrow_attributes (a ∷ attributes) h =
    All-cons (λ (a : Attribute). a.column < 2 ^ 32) (attribute_of a) (map attribute_of attributes) (narrow a.column (h a.column (inl refl))) (narrow_attributes attributes (λ n k. h n (inr k)))

narrow_link : (d : Draft) (kind : RelationKind) (target : Option ℕ) (side : DraftSide) → AreNumbers (drafted.side_columns side) → IsNarrowLink (column_of (side_of d kind target side))
unfolding AreNumbers
narrow_link d RelationKind.OneToOne target (DraftSide.Column c) h = narrow c.column (h c.column (inl refl))
narrow_link d RelationKind.ManyToOne target (DraftSide.Column c) h = narrow c.column (h c.column (inl refl))
narrow_link d RelationKind.OneToMany target (DraftSide.Column c) h = narrow c.column (h c.column (inl refl))
narrow_link d RelationKind.ManyToMany target (DraftSide.Column c) h = narrow c.column (h c.column (inl refl))
narrow_link d kind target (DraftSide.JoinTable table) h = tt
narrow_link d RelationKind.OneToOne target (DraftSide.MappedBy name) h = tt
narrow_link d RelationKind.ManyToOne target (DraftSide.MappedBy name) h = tt
narrow_link d RelationKind.OneToMany target (DraftSide.MappedBy name) h = tt
narrow_link d RelationKind.ManyToMany target (DraftSide.MappedBy name) h = tt

narrow_join : (d : Draft) (kind : RelationKind) (target : Option ℕ) (side : DraftSide) → AreNumbers (drafted.join_tables side) → IfSome (join_of (side_of d kind target side)) (λ table. table < 2 ^ 32)
unfolding AreNumbers
narrow_join d RelationKind.OneToOne target (DraftSide.Column c) h = tt
narrow_join d RelationKind.ManyToOne target (DraftSide.Column c) h = tt
narrow_join d RelationKind.OneToMany target (DraftSide.Column c) h = tt
narrow_join d RelationKind.ManyToMany target (DraftSide.Column c) h = tt
narrow_join d kind target (DraftSide.JoinTable table) h = narrow table (h table (inl refl))
narrow_join d RelationKind.OneToOne target (DraftSide.MappedBy name) h = tt
narrow_join d RelationKind.ManyToOne target (DraftSide.MappedBy name) h = tt
narrow_join d RelationKind.OneToMany target (DraftSide.MappedBy name) h = tt
narrow_join d RelationKind.ManyToMany target (DraftSide.MappedBy name) h = tt

place_below : (d : Draft) (name : List ℕ) → IfSome (drafted.place_of d name) (λ k. k < length d.entities)
place_below d name = subst (λ n. IfSome (drafted.place_of d name) (λ k. k < n)) (zero-add (length d.entities)) (position_from-within (λ (e : DraftEntity). same_name e.name name) 0 d.entities)

target_below : (d : Draft) (name : List ℕ) → 0 < length d.entities → unwrap_or (drafted.place_of d name) 0 < length d.entities
target_below d name some = go (drafted.place_of d name) (place_below d name)
  where
    go : (o : Option ℕ) → IfSome o (λ k. k < length d.entities) → unwrap_or o 0 < length d.entities
    go None within = some
    go (Some k) within = within

count : (d : Draft) → length (unit_of d).entities ≡ length d.entities
count d = length-map d.entities (entity_of d)

narrow_relation : (d : Draft) (r : DraftRelation) → 0 < length d.entities → AreNumbers (drafted.side_columns r.side) → AreNumbers (drafted.join_tables r.side) → IsNarrowRelation (unit_of d) (relation_of d r)
narrow_relation d r some columns tables = record {
  target = subst (λ n. unwrap_or (drafted.place_of d r.target) 0 < n) (sym (count d)) (target_below d r.target some);
  column = narrow_link d r.kind (drafted.place_of d r.target) r.side columns;
  join = narrow_join d r.kind (drafted.place_of d r.target) r.side tables;
}

first_of_both : (xs ys : List ℤ) → AreNumbers (xs ++ ys) → AreNumbers xs
unfolding AreNumbers
first_of_both xs ys h n k = h n (append_has xs ys n (inl k))

last_of_both : (xs ys : List ℤ) → AreNumbers (xs ++ ys) → AreNumbers ys
unfolding AreNumbers
last_of_both xs ys h n k = h n (append_has xs ys n (inr k))

narrow_relations : (d : Draft) (relations : List DraftRelation) → 0 < length d.entities → AreNumbers (flat_map (λ r. drafted.side_columns r.side) relations) → AreNumbers (flat_map (λ r. drafted.join_tables r.side) relations) → AreNarrowRelations (unit_of d) (map (relation_of d) relations)
narrow_relations d [] some columns tables = All-nil _
narrow_relations d (r ∷ relations) some columns tables =
    let cs = flat_map (λ (r : DraftRelation). drafted.side_columns r.side) relations in
    let ts = flat_map (λ (r : DraftRelation). drafted.join_tables r.side) relations in
    All-cons (IsNarrowRelation (unit_of d)) (relation_of d r) (map (relation_of d) relations)
    (narrow_relation d r some (first_of_both (drafted.side_columns r.side) cs columns) (first_of_both (drafted.join_tables r.side) ts tables))
    (narrow_relations d relations some (last_of_both (drafted.side_columns r.side) cs columns) (last_of_both (drafted.join_tables r.side) ts tables))

narrow_entity : (d : Draft) (e : DraftEntity) → 0 < length d.entities → AreNumbers (drafted.columns e) → AreNumbers (drafted.tables e) → IsNarrow (unit_of d) (entity_of d e)
narrow_entity d e some columns tables =
    let v = drafted.version_columns e.origin in
    let a = map (λ (a : DraftAttribute). a.column) e.attributes in
    let l = flat_map (λ (r : DraftRelation). drafted.side_columns r.side) e.relations in
    let t = drafted.root_tables e.origin in
    let j = flat_map (λ (r : DraftRelation). drafted.join_tables r.side) e.relations in
    let own = first_of_both (v ++ a) l columns in
    record {
      origin = narrow_origin d e.origin (first_of_both v a own) (first_of_both t j tables);
      attributes = narrow_attributes e.attributes (last_of_both v a own);
      relations = narrow_relations d e.relations some (last_of_both (v ++ a) l columns) (last_of_both t j tables);
    }

-- ---- the numbers of each entity

record Kept (d : Draft) : Type 0 where
  tables : list_all well_formed.is_number (flat_map drafted.tables d.entities) ≡ true
  apart : list_all (λ root. well_formed.is_stored_apart d (drafted.hierarchy d root)) (drafted.classes d) ≡ true

kept : (d : Draft) → well_formed.is_well_formed d ≡ true → Kept d
kept d h =
    let together = and_second (well_formed.has_revision d && well_formed.has_entities d) _ h in
    let later = and_second (well_formed.has_members d) _ (and_second (well_formed.has_roots d) _ together) in
    let numbers = and_first (well_formed.has_numbers d) _ later in
    let short = list_all well_formed.is_discriminator_short d.entities in
    let ns = flat_map drafted.tables d.entities in
    record {
      tables = and_first (list_all well_formed.is_number ns) _ (and_second short _ (and_first (short && well_formed.are_numbers ns) _ numbers));
      apart = and_second (short && well_formed.are_numbers ns) _ numbers;
    }

item_at : {A : Type 0} (xs : List A) (k : ℕ) (d : A) → k < length xs → Has xs (get_or xs k d)
item_at [] k d h = absurd (omega arith)
item_at (x ∷ xs) zero d h = inl refl
item_at (x ∷ xs) (suc k) d h = inr (item_at xs k d (omega arith))

in_range : (a n c : ℕ) → a ≤ c → c < a + n → Has (range_with_len a n) c
in_range a zero c h g = absurd (omega arith)
in_range a (suc n) c h g = elim (lemma a c h) [ inl e ↦ inl e | inr l ↦ inr (in_range (a + 1) n c l (omega arith)) ]
  where
    lemma : (a c : ℕ) → a ≤ c → (a ≡ c) ⊎ (a + 1 ≤ c)
    lemma a c h = grind arith

same_number : (n : ℕ) → n == n ≡ true
same_number n = grind (arith, nat_tests)

superclass_below : (d : Draft) (o : DraftOrigin) → IfSome (drafted.superclass_in d o) (λ k. k < length d.entities)
superclass_below d (DraftOrigin.Root r) = tt
superclass_below d (DraftOrigin.Extends name) = place_below d name

first_below : (d : Draft) (xs : List ℕ) (class : ℕ) → class < length d.entities → drafted.first_of xs < length d.entities → drafted.first_of (xs ++ class ∷ []) < length d.entities
first_below d [] class h g = h
first_below d (x ∷ xs) class h g = g

chain_below : (d : Draft) (n class : ℕ) (o : Option ℕ) → class < length d.entities → IfSome o (λ k. k < length d.entities) → drafted.first_of (drafted.chain_from d n class o) < length d.entities
chain_below d zero class o h g = h
chain_below d (suc n) class None h g = h
chain_below d (suc n) class (Some above) h g =
    first_below d (drafted.chain_from d n above (drafted.superclass_of d above)) class h
    (chain_below d n above (drafted.superclass_of d above) g (superclass_below d (drafted.entity_at d above).origin))

module _ (d : Draft) (well : well_formed.is_well_formed d ≡ true) where
  root_at : (class : ℕ) → class < length d.entities → drafted.first_of (drafted.chain d class) < length d.entities
  root_at class h = chain_below d (length d.entities) class (drafted.superclass_of d class) h (superclass_below d (drafted.entity_at d class).origin)

  class_there : (class : ℕ) → class < length d.entities → Has (drafted.classes d) class
  class_there class h = in_range 0 (length d.entities) class (omega arith) (omega arith)

  columns_there : (class : ℕ) → class < length d.entities → AreNumbers (drafted.columns (drafted.entity_at d class))
  unfolding AreNumbers
  columns_there class h n k =
      let root = drafted.first_of (drafted.chain d class) in
      let places = drafted.hierarchy d root in
      let all = drafted.declared_by drafted.columns d places in
      let apart = each_passes (λ root. well_formed.is_stored_apart d (drafted.hierarchy d root)) (drafted.classes d) (kept d well).apart root (class_there root (root_at class h)) in
      let numbers = and_first (list_all well_formed.is_number all) _ (and_first (well_formed.are_numbers all) _ apart) in
      let here = into_filter (λ c. drafted.first_of (drafted.chain d c) == root) (drafted.classes d) class (class_there class h) (same_number root) in
      each_passes well_formed.is_number all numbers n (into_flat_map (λ c. drafted.columns (drafted.entity_at d c)) places class n here k)

  tables_there : (class : ℕ) → class < length d.entities → AreNumbers (drafted.tables (drafted.entity_at d class))
  unfolding AreNumbers
  tables_there class h n k =
      each_passes well_formed.is_number (flat_map drafted.tables d.entities) (kept d well).tables n
      (into_flat_map drafted.tables d.entities (drafted.entity_at d class) n (item_at d.entities class drafted.no_entity h) k)

  narrow_class : (class : ℕ) → class < length (unit_of d).entities → IsNarrow (unit_of d) (entity_at (unit_of d) class)
  narrow_class class h =
      let within : class < length d.entities = subst (λ n. class < n) (count d) h in
      subst (IsNarrow (unit_of d)) (sym (get_or-map (entity_of d) d.entities class drafted.no_entity no_entity within))
      (narrow_entity d (drafted.entity_at d class) (omega arith) (columns_there class within) (tables_there class within))

pub entity_narrow : (m : PersistenceUnit) → IsDescribed m → (class : ℕ) → class < length m.entities → IsNarrow m (entity_at m class)
entity_narrow m described = subst (λ u. (class : ℕ) → class < length u.entities → IsNarrow u (entity_at u class)) (sym (described.1).1) (narrow_class described.0 (described.1).0)

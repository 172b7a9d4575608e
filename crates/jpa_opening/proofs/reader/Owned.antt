-- A row of a join table whose owner stands, with the relation, is one of the owner's pairs; and the rows of a set have their owners.
use Rattle.std.specs.Prelude.{◌≡◌, ◌==◌, ◌&&◌, not, ℕ, suc, Bool, true, T, List, [], ◌∷◌, ◌++◌, length, map, take, drop, Option, Some, None, option_map}
use Rattle.std.proofs.Common.{refl, sym, ap, subst, ◌∙◌, inl, inr}
use Rattle.std.proofs.Math.Seq.{take-append_seam}
use Rattle.std.proofs.lemmas.List.{take-append-drop}
use Rattle.std.specs.List.{zip, flat_map}
use Rattle.std.specs.FinMap.{is_sorted}
use Rattle.jpa_value.specs.declared.value.Value.{Value}
use Rattle.jpa_value.specs.declared.value.Identity.{Identity}
use Rattle.jpa_value.specs.Value.{identity_cmp, fits, is_null}
use Rattle.jpa_model.specs.declared.unit.Part.{Part}
use Rattle.jpa_model.specs.declared.unit.PersistenceUnit.{PersistenceUnit}
use Rattle.jpa_model.specs.declared.unit.Relation.{Relation}
use Rattle.jpa_model.specs.declared.unit.Root.{Root}
use Rattle.jpa_model.specs.declared.unit.Side.{Side}
use Rattle.jpa_model.specs.Chains.{entity_at, root_of, relations_of, chain}
use Rattle.jpa_behaviour.specs.Behaviour.{World}
use Rattle.jpa_stored.specs.declared.objects.stored.Stored.{Stored}
use Rattle.jpa_stored.specs.objects.Sets.{StoredSet, stored_at, is_of, each_fits, owns_well}
use Rattle.jpa_rows.specs.rows.Cells.{join_tables, root_tables}
use Rattle.jpa_rows.specs.rows.Rows.{RowId, Row, Rows, table_rows}
use Rattle.jpa_rows.proofs.laws.Each.{Each}
use Rattle.jpa_rows.proofs.laws.Facts.{true_false, and_second}
use Rattle.jpa_rows.proofs.laws.Elements.{Has, append_has, from_flat_map, into_flat_map, into_map, into_filter, has_found}
use Rattle.jpa_rows.proofs.laws.Lists.{all_each, has_any}
use Rattle.jpa_object_rows.specs.meaning.Identities.{declares, declarer_at}
use Rattle.jpa_object_rows.specs.meaning.Unambiguous.{IsUnambiguous}
use Rattle.jpa_object_rows.specs.meaning.View.{is_storable, AreStorable, PairsAre, SideHas}
use Rattle.jpa_object_rows.proofs.meaning.Bytes.Keys.{table_is}
use Rattle.jpa_object_rows.proofs.meaning.Bytes.Mapped.{IsMapped, root_above, one_class}
use Rattle.jpa_object_rows.proofs.meaning.Bytes.MappedClasses.{unambiguous_mapped}
use Rattle.jpa_object_rows.proofs.meaning.Bytes.Orders.{identities, same_number}
use Rattle.jpa_object_rows.proofs.meaning.Bytes.Reading.{storable}
use Rattle.jpa_object_rows.proofs.meaning.Bytes.Tables.{has_join_table, zero_join}
use Rattle.jpa_object_rows.specs.meaning.Objects.{pair_id, pair_row, side_pairs, pairs_along, number_id, object_entries, object_rows}
use Rattle.jpa_object_rows.specs.meaning.Sets.{key_after, identity_of, target_in, if_any, targets_in, with_set, rows_of}
use Rattle.jpa_rows.specs.rows.NextNumbers.{number_rows}
use Rattle.jpa_object_rows.proofs.meaning.Kept.{over_each, along_each}
use Rattle.jpa_object_rows.proofs.meaning.NextNumbers.{number_each, rows_each}
use Rattle.jpa_object_rows.proofs.meaning.Stored.{own_join}
use Rattle.jpa_object_rows.proofs.meaning.Targets.{after_joined}
use Rattle.jpa_opening.specs.reader.Owners.{owner_of, is_owned_by, is_owned}
use Rattle.jpa_opening.proofs.reader.TableKinds.{declared_above, found_declarer, root_no_declarer, main_root}

-- ---- the owner of a pair

-- the relation of a class with a join table
record Joined (m : PersistenceUnit) (class join : ℕ) : Type 0 where
  relation : Relation
  has : Has (relations_of m class) relation
  side : relation.side ≡ Side.ManyToMany join

joined_by : (side : Side) (join : ℕ) → Has (join_tables side) join → side ≡ Side.ManyToMany join
joined_by (Side.ManyToOne c) join h = absurd h
joined_by (Side.OneToOne c) join h = absurd h
joined_by (Side.OneToOneInverse o) join h = absurd h
joined_by (Side.OneToMany o) join h = absurd h
joined_by (Side.ManyToMany t) join (inl e) = ap Side.ManyToMany e
joined_by (Side.ManyToMany t) join (inr h) = absurd h
joined_by (Side.ManyToManyInverse o) join h = absurd h

joined : (m : PersistenceUnit) (class above join : ℕ) → Has (chain m class) above → declares join (entity_at m above) ≡ true → Joined m class join
joined m class above join k h =
    let r = from_flat_map (λ (r : Relation). join_tables r.side) (entity_at m above).relations join (has_join_table join (entity_at m above) h) in
    record { relation = r.0; has = into_flat_map (λ c. (entity_at m c).relations) (chain m class) above r.0 k r.1; side = joined_by (r.0).side join r.2 }

zipped_with : {A B : Type 0} (ok : A → B → Bool) (xs : List A) (ys : List B) → each_fits ok xs ys ≡ true → (x : A) → Has xs x → (y : B) × Has (zip xs ys) (x, y)
zipped_with ok [] ys h x k = absurd k
zipped_with ok (z ∷ xs) [] h x k = absurd (true_false (sym h))
zipped_with ok (z ∷ xs) (y ∷ ys) h x (inl e) = (y, inl (ap (λ w. (w, y)) e))
zipped_with ok (z ∷ xs) (y ∷ ys) h x (inr k) = let r = zipped_with ok xs ys (and_second (ok z y) _ h) x k in (r.0, inr r.1)

module _ (m : PersistenceUnit) (rows : Rows) (id : RowId) (row : Row) (here : Has rows (id, row)) (root : Root) where
  abbrev owner : Identity
  owner = owner_of root id.key

  abbrev rest : List Value
  rest = drop (length root.key) id.key

  rejoined : owner.key ++ rest ≡ id.key
  rejoined = take-append-drop (length root.key) id.key

  target_there : (target : ℕ) → Has (targets_in m rows owner id.table target) (identity_of (root_of m target).table rest)
  target_there target =
      let t = identity_of (root_of m target).table rest in
      let after : key_after owner.key id.key ≡ Some rest = ap (key_after owner.key) (sym rejoined) ∙ after_joined owner.key rest in
      into_flat_map (λ (e : RowId × Row). if_any (target_in m target owner e.0)) (table_rows id.table rows) (id, row) t
      (into_filter (λ (e : RowId × Row). (e.0).table == id.table) rows (id, row) here (same_number id.table))
      (subst (λ o. Has (if_any o) t) (sym (ap (option_map (identity_of (root_of m target).table)) after)) (inl refl))

  same_pair : (target : ℕ) → pair_id id.table owner (identity_of (root_of m target).table rest) ≡ id
  same_pair target = λ i. record { table = id.table; key = rejoined i }

  -- it is one of the owner's pairs
  pub owned_pair : (x : Stored) → each_fits (owns_well m) (relations_of m x.class) x.owned ≡ true → PairsAre (targets_in m rows owner) (zip (relations_of m x.class) x.owned)
      → (above : ℕ) → Has (chain m x.class) above → declares id.table (entity_at m above) ≡ true → Has (pairs_along owner (zip (relations_of m x.class) x.owned)) id
  owned_pair x owned pairs above k h =
      let j = joined m x.class above id.table k h in
      let r = j.relation in
      let z = zipped_with (owns_well m) (relations_of m x.class) x.owned owned r j.has in
      let ids = z.0 in
      let t = identity_of (root_of m r.target).table rest in
      let has = all_each (λ (p : Relation × List Identity). SideHas (targets_in m rows owner) (p.0).target p.1 (p.0).side) (zip (relations_of m x.class) x.owned) pairs (r, ids) z.1 in
      let same : targets_in m rows owner id.table r.target ≡ ids = subst (SideHas (targets_in m rows owner) r.target ids) j.side has in
      let there : Has ids t = subst (λ ts. Has ts t) same (target_there r.target) in
      into_flat_map (λ (p : Relation × List Identity). side_pairs owner (p.0).side p.1) (zip (relations_of m x.class) x.owned) (r, ids) id z.1
      (subst (λ s. Has (side_pairs owner s ids) id) (sym j.side)
      (subst (Has (map (pair_id id.table owner) ids)) (same_pair r.target) (into_map (pair_id id.table owner) ids t there)))

-- ---- the rows of a set have their owners

abbrev Owned : PersistenceUnit → StoredSet → RowId → Row → Type 0
Owned m set id row = is_owned m set id ≡ true

key_count : (parts : List Part) (key : List Value) → each_fits (λ part v. fits part.kind v && not (is_null v)) parts key ≡ true → length key ≡ length parts
key_count [] [] h = refl
key_count [] (v ∷ key) h = absurd (true_false (sym h))
key_count (part ∷ parts) [] h = absurd (true_false (sym h))
key_count (part ∷ parts) (v ∷ key) h = ap suc (key_count parts key (and_second (fits part.kind v && not (is_null v)) _ h))

module _ (world : World) (mapped : IsMapped world.model) (set : StoredSet) (up : T (is_sorted identity_cmp set)) where
  clear : IsUnambiguous world.model
  clear = unambiguous_mapped world.model mapped

  -- the owner of an object's pair is the object
  pair_owned : (id : Identity) (x : Stored) → is_storable world id x ≡ true → Has set (id, x) → (r : Relation) → Has (relations_of world.model x.class) r → (join : ℕ) → r.side ≡ Side.ManyToMany join
      → (t : Identity) → Owned world.model set (pair_id join id t) pair_row
  pair_owned id x g here r k join side t = by_answer (declarer_at world.model join) refl
    where
      by_answer : (o : Option ℕ) → declarer_at world.model join ≡ o → is_owned_by world.model set (id.key ++ t.key) (declarer_at world.model join) ≡ true
      by_answer None e = ap (is_owned_by world.model set (id.key ++ t.key)) e
      by_answer (Some class) e =
          let s = storable world id x g in
          let d = found_declarer world.model join class e in
          let a = declared_above world.model x.class join (own_join world.model clear x.class s.class id s.of_root s.named r k join side) in
          let tables = λ (c : ℕ) (h : declares join (entity_at world.model c) ≡ true). append_has (root_tables (entity_at world.model c).origin) (flat_map (λ (r : Relation). join_tables r.side) (entity_at world.model c).relations) join (inr (has_join_table join (entity_at world.model c) h)) in
          let same : a.above ≡ class = one_class world.model mapped a.above class join (mapped.within x.class s.class a.above a.in_chain) d.is (tables a.above a.declares) (tables class d.declares) in
          let in_chain : Has (chain world.model x.class) class = subst (Has (chain world.model x.class)) same a.in_chain in
          let root : root_of world.model class ≡ root_of world.model x.class = root_above world.model mapped x.class s.class class in_chain in
          let count : length id.key ≡ length (root_of world.model class).key = key_count (root_of world.model x.class).key id.key (and_second (id.table == (root_of world.model x.class).table) _ s.of_root) ∙ ap (λ (r : Root). length r.key) (sym root) in
          let key : take (length (root_of world.model class).key) (id.key ++ t.key) ≡ id.key = ap (λ n. take n (id.key ++ t.key)) (sym count) ∙ take-append_seam id.key t.key in
          let table : (root_of world.model class).table ≡ id.table = ap (λ (r : Root). r.table) root ∙ sym (table_is (root_of world.model x.class) id s.of_root) in
          let owner : owner_of (root_of world.model class) (id.key ++ t.key) ≡ id = λ i. record { table = table i; key = key i } in
          ap (is_owned_by world.model set (id.key ++ t.key)) e
          ∙ ap (λ i. is_of world.model (stored_at set i) class) owner
          ∙ ap (λ o. is_of world.model o class) (has_found identities set up id x here)
          ∙ has_any (λ c. c == class) (chain world.model x.class) class in_chain (same_number class)

  object_owned : (id : Identity) (x : Stored) → is_storable world id x ≡ true → Has set (id, x) → Each (Owned world.model set) (object_rows world id x)
  object_owned id x g here =
      let m = world.model in
      let main : is_owned m set id ≡ true = ap (is_owned_by m set id.key) (root_no_declarer m clear id.table (root_of m x.class) (main_root world clear id x g)) in
      over_each (Owned m set) (object_entries world id x) [] (main, along_each (Owned m set) id (relations_of m x.class) x.owned (λ r k join side t. pair_owned id x g here r k join side t)) tt

  set_owned : (part : StoredSet) → AreStorable world part → ((id : Identity) (x : Stored) → Has part (id, x) → Has set (id, x)) → (base : Rows) → Each (Owned world.model set) base → Each (Owned world.model set) (with_set world part base)
  set_owned [] h within base g = g
  set_owned (e ∷ part) h within base g =
      over_each (Owned world.model set) (object_rows world e.0 e.1) (with_set world part base) (object_owned e.0 e.1 h.0 (within e.0 e.1 (inl refl)))
      (set_owned part h.1 (λ id x k. within id x (inr k)) base g)

  pub rows_owned : AreStorable world set → (numbers : List ℕ) → Each (λ id row. is_owned world.model set id ≡ true) (rows_of world set numbers)
  rows_owned h numbers =
      let m = world.model in
      let zero : is_owned_by m set (number_id 0).key (declarer_at m 0) ≡ true = ap (is_owned_by m set (number_id 0).key) (zero_join m clear.tables) in
      set_owned set h (λ id x k. k) (number_rows m numbers)
      (rows_each (Owned m set) m numbers (λ p k root at. ap (is_owned_by m set (number_id root.table).key) (zero_join m clear.tables)) (number_each (Owned m set) 0 m.revision (λ more. zero)))

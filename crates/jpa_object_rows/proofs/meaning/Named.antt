-- The rows of a storable object stand under ids of the unit's tables.
use Rattle.std.specs.Prelude.{◌≡◌, ℕ, true, ◌&&◌, not, pos, List, [], ◌∷◌, ◌++◌, map, T}
use Rattle.std.proofs.Common.{refl, sym, ap, subst, ◌∙◌, inl, inr}
use Rattle.std.specs.List.{zip, list_all}
use Rattle.jpa_value.specs.declared.value.Value.{Value}
use Rattle.jpa_value.specs.declared.value.Kind.{Kind}
use Rattle.jpa_value.specs.declared.value.Identity.{Identity}
use Rattle.jpa_value.specs.Value.{fits, is_null, is_i64}
use Rattle.jpa_model.specs.declared.unit.Part.{Part}
use Rattle.jpa_model.specs.declared.unit.PersistenceUnit.{PersistenceUnit}
use Rattle.jpa_model.specs.declared.unit.Relation.{Relation}
use Rattle.jpa_model.specs.declared.unit.Root.{Root}
use Rattle.jpa_model.specs.declared.unit.Side.{Side}
use Rattle.jpa_model.specs.Chains.{root_of, relations_of}
use Rattle.jpa_behaviour.specs.Behaviour.{World, is_short}
use Rattle.jpa_rows.specs.keys.Keys as keys
use Rattle.jpa_stored.specs.declared.objects.stored.Stored.{Stored}
use Rattle.jpa_stored.specs.objects.Sets.{each_fits, is_key_of, is_identity_of, owns_as, owns_well}
use Rattle.jpa_rows.specs.rows.Cells.{names_representable}
use Rattle.jpa_rows.specs.rows.Rows.{is_key, table_of}
use Rattle.jpa_rows.specs.rows.Tables.{kinds_of, schema_of}
use Rattle.jpa_rows.proofs.laws.Facts.{and_first, and_second, and_both}
use Rattle.jpa_rows.proofs.laws.Elements.{Has}
use Rattle.jpa_object_rows.specs.meaning.View.{is_storable}
use Rattle.jpa_object_rows.specs.meaning.Unambiguous.{IsUnambiguous, is_class}
use Rattle.jpa_object_rows.proofs.meaning.Bytes.Keys.{is_whole, table_is}
use Rattle.jpa_object_rows.proofs.meaning.Bytes.Reading.{storable}
use Rattle.jpa_object_rows.specs.meaning.Raw.{is_key_by, is_id_of, AreIds}
use Rattle.jpa_object_rows.specs.meaning.Objects.{pair_id, side_pairs, pairs_along, pair_ids, number_id}
use Rattle.jpa_object_rows.proofs.meaning.Tables.{beginning, root_table_found, join_table_found}

-- ---- keys

pub short_as_fits : (kind : Kind) (v : Value) → fits kind v ≡ true → is_short v ≡ true
short_as_fits kind Value.Null h = refl
short_as_fits kind (Value.Int n) h = refl
short_as_fits Kind.Int (Value.Text bytes) h = absurd (subst T (sym h) tt)
short_as_fits Kind.Text (Value.Text bytes) h = h
short_as_fits Kind.Bytes (Value.Text bytes) h = absurd (subst T (sym h) tt)
short_as_fits Kind.Int (Value.Bytes bytes) h = absurd (subst T (sym h) tt)
short_as_fits Kind.Text (Value.Bytes bytes) h = absurd (subst T (sym h) tt)
short_as_fits Kind.Bytes (Value.Bytes bytes) h = h

short_parts : (parts : List Part) (key : List Value) → each_fits (λ part v. fits part.kind v && not (is_null v)) parts key ≡ true → list_all is_short key ≡ true
short_parts [] [] h = refl
short_parts [] (v ∷ key) h = absurd (subst T (sym h) tt)
short_parts (part ∷ parts) [] h = absurd (subst T (sym h) tt)
short_parts (part ∷ parts) (v ∷ key) h =
    let here = fits part.kind v && not (is_null v) in
    and_both (is_short v) _ (short_as_fits part.kind v (and_first (fits part.kind v) _ (and_first here _ h))) (short_parts parts key (and_second here _ h))

-- an identity of a hierarchy has a key of its table
pub identity_key : (root : Root) (id : Identity) → is_identity_of root id ≡ true → names_representable id ≡ true → is_key (kinds_of root) id.key ≡ true
identity_key root id h g =
    and_both (keys.is_key_of (kinds_of root) id.key) _ (is_whole root id h g) (short_parts root.key id.key (and_second _ (is_key_of root id.key) h))

kinds_joined : (kinds others : List Kind) (x y : List Value) → keys.is_key_of kinds x ≡ true → keys.is_key_of others y ≡ true → keys.is_key_of (kinds ++ others) (x ++ y) ≡ true
kinds_joined [] others [] y h g = g
kinds_joined [] others (v ∷ x) y h g = absurd (subst T (sym h) tt)
kinds_joined (kind ∷ kinds) others [] y h g = absurd (subst T (sym h) tt)
kinds_joined (kind ∷ kinds) others (v ∷ x) y h g =
    and_both (keys.is_part_of kind v) _ (and_first (keys.is_part_of kind v) _ h) (kinds_joined kinds others x y (and_second (keys.is_part_of kind v) _ h) g)

short_joined : (x y : List Value) → list_all is_short x ≡ true → list_all is_short y ≡ true → list_all is_short (x ++ y) ≡ true
short_joined [] y h g = g
short_joined (v ∷ x) y h g = and_both (is_short v) _ (and_first (is_short v) _ h) (short_joined x y (and_second (is_short v) _ h) g)

pub keys_joined : (kinds others : List Kind) (x y : List Value) → is_key kinds x ≡ true → is_key others y ≡ true → is_key (kinds ++ others) (x ++ y) ≡ true
keys_joined kinds others x y h g =
    and_both (keys.is_key_of (kinds ++ others) (x ++ y)) _
    (kinds_joined kinds others x y (and_first (keys.is_key_of kinds x) _ h) (and_first (keys.is_key_of others y) _ g))
    (short_joined x y (and_second (keys.is_key_of kinds x) _ h) (and_second (keys.is_key_of others y) _ g))

-- ---- the object's own id

module _ (m : PersistenceUnit) (clear : IsUnambiguous m) where
  pub id_named : (class : ℕ) → is_class m class ≡ true → (id : Identity) → is_identity_of (root_of m class) id ≡ true → names_representable id ≡ true → is_id_of (schema_of m) id ≡ true
  id_named class is id h g =
      let root = root_of m class in
      (λ i. is_key_by (table_of (schema_of m) (table_is root id h i)) id.key)
      ∙ ap (λ o. is_key_by o id.key) (root_table_found m clear.tables root (beginning m root.table root (clear.root class is)))
      ∙ identity_key root id h g

  -- ---- its pairs

  one_pair_named : (class : ℕ) → is_class m class ≡ true → (r : Relation) → Has (relations_of m class) r → (join : ℕ) → r.side ≡ Side.ManyToMany join
      → (owner target : Identity) → is_identity_of (root_of m class) owner ≡ true → names_representable owner ≡ true
      → is_identity_of (root_of m r.target) target ≡ true → names_representable target ≡ true → is_id_of (schema_of m) (pair_id join owner target) ≡ true
  one_pair_named class is r has join side owner target ho go ht gt =
      ap (λ o. is_key_by o (owner.key ++ target.key)) (join_table_found m clear class is r has join side)
      ∙ keys_joined (kinds_of (root_of m class)) (kinds_of (root_of m r.target)) owner.key target.key (identity_key (root_of m class) owner ho go) (identity_key (root_of m r.target) target ht gt)

  module _ (class : ℕ) (is : is_class m class ≡ true) (owner : Identity) (ho : is_identity_of (root_of m class) owner ≡ true) (go : names_representable owner ≡ true) where
    side_named : (r : Relation) → Has (relations_of m class) r → (ids : List Identity) → list_all (is_identity_of (root_of m r.target)) ids ≡ true → list_all names_representable ids ≡ true
        → (join : ℕ) → r.side ≡ Side.ManyToMany join → AreIds (schema_of m) (map (pair_id join owner) ids)
    side_named r has [] h g join side = tt
    side_named r has (t ∷ ids) h g join side = (
      one_pair_named class is r has join side owner t ho go (and_first (is_identity_of (root_of m r.target) t) _ h) (and_first (names_representable t) _ g),
      side_named r has ids (and_second (is_identity_of (root_of m r.target) t) _ h) (and_second (names_representable t) _ g) join side,
    )

    along_named : (relations : List Relation) (owned : List (List Identity)) → ((r : Relation) → Has relations r → Has (relations_of m class) r)
        → each_fits (owns_well m) relations owned ≡ true → list_all (list_all names_representable) owned ≡ true → AreIds (schema_of m) (pairs_along owner (zip relations owned))
    along_named [] owned within h g = tt
    along_named (r ∷ relations) [] within h g = tt
    along_named (r ∷ relations) (ids ∷ owned) within h g =
        let well = and_first (owns_well m r ids) _ h in
        let of_target = and_second (owns_as r.side ids) _ well in
        let real = and_first (list_all names_representable ids) _ g in
        let rest = along_named relations owned (λ s k. within s (inr k)) (and_second (owns_well m r ids) _ h) (and_second (list_all names_representable ids) _ g) in
        all_put (side_pairs owner r.side ids) (pairs_along owner (zip relations owned)) (by_side r.side (λ join e. side_named r (within r (inl refl)) ids of_target real join e)) rest
      where
        by_side : (side : Side) → ((join : ℕ) → side ≡ Side.ManyToMany join → AreIds (schema_of m) (map (pair_id join owner) ids)) → AreIds (schema_of m) (side_pairs owner side ids)
        by_side (Side.ManyToOne c) named = tt
        by_side (Side.OneToOne c) named = tt
        by_side (Side.OneToOneInverse o) named = tt
        by_side (Side.OneToMany o) named = tt
        by_side (Side.ManyToMany join) named = named join refl
        by_side (Side.ManyToManyInverse o) named = tt

        all_put : (xs ys : List Identity) → AreIds (schema_of m) xs → AreIds (schema_of m) ys → AreIds (schema_of m) (xs ++ ys)
        all_put [] ys p q = q
        all_put (x ∷ xs) ys p q = (p.0, all_put xs ys p.1 q)

-- ---- a storable object

pub object_named : (world : World) → IsUnambiguous world.model → (id : Identity) (x : Stored) → is_storable world id x ≡ true → is_id_of (schema_of world.model) id ≡ true
object_named world clear id x h = let s = storable world id x h in id_named world.model clear x.class s.class id s.of_root s.named

pub pairs_named : (world : World) → IsUnambiguous world.model → (id : Identity) (x : Stored) → is_storable world id x ≡ true → AreIds (schema_of world.model) (pair_ids world id x)
pairs_named world clear id x h =
    let s = storable world id x h in
    along_named world.model clear x.class s.class id s.of_root s.named (relations_of world.model x.class) x.owned (λ r k. k) s.owned s.real_owned

-- ---- next numbers

pub number_named : (m : PersistenceUnit) (table : ℕ) → is_i64 (pos table) ≡ true → is_id_of (schema_of m) (number_id table) ≡ true
number_named m table h = and_both (is_i64 (pos table) && true) _ (and_both (is_i64 (pos table)) _ h refl) refl

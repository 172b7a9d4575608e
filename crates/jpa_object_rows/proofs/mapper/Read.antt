-- The object that has a main row is what is guessed off it.
use Rattle.std.specs.Prelude.{◌≡◌, ◌||◌, ℕ, ℤ, Bool, true, false, ◌==◌, List, [], ◌∷◌, ◌++◌, map, Option, Some, None, unwrap_or}
use Rattle.std.proofs.Common.{refl, sym, ap, subst, ◌∙◌}
use Rattle.std.proofs.lemmas.Bool.{eq-eqb}
use Rattle.std.specs.List.{zip, list_all}
use Rattle.std.specs.Cmp.{tied_itself}
use Rattle.std.specs.Cmp.Lexicographic.{nat_list_cmp_total}
use Rattle.std.specs.Ordering.{is_eq}
use Rattle.jpa_value.specs.declared.value.Value.{Value}
use Rattle.jpa_value.specs.declared.value.Identity.{Identity}
use Rattle.jpa_value.specs.Value.{fits, is_null, is_representable}
use Rattle.jpa_model.specs.declared.unit.Attribute.{Attribute}
use Rattle.jpa_model.specs.declared.unit.PersistenceUnit.{PersistenceUnit}
use Rattle.jpa_model.specs.declared.unit.Relation.{Relation}
use Rattle.jpa_model.specs.declared.unit.Root.{Root}
use Rattle.jpa_model.specs.declared.unit.Side.{Side}
use Rattle.jpa_model.specs.declared.unit.VersionColumn.{VersionColumn}
use Rattle.jpa_model.specs.Chains.{attributes_of, relations_of, root_of, entity_at}
use Rattle.jpa_behaviour.specs.Behaviour.{World, IsRegular, is_convertible, is_short}
use Rattle.jpa_stored.specs.declared.objects.stored.Stored.{Stored}
use Rattle.jpa_stored.specs.objects.Sets.{each_fits, is_identity_of, is_at_most_one, is_empty, owns_as, owns_well, version_there}
use Rattle.jpa_rows.specs.declared.rows.row.Content.{Content}
use Rattle.jpa_rows.specs.rows.Cells.{passes, column_value, cell_value, is_given}
use Rattle.jpa_rows.specs.rows.Rows.{Row}
use Rattle.jpa_rows.proofs.laws.Facts.{and_first, and_second, and_both, true_false}
use Rattle.jpa_rows.proofs.laws.Slots.{Holds, all_first, all_rest}
use Rattle.jpa_rows.specs.rows.Tables.{classes}
use Rattle.jpa_object_rows.specs.meaning.Unambiguous.{IsUnambiguous, is_class}
use Rattle.jpa_object_rows.specs.meaning.View.{number_of, SideHas, PairsAre}
use Rattle.jpa_object_rows.proofs.meaning.Bytes.Classes.{find_missed, within_classes}
use Rattle.jpa_object_rows.proofs.meaning.Bytes.Keys.{table_is}
use Rattle.jpa_object_rows.proofs.meaning.Bytes.Reading.{storable}
use Rattle.jpa_object_rows.specs.meaning.Objects.{value_content, version_places, attribute_places, link_content, side_places, relation_places, places_of}
use Rattle.jpa_object_rows.specs.meaning.Sets.{content_at, identity_of}
use Rattle.jpa_object_rows.proofs.meaning.Named.{short_as_fits}
use Rattle.jpa_object_rows.proofs.meaning.Places.{places_hold}
use Rattle.jpa_object_rows.specs.mapper.Guess.{value_in, link_in, text_of, is_class_by, class_by, class_in, version_in, converted_back, attribute_in, side_in, links_in, guessed}
use Rattle.jpa_object_rows.specs.mapper.Mapped.{IsReadAs, no_pairs}

-- ---- values

content_back : (v : Value) → value_in (value_content v) ≡ v
content_back Value.Null = refl
content_back (Value.Int n) = refl
content_back (Value.Text bytes) = refl
content_back (Value.Bytes bytes) = refl

or_given : (b : Bool) → b || false ≡ true → b ≡ true
or_given true e = refl
or_given false e = e

module _ (world : World) (regular : IsRegular world) where
  given_back : (name : List ℕ) (v c : Value) → is_given c ≡ true → world.attribute name c ≡ Some v → converted_back world.attribute (Some name) c ≡ v
  given_back name v Value.Null g e = absurd (true_false (sym g))
  given_back name v (Value.Int n) g e = ap cell_value e
  given_back name v (Value.Text bytes) g e = ap cell_value e
  given_back name v (Value.Bytes bytes) g e = ap cell_value e

  -- a converter undoes itself where it answers
  answer_back : (name : List ℕ) (v : Value) (o : Option Value) → is_convertible v ≡ true → world.column name v ≡ o → is_given (cell_value o) ≡ true → converted_back world.attribute (Some name) (cell_value o) ≡ v
  answer_back name v None h e g = absurd (true_false (sym g))
  answer_back name v (Some c) h e g = given_back name v c g (((regular.inverse) name v c h ((regular.convertible).0 name v c e)).0 e)

  value_back : (converter : Option (List ℕ)) (v : Value) → is_given (column_value world converter v) || is_null v ≡ true → is_short v ≡ true → is_representable v ≡ true
      → converted_back world.attribute converter (column_value world converter v) ≡ v
  value_back None v h s r = refl
  value_back (Some name) Value.Null h s r = refl
  value_back (Some name) (Value.Int n) h s r = answer_back name (Value.Int n) (world.column name (Value.Int n)) r refl (or_given _ h)
  value_back (Some name) (Value.Text bytes) h s r = answer_back name (Value.Text bytes) (world.column name (Value.Text bytes)) (and_both (is_short (Value.Text bytes)) _ s r) refl (or_given _ h)
  value_back (Some name) (Value.Bytes bytes) h s r = answer_back name (Value.Bytes bytes) (world.column name (Value.Bytes bytes)) (and_both (is_short (Value.Bytes bytes)) _ s r) refl (or_given _ h)

  values_back : (row : Row) (attributes : List Attribute) (values : List Value) → each_fits (λ a v. fits a.kind v) attributes values ≡ true → list_all is_representable values ≡ true
      → list_all (λ p. passes world p.0 p.1) (zip attributes values) ≡ true → Holds (λ c. content_at c row) (attribute_places world (zip attributes values))
      → map (attribute_in world.attribute row) attributes ≡ values
  values_back row [] [] h r g holds = refl
  values_back row [] (v ∷ values) h r g holds = absurd (true_false (sym h))
  values_back row (a ∷ attributes) [] h r g holds = absurd (true_false (sym h))
  values_back row (a ∷ attributes) (v ∷ values) h r g holds =
      let this : attribute_in world.attribute row a ≡ v =
      ap (λ o. converted_back world.attribute a.converter (value_in o)) holds.0 ∙ ap (converted_back world.attribute a.converter) (content_back (column_value world a.converter v))
      ∙ value_back a.converter v (and_first (passes world a v) _ g) (short_as_fits a.kind v (and_first (fits a.kind v) _ h)) (and_first (is_representable v) _ r) in
      let others = values_back row attributes values (and_second (fits a.kind v) _ h) (and_second (is_representable v) _ r) (and_second (passes world a v) _ g) holds.1 in
      λ i. this i ∷ others i

-- ---- the version

version_back : (row : Row) (o : Option VersionColumn) (version : Option ℤ) → version_there o version ≡ true → Holds (λ c. content_at c row) (version_places o version) → version_in o row ≡ version
version_back row None None h holds = refl
version_back row None (Some n) h holds = absurd (true_false (sym h))
version_back row (Some c) None h holds = absurd (true_false (sym h))
version_back row (Some c) (Some n) h holds = ap (λ o. number_of (value_in o)) holds.0

-- ---- links

empty_is : (ids : List Identity) → is_empty ids ≡ true → [] ≡ ids
empty_is [] h = refl
empty_is (id ∷ ids) h = absurd (true_false (sym h))

link_back : (root : Root) (ids : List Identity) → is_at_most_one ids ≡ true → list_all (is_identity_of root) ids ≡ true → link_in root.table (link_content ids) ≡ ids
link_back root [] h g = refl
link_back root (id ∷ []) h g = let tables = sym (table_is root id (and_first (is_identity_of root id) _ g)) in λ i. identity_of (tables i) id.key ∷ []
link_back root (id ∷ other ∷ ids) h g = absurd (true_false (sym h))

side_back : (row : Row) (root : Root) (target : ℕ) (side : Side) (ids : List Identity) → owns_as side ids ≡ true → list_all (is_identity_of root) ids ≡ true
    → SideHas no_pairs target ids side → Holds (λ c. content_at c row) (side_places side ids) → side_in root.table row side ≡ ids
side_back row root target (Side.ManyToOne c) ids h g own holds = ap (link_in root.table) holds.0 ∙ link_back root ids h g
side_back row root target (Side.OneToOne c) ids h g own holds = ap (link_in root.table) holds.0 ∙ link_back root ids h g
side_back row root target (Side.OneToOneInverse o) ids h g own holds = empty_is ids h
side_back row root target (Side.OneToMany o) ids h g own holds = empty_is ids h
side_back row root target (Side.ManyToMany join) ids h g own holds = own
side_back row root target (Side.ManyToManyInverse o) ids h g own holds = empty_is ids h

owned_back : (m : PersistenceUnit) (row : Row) (relations : List Relation) (owned : List (List Identity)) → each_fits (owns_well m) relations owned ≡ true → PairsAre no_pairs (zip relations owned)
    → Holds (λ c. content_at c row) (relation_places (zip relations owned)) → map (links_in m row) relations ≡ owned
owned_back m row [] [] h own holds = refl
owned_back m row [] (ids ∷ owned) h own holds = absurd (true_false (sym h))
owned_back m row (r ∷ relations) [] h own holds = absurd (true_false (sym h))
owned_back m row (r ∷ relations) (ids ∷ owned) h own holds =
    let P = λ (place : ℕ × Option Content). content_at place.0 row ≡ place.1 in
    let well = and_first (owns_well m r ids) _ h in
    let this = side_back row (root_of m r.target) r.target r.side ids (and_first (owns_as r.side ids) _ well) (and_second (owns_as r.side ids) _ well) own.0
    (all_first P (side_places r.side ids) (relation_places (zip relations owned)) holds) in
    let others = owned_back m row relations owned (and_second (owns_well m r ids) _ h) own.1 (all_rest P (side_places r.side ids) (relation_places (zip relations owned)) holds) in
    λ i. this i ∷ others i

-- ---- the class

class_named : (m : PersistenceUnit) → IsUnambiguous m → (class : ℕ) → is_class m class ≡ true → class_by m (root_of m class).table (Some (entity_at m class).discriminator) ≡ Some class
class_named m clear class h = by_found (class_by m (root_of m class).table (Some (entity_at m class).discriminator)) refl
  where
    is_named : is_class_by m (root_of m class).table (entity_at m class).discriminator class ≡ true
    is_named = and_both ((root_of m class).table == (root_of m class).table) _ (eq-eqb _ _ refl) (ap is_eq (tied_itself nat_list_cmp_total (entity_at m class).discriminator))

    only : unwrap_or (class_by m (root_of m class).table (Some (entity_at m class).discriminator)) 0 ≡ class
    only = clear.discriminator class h

    by_found : (o : Option ℕ) → class_by m (root_of m class).table (Some (entity_at m class).discriminator) ≡ o → class_by m (root_of m class).table (Some (entity_at m class).discriminator) ≡ Some class
    by_found None e = absurd (true_false (sym is_named ∙ find_missed (is_class_by m (root_of m class).table (entity_at m class).discriminator) (classes m) class e (within_classes m class h)))
    by_found (Some k) e = e ∙ ap Some (ap (λ o. unwrap_or o 0) (sym e) ∙ only)

-- ---- the object

module _ (world : World) (clear : IsUnambiguous world.model) (id : Identity) (row : Row) (x : Stored) (read : IsReadAs world id row no_pairs x) where
  holds : Holds (λ column. content_at column row) (places_of world x)
  holds = subst (λ r. Holds (λ column. content_at column r) (places_of world x)) read.main (places_hold world clear id x read.storable)

  -- its class is the one that the row says
  pub class_read : class_in world.model id.table row ≡ Some x.class
  class_read =
      let m = world.model in
      let s = storable world id x read.storable in
      ap (λ o. class_by m id.table (text_of (value_in o))) holds.0 ∙ ap (λ table. class_by m table (Some (entity_at m x.class).discriminator)) (table_is (root_of m x.class) id s.of_root)
      ∙ class_named m clear x.class s.class

  -- and it is what is guessed
  pub guess_read : IsRegular world → guessed world row x.class ≡ x
  guess_read regular =
      let m = world.model in
      let s = storable world id x read.storable in
      let versions = version_places (root_of m x.class).version x.version in
      let attributes = attribute_places world (zip (attributes_of m x.class) x.values) in
      let relations = relation_places (zip (relations_of m x.class) x.owned) in
      let P = λ (place : ℕ × Option Content). content_at place.0 row ≡ place.1 in
      let front = all_first P (versions ++ attributes) relations holds.1 in
      let version = version_back row (root_of m x.class).version x.version s.version (all_first P versions attributes front) in
      let values = values_back world regular row (attributes_of m x.class) x.values s.values s.real_values s.passing (all_rest P versions attributes front) in
      let owned = owned_back m row (relations_of m x.class) x.owned s.owned read.pairs (all_rest P (versions ++ attributes) relations holds.1) in
      λ i. record { class = x.class; version = version i; values = values i; owned = owned i }

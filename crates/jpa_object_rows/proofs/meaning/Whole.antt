-- The rows of a storable object are rows of their tables: each column is known and may hold what it holds.
use Rattle.std.specs.Prelude.{◌≡◌, ℕ, ℤ, true, not, T, List, [], ◌∷◌, ◌++◌, map, Option, Some, None}
use Rattle.std.proofs.Common.{refl, sym, ap, subst, ◌∙◌, inl, inr}
use Rattle.std.specs.List.{zip, list_all, AllByRecursion}
use Rattle.std.specs.FinMap.{find, put, is_sorted, nat_cmp-IsAntisymmetric}
use Rattle.std.specs.Cmp.{nat_cmp_total}
use Rattle.std.specs.Ordering.{nat_cmp}
use Rattle.jpa_value.specs.declared.value.Value.{Value}
use Rattle.jpa_value.specs.declared.value.Kind.{Kind}
use Rattle.jpa_value.specs.declared.value.Identity.{Identity}
use Rattle.jpa_value.specs.Value.{fits, is_null, is_i64, is_representable}
use Rattle.jpa_model.specs.declared.unit.Attribute.{Attribute}
use Rattle.jpa_model.specs.declared.unit.Relation.{Relation}
use Rattle.jpa_model.specs.declared.unit.Side.{Side}
use Rattle.jpa_model.specs.declared.unit.VersionColumn.{VersionColumn}
use Rattle.jpa_model.specs.Chains.{attributes_of, relations_of, root_of, root_class, entity_at, column_of}
use Rattle.jpa_behaviour.specs.Behaviour.{World, IsRegular, is_short, is_convertible}
use Rattle.jpa_rows.specs.keys.Keys.{is_part_of}
use Rattle.jpa_stored.specs.declared.objects.stored.Stored.{Stored}
use Rattle.jpa_stored.specs.objects.Sets.{each_fits, owns_as, owns_well, is_identity_of}
use Rattle.jpa_rows.specs.declared.rows.row.Content.{Content}
use Rattle.jpa_rows.specs.declared.rows.schema.ColumnRule.{ColumnRule}
use Rattle.jpa_rows.specs.declared.rows.schema.Holds.{Holds}
use Rattle.jpa_rows.specs.declared.rows.schema.TableRule.{TableRule}
use Rattle.jpa_rows.specs.rows.Cells.{cell_value, column_value, is_given, names_representable, version_representable}
use Rattle.jpa_rows.specs.rows.Rows.{may_hold, rule_of, is_field_by, IsRowOf, table_of}
use Rattle.jpa_rows.specs.rows.Tables.{rule, kinds_of, version_rules, attribute_rule, link_rules, schema_of}
use Rattle.jpa_rows.specs.laws.Orders.{IsLinearOrder}
use Rattle.jpa_rows.specs.laws.Entries.{put_if}
use Rattle.jpa_rows.specs.laws.Slots.{filled}
use Rattle.jpa_rows.proofs.laws.Facts.{and_first, and_second, and_both, value_in, some_none}
use Rattle.jpa_rows.proofs.laws.Each.{Each, each_put}
use Rattle.jpa_rows.proofs.laws.Elements.{Has}
use Rattle.jpa_rows.proofs.laws.Maps.{found_put}
use Rattle.jpa_rows.proofs.laws.Slots.{filled_rises}
use Rattle.jpa_object_rows.specs.meaning.View.{is_storable}
use Rattle.jpa_object_rows.proofs.meaning.Bytes.Keys.{table_is}
use Rattle.jpa_object_rows.proofs.meaning.Bytes.Mapped.{IsMapped, lineage}
use Rattle.jpa_object_rows.proofs.meaning.Bytes.Reading.{Storable, storable}
use Rattle.jpa_object_rows.specs.meaning.Raw.{IsRowBy}
use Rattle.jpa_object_rows.specs.meaning.Objects.{value_content, link_content, Places, version_places, attribute_places, side_places, relation_places, discriminator_content, is_discriminator, places_of, field_of, row_of_places, main_row}
use Rattle.jpa_object_rows.proofs.meaning.Tables.{main_table, has_main_table, table_found}
use Rattle.jpa_object_rows.proofs.meaning.Columns.{rule_found, has_version, has_attribute, has_link}
use Rattle.jpa_object_rows.proofs.meaning.Named.{short_as_fits, identity_key}

-- ---- rows of places

pub column_order : IsLinearOrder nat_cmp
column_order = record { total = nat_cmp_total; exact = nat_cmp-IsAntisymmetric }

-- what stands in the place may stand there
abbrev Fits : TableRule → ℕ × Option Content → Type 0
Fits table place = (content : Content) → place.1 ≡ Some content → is_field_by content (rule_of table place.0) ≡ true

abbrev AllFit : TableRule → Places → Type 0
AllFit table = AllByRecursion (Fits table)

all_joined : (table : TableRule) (a b : Places) → AllFit table a → AllFit table b → AllFit table (a ++ b)
all_joined table [] b h g = g
all_joined table (place ∷ a) b h g = (h.0, all_joined table a b h.1 g)

one_put : (table : TableRule) (column : ℕ) (o : Option Content) (es : List (ℕ × Content)) → Fits table (column, o) → Each (λ c content. is_field_by content (rule_of table c) ≡ true) es
    → Each (λ c content. is_field_by content (rule_of table c) ≡ true) (put_if nat_cmp column o es)
one_put table column None es p h = h
one_put table column (Some content) es p h = each_put column_order (λ c content. is_field_by content (rule_of table c) ≡ true) column content es (p content refl) h

filled_fit : (table : TableRule) (places : Places) → AllFit table places → Each (λ c content. is_field_by content (rule_of table c) ≡ true) (filled nat_cmp places)
filled_fit table [] h = tt
filled_fit table (place ∷ places) h = one_put table place.0 place.1 (filled nat_cmp places) h.0 (filled_fit table places h.1)

fields_fit : (table : TableRule) (es : List (ℕ × Content)) → Each (λ c content. is_field_by content (rule_of table c) ≡ true) es
    → list_all (λ f. is_field_by f.content (rule_of table f.column)) (map field_of es) ≡ true
fields_fit table [] h = refl
fields_fit table (e ∷ es) h = and_both (is_field_by e.1 (rule_of table e.0)) _ h.0 (fields_fit table es h.1)

pub fields_placed : (es : List (ℕ × Content)) → map (λ f. (f.column, f.content)) (map field_of es) ≡ es
fields_placed [] = refl
fields_placed (e ∷ es) = ap (λ r. e ∷ r) (fields_placed es)

places_row : (table : TableRule) (places : Places) → AllFit table places → IsRowOf table (row_of_places places)
places_row table places h = record {
  rising = subst (λ es. T (is_sorted nat_cmp es)) (sym (fields_placed (filled nat_cmp places))) (filled_rises column_order places);
  each = fields_fit table (filled nat_cmp places) (filled_fit table places h);
}

-- ---- what columns may hold

-- what stands for a value is the value, which is not null
given_content : (v : Value) (content : Content) → value_content v ≡ Some content → (Content.Value v ≡ content) × (is_given v ≡ true)
given_content Value.Null content e = absurd (some_none content (sym e))
given_content (Value.Int n) content e = (value_in _ content e, refl)
given_content (Value.Text bytes) content e = (value_in _ content e, refl)
given_content (Value.Bytes bytes) content e = (value_in _ content e, refl)

part_fits : (kind : Kind) (v : Value) → fits kind v ≡ true → is_given v ≡ true → is_representable v ≡ true → is_part_of kind v ≡ true
part_fits kind Value.Null h g r = absurd (subst T (sym g) tt)
part_fits Kind.Int (Value.Int n) h g r = r
part_fits Kind.Text (Value.Int n) h g r = absurd (subst T (sym h) tt)
part_fits Kind.Bytes (Value.Int n) h g r = absurd (subst T (sym h) tt)
part_fits Kind.Int (Value.Text bytes) h g r = absurd (subst T (sym h) tt)
part_fits Kind.Text (Value.Text bytes) h g r = r
part_fits Kind.Bytes (Value.Text bytes) h g r = absurd (subst T (sym h) tt)
part_fits Kind.Int (Value.Bytes bytes) h g r = absurd (subst T (sym h) tt)
part_fits Kind.Text (Value.Bytes bytes) h g r = absurd (subst T (sym h) tt)
part_fits Kind.Bytes (Value.Bytes bytes) h g r = r

plain_held : (kind : Kind) (v : Value) (content : Content) → fits kind v ≡ true → is_representable v ≡ true → value_content v ≡ Some content → may_hold (Holds.Kind kind) content ≡ true
plain_held kind v content h r e =
    let given = given_content v content e in
    subst (λ c. may_hold (Holds.Kind kind) c ≡ true) given.0 (and_both (is_part_of kind v) _ (part_fits kind v h given.1 r) (short_as_fits kind v h))

any_held : (c : Value) (content : Content) → is_convertible c ≡ true → value_content c ≡ Some content → may_hold Holds.Any content ≡ true
any_held c content h e =
    let given = given_content c content e in
    let rest = and_second (not (is_null c)) _ h in
    subst (λ d. may_hold Holds.Any d ≡ true) given.0 (and_both (is_given c) _ given.1 (and_both (is_representable c) _ (and_second (is_short c) _ rest) (and_first (is_short c) _ rest)))

converted_held : (o : Option Value) (content : Content) → ((c : Value) → o ≡ Some c → is_convertible c ≡ true) → value_content (cell_value o) ≡ Some content → may_hold Holds.Any content ≡ true
converted_held None content h e = absurd (some_none content (sym e))
converted_held (Some c) content h e = any_held c content (h c refl) e

attribute_held : (world : World) → IsRegular world → (a : Attribute) (o : Option (List ℕ)) (v : Value) (content : Content) → fits a.kind v ≡ true → is_representable v ≡ true
    → value_content (column_value world o v) ≡ Some content → may_hold (attribute_rule (record a { converter = o })).holds content ≡ true
attribute_held world regular a None v content h r e = plain_held a.kind v content h r e
attribute_held world regular a (Some name) Value.Null content h r e = absurd (some_none content (sym e))
attribute_held world regular a (Some name) (Value.Int n) content h r e = converted_held (world.column name (Value.Int n)) content (λ c k. (regular.convertible).0 name (Value.Int n) c k) e
attribute_held world regular a (Some name) (Value.Text bytes) content h r e = converted_held (world.column name (Value.Text bytes)) content (λ c k. (regular.convertible).0 name (Value.Text bytes) c k) e
attribute_held world regular a (Some name) (Value.Bytes bytes) content h r e = converted_held (world.column name (Value.Bytes bytes)) content (λ c k. (regular.convertible).0 name (Value.Bytes bytes) c k) e

-- ---- the main row

-- a table in which these columns are found
abbrev Finds : TableRule → List ColumnRule → Type 0
Finds table rules = (u : ColumnRule) → Has rules u → rule_of table u.column ≡ Some u

held_by : (table : TableRule) (u : ColumnRule) → rule_of table u.column ≡ Some u → (content : Content) → may_hold u.holds content ≡ true → is_field_by content (rule_of table u.column) ≡ true
held_by table u found content h = ap (is_field_by content) found ∙ h

module _ (world : World) (table : TableRule) where
  version_fits : (o : Option VersionColumn) (version : Option ℤ) → Finds table (version_rules o) → version_representable version ≡ true → AllFit table (version_places o version)
  version_fits None version finds h = tt
  version_fits (Some c) None finds h = (λ content e. absurd (some_none content (sym e)), tt)
  version_fits (Some c) (Some n) finds h = (
    λ content e. held_by table (rule c.column (Holds.Kind Kind.Int)) (finds (rule c.column (Holds.Kind Kind.Int)) (inl refl)) content
        (subst (λ d. may_hold (Holds.Kind Kind.Int) d ≡ true) (value_in _ content e) (and_both (is_i64 n) _ h refl)),
    tt,
  )

  attributes_fit : IsRegular world → (attributes : List Attribute) (values : List Value) → ((a : Attribute) → Has attributes a → rule_of table a.column ≡ Some (attribute_rule a))
      → each_fits (λ a v. fits a.kind v) attributes values ≡ true → list_all is_representable values ≡ true → AllFit table (attribute_places world (zip attributes values))
  attributes_fit regular [] values finds h r = tt
  attributes_fit regular (a ∷ attributes) [] finds h r = tt
  attributes_fit regular (a ∷ attributes) (v ∷ values) finds h r = (
    λ content e. held_by table (attribute_rule a) (finds a (inl refl)) content (attribute_held world regular a a.converter v content (and_first (fits a.kind v) _ h) (and_first (is_representable v) _ r) e),
    attributes_fit regular attributes values (λ b k. finds b (inr k)) (and_second (fits a.kind v) _ h) (and_second (is_representable v) _ r),
  )

  link_fits : (target column : ℕ) → rule_of table column ≡ Some (rule column (Holds.Reference (kinds_of (root_of world.model target)))) → (ids : List Identity)
      → list_all (is_identity_of (root_of world.model target)) ids ≡ true → list_all names_representable ids ≡ true → Fits table (column, link_content ids)
  link_fits target column found [] h g content e = absurd (some_none content (sym e))
  link_fits target column found (id ∷ ids) h g content e =
      let root = root_of world.model target in
      let holds = Holds.Reference (kinds_of root) in
      held_by table (rule column holds) found content
      (subst (λ d. may_hold holds d ≡ true) (value_in _ content e) (identity_key root id (and_first (is_identity_of root id) _ h) (and_first (names_representable id) _ g)))

  side_fits : (target : ℕ) (side : Side) → Finds table (link_rules world.model target (column_of side)) → (ids : List Identity)
      → list_all (is_identity_of (root_of world.model target)) ids ≡ true → list_all names_representable ids ≡ true → AllFit table (side_places side ids)
  side_fits target (Side.ManyToOne c) finds ids h g = (link_fits target c.column (finds (rule c.column (Holds.Reference (kinds_of (root_of world.model target)))) (inl refl)) ids h g, tt)
  side_fits target (Side.OneToOne c) finds ids h g = (link_fits target c.column (finds (rule c.column (Holds.Reference (kinds_of (root_of world.model target)))) (inl refl)) ids h g, tt)
  side_fits target (Side.OneToOneInverse o) finds ids h g = tt
  side_fits target (Side.OneToMany o) finds ids h g = tt
  side_fits target (Side.ManyToMany join) finds ids h g = tt
  side_fits target (Side.ManyToManyInverse o) finds ids h g = tt

  relations_fit : (relations : List Relation) (owned : List (List Identity)) → ((r : Relation) → Has relations r → Finds table (link_rules world.model r.target (column_of r.side)))
      → each_fits (owns_well world.model) relations owned ≡ true → list_all (list_all names_representable) owned ≡ true → AllFit table (relation_places (zip relations owned))
  relations_fit [] owned finds h g = tt
  relations_fit (r ∷ relations) [] finds h g = tt
  relations_fit (r ∷ relations) (ids ∷ owned) finds h g =
      all_joined table (side_places r.side ids) (relation_places (zip relations owned))
      (side_fits r.target r.side (finds r (inl refl)) ids (and_second (owns_as r.side ids) _ (and_first (owns_well world.model r ids) _ h)) (and_first (list_all names_representable ids) _ g))
      (relations_fit relations owned (λ s k. finds s (inr k)) (and_second (owns_well world.model r ids) _ h) (and_second (list_all names_representable ids) _ g))

module _ (world : World) (mapped : IsMapped world.model) (regular : IsRegular world) (id : Identity) (x : Stored) (storable_x : is_storable world id x ≡ true)
    (named : is_discriminator (entity_at world.model x.class) ≡ true) where
  own : Storable world id x
  own = storable world id x storable_x

  abbrev table : TableRule
  table = main_table world.model (root_class world.model x.class) (root_of world.model x.class)

  pub main_row_whole : IsRowOf table (main_row world x)
  main_row_whole =
      let m = world.model in
      let found = rule_found m mapped x.class own.class in
      let versions = version_places (root_of m x.class).version x.version in
      let attributes = attribute_places world (zip (attributes_of m x.class) x.values) in
      let relations = relation_places (zip (relations_of m x.class) x.owned) in
      places_row table (places_of world x) (
        λ content e. held_by table (rule 0 (Holds.Kind Kind.Text)) refl content (subst (λ d. may_hold (Holds.Kind Kind.Text) d ≡ true) (value_in _ content e) named),
        all_joined table (versions ++ attributes) relations
            (all_joined table versions attributes
            (version_fits world table (root_of m x.class).version x.version (λ u k. found u (has_version m mapped x.class own.class u k)) own.real_version)
            (attributes_fit world table regular (attributes_of m x.class) x.values (λ a k. found (attribute_rule a) (has_attribute m mapped x.class own.class a k)) own.values own.real_values))
            (relations_fit world table (relations_of m x.class) x.owned (λ r k u l. found u (has_link m mapped x.class own.class r k u l)) own.owned own.real_owned),
      )

  -- and that is its table
  pub main_table_found : table_of (schema_of world.model) id.table ≡ Some table
  main_table_found =
      let m = world.model in
      let l = lineage m mapped x.class own.class in
      ap (table_of (schema_of m)) (table_is (root_of m x.class) id own.of_root)
      ∙ table_found m mapped.tables table (has_main_table m (root_class m x.class) l.root_within (root_of m x.class) l.origin)

  pub main_row_in : IsRowBy (table_of (schema_of world.model) id.table) (main_row world x)
  main_row_in = subst (λ o. IsRowBy o (main_row world x)) (sym main_table_found) main_row_whole

put_not_empty : (column : ℕ) (content : Content) (es : List (ℕ × Content)) → map field_of (put nat_cmp column content es) ≡ [] → ⊥
put_not_empty column content es e =
    some_none content (sym (found_put column_order column content es) ∙ ap (find nat_cmp column) (sym (fields_placed (put nat_cmp column content es)) ∙ ap (map (λ f. (f.column, f.content))) e))

-- a main row has a column, that of the discriminator
pub main_row_filled : (world : World) (x : Stored) → main_row world x ≡ [] → ⊥
main_row_filled world x e =
    let m = world.model in
    put_not_empty 0 (discriminator_content (entity_at m x.class))
    (filled nat_cmp (version_places (root_of m x.class).version x.version ++ attribute_places world (zip (attributes_of m x.class) x.values) ++ relation_places (zip (relations_of m x.class) x.owned))) e

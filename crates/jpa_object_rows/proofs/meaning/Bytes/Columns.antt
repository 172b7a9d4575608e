-- The columns of an object's row are those of its class, so they are apart.
use Rattle.std.specs.Prelude.{◌≡◌, ℕ, ℤ, pos, true, ◌==◌, ◌&&◌, ◌||◌, not, List, [], ◌∷◌, ◌++◌, map, Option, Some, None, T}
use Rattle.std.proofs.Common.{refl, sym, ap, subst, ◌∙◌, arith}
use Rattle.std.proofs.lemmas.List.{map-append}
use Rattle.std.proofs.lemmas.Bool.Decides.{nat_tests}
use Rattle.std.specs.List.{flat_map, zip, list_any}
use Rattle.std.specs.Ordering.{int_cmp, eq_by_cmp}
use Rattle.jpa_value.specs.declared.value.Value.{Value}
use Rattle.jpa_value.specs.declared.value.Identity.{Identity}
use Rattle.jpa_value.specs.Value.{fits}
use Rattle.jpa_model.specs.declared.unit.Attribute.{Attribute}
use Rattle.jpa_model.specs.declared.unit.Relation.{Relation}
use Rattle.jpa_model.specs.declared.unit.Side.{Side}
use Rattle.jpa_model.specs.declared.unit.VersionColumn.{VersionColumn}
use Rattle.jpa_model.specs.declared.unit.PersistenceUnit.{PersistenceUnit}
use Rattle.jpa_model.specs.Chains.{attributes_of, relations_of, root_of, column_of}
use Rattle.jpa_behaviour.specs.Behaviour.{World}
use Rattle.jpa_stored.specs.declared.objects.stored.Stored.{Stored}
use Rattle.jpa_stored.specs.objects.Sets.{each_fits, owns_well}
use Rattle.jpa_rows.specs.laws.Slots.{are_apart, lacks}
use Rattle.jpa_rows.proofs.laws.Facts.{and_second}
use Rattle.jpa_object_rows.specs.meaning.Written.{version_slots, attribute_slots, side_slots, relation_slots, slots_of}
use Rattle.jpa_object_rows.specs.meaning.Unambiguous.{are_distinct_numbers, version_columns, link_columns, columns_along}

-- ---- apart are those whose numbers are distinct

pub same_column : (a b : ℕ) → eq_by_cmp int_cmp (pos a) (pos b) ≡ (a == b)
same_column a b = grind (arith, nat_tests)

any_column : {X : Type 0} (n : ℕ) (slots : List (ℤ × X)) (ns : List ℕ) → map (λ slot. slot.0) slots ≡ map pos ns → list_any (λ slot. eq_by_cmp int_cmp (pos n) slot.0) slots ≡ list_any (λ m. n == m) ns
any_column n [] [] e = refl
any_column n [] (m ∷ ns) e = cc
any_column n (slot ∷ slots) [] e = cc
any_column n (slot ∷ slots) (m ∷ ns) e =
    let here : slot.0 ≡ pos m = cc in
    let rest : map (λ slot. slot.0) slots ≡ map pos ns = cc in
    (λ i. eq_by_cmp int_cmp (pos n) (here i) || any_column n slots ns rest i) ∙ ap (λ b. b || list_any (λ m. n == m) ns) (same_column n m)

pub apart_as_distinct : {X : Type 0} (slots : List (ℤ × X)) (ns : List ℕ) → map (λ slot. slot.0) slots ≡ map pos ns → are_apart int_cmp slots ≡ are_distinct_numbers ns
apart_as_distinct [] [] e = refl
apart_as_distinct [] (m ∷ ns) e = cc
apart_as_distinct (slot ∷ slots) [] e = cc
apart_as_distinct (slot ∷ slots) (n ∷ ns) e =
    let here : slot.0 ≡ pos n = cc in
    let rest : map (λ slot. slot.0) slots ≡ map pos ns = cc in
    (λ i. lacks int_cmp (here i) slots && are_apart int_cmp slots) ∙ (λ i. not (any_column n slots ns rest i) && apart_as_distinct slots ns rest i)

-- ---- the columns of an object's row

version_numbers : (o : Option VersionColumn) (version : Option ℤ) → map (λ slot. slot.0) (version_slots o version) ≡ map pos (version_columns o)
version_numbers None version = refl
version_numbers (Some c) version = refl

attribute_numbers : (world : World) (attributes : List Attribute) (values : List Value) → each_fits (λ a v. fits a.kind v) attributes values ≡ true
    → map (λ slot. slot.0) (attribute_slots world (zip attributes values)) ≡ map pos (map (λ a. a.column) attributes)
attribute_numbers world [] [] h = refl
attribute_numbers world [] (v ∷ values) h = absurd (subst T (sym h) tt)
attribute_numbers world (a ∷ attributes) [] h = absurd (subst T (sym h) tt)
attribute_numbers world (a ∷ attributes) (v ∷ values) h = ap (λ r. pos a.column ∷ r) (attribute_numbers world attributes values (and_second (fits a.kind v) _ h))

side_numbers : (side : Side) (ids : List Identity) → map (λ slot. slot.0) (side_slots side ids) ≡ map pos (link_columns (column_of side))
side_numbers (Side.ManyToOne c) ids = refl
side_numbers (Side.OneToOne c) ids = refl
side_numbers (Side.OneToOneInverse o) ids = refl
side_numbers (Side.OneToMany o) ids = refl
side_numbers (Side.ManyToMany join) ids = refl
side_numbers (Side.ManyToManyInverse o) ids = refl

link_numbers : (m : PersistenceUnit) (relations : List Relation) (owned : List (List Identity)) → each_fits (owns_well m) relations owned ≡ true
    → map (λ slot. slot.0) (relation_slots (zip relations owned)) ≡ map pos (flat_map (λ r. link_columns (column_of r.side)) relations)
link_numbers m [] [] h = refl
link_numbers m [] (ids ∷ owned) h = absurd (subst T (sym h) tt)
link_numbers m (r ∷ relations) [] h = absurd (subst T (sym h) tt)
link_numbers m (r ∷ relations) (ids ∷ owned) h =
    map-append (λ slot. slot.0) (side_slots r.side ids) (relation_slots (zip relations owned))
    ∙ (λ i. side_numbers r.side ids i ++ link_numbers m relations owned (and_second (owns_well m r ids) _ h) i)
    ∙ sym (map-append pos (link_columns (column_of r.side)) (flat_map (λ r. link_columns (column_of r.side)) relations))

pub slot_numbers : (world : World) (x : Stored) → each_fits (λ a v. fits a.kind v) (attributes_of world.model x.class) x.values ≡ true
    → each_fits (owns_well world.model) (relations_of world.model x.class) x.owned ≡ true → map (λ slot. slot.0) (slots_of world x) ≡ map pos (columns_along world.model x.class)
slot_numbers world x h g =
    let m = world.model in
    let a = version_slots (root_of m x.class).version x.version in
    let b = attribute_slots world (zip (attributes_of m x.class) x.values) in
    let c = relation_slots (zip (relations_of m x.class) x.owned) in
    let an = version_columns (root_of m x.class).version in
    let bn = map (λ (a : Attribute). a.column) (attributes_of m x.class) in
    let cn = flat_map (λ (r : Relation). link_columns (column_of r.side)) (relations_of m x.class) in
    ap (λ r. pos 0 ∷ r)
    (map-append (λ slot. slot.0) (a ++ b) c ∙ ap (λ r. r ++ map (λ slot. slot.0) c) (map-append (λ slot. slot.0) a b)
    ∙ (λ i. (version_numbers (root_of m x.class).version x.version i ++ attribute_numbers world (attributes_of m x.class) x.values h i) ++ link_numbers m (relations_of m x.class) x.owned g i)
    ∙ ap (λ r. r ++ map pos cn) (sym (map-append pos an bn)) ∙ sym (map-append pos (an ++ bn) cn))

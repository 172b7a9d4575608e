-- Numbers of a description that are distinct and from 1 to 1,000,000 are so as numbers of the unit.
use Rattle.std.specs.Prelude.{◌≡◌, ℕ, ℤ, pos, negsuc, unsigned_abs, int_le, true, ◌==◌, ◌||◌, not, List, [], ◌∷◌, ◌++◌, map, Option, Some, None, option_map}
use Rattle.std.proofs.Common.{refl, sym, ap, ◌∙◌, arith}
use Rattle.std.proofs.lemmas.Bool.Decides.{nat_tests}
use Rattle.std.proofs.lemmas.List.{map-append}
use Rattle.std.specs.List.{flat_map, list_any, list_all}
use Rattle.std.specs.Ordering.{int_eq}
use Rattle.jpa_value.specs.Value.{is_i64}
use Rattle.jpa_model.specs.declared.draft.Draft.{Draft}
use Rattle.jpa_model.specs.declared.draft.DraftAttribute.{DraftAttribute}
use Rattle.jpa_model.specs.declared.draft.DraftEntity.{DraftEntity}
use Rattle.jpa_model.specs.declared.draft.DraftOrigin.{DraftOrigin}
use Rattle.jpa_model.specs.declared.draft.DraftRelation.{DraftRelation}
use Rattle.jpa_model.specs.declared.draft.DraftSide.{DraftSide}
use Rattle.jpa_model.specs.declared.draft.DraftVersion.{DraftVersion}
use Rattle.jpa_model.specs.declared.draft.RelationKind.{RelationKind}
use Rattle.jpa_model.specs.declared.unit.Relation.{Relation}
use Rattle.jpa_model.specs.Chains.{column_of}
use Rattle.jpa_model.specs.Drafted as drafted
use Rattle.jpa_model.specs.WellFormed as well_formed
use Rattle.jpa_model.specs.Described.{origin_of, attribute_of, relation_of, side_of, entity_of, version_of}
use Rattle.jpa_rows.specs.rows.Cells.{root_tables, join_tables}
use Rattle.jpa_rows.proofs.laws.Facts.{and_first, and_second, and_both, true_false}
use Rattle.jpa_rows.proofs.laws.Elements.{Has, from_map}
use Rattle.jpa_rows.proofs.laws.Lists.{each_passes, flat_map_same, flat_map-map, map-flat_map}
use Rattle.jpa_object_rows.specs.meaning.Unambiguous.{are_distinct_numbers, version_columns, link_columns}
use Rattle.jpa_object_rows.proofs.meaning.Bytes.Columns.{same_column}
use Rattle.jpa_object_rows.proofs.meaning.Bytes.Tables.{own_tables}
use Rattle.jpa_object_rows.proofs.meaning.Bytes.Mapped.{own_version, own_columns}

-- ---- numbers

positive : (n : ℤ) → well_formed.is_number n ≡ true → pos (unsigned_abs n) ≡ n
positive (pos k) h = refl
positive (negsuc k) h = absurd (true_false (sym h))

not_zero : (n : ℤ) → well_formed.is_number n ≡ true → unsigned_abs n ≡ 0 → ⊥
not_zero (pos k) h e = absurd (true_false (sym (ap (λ j. well_formed.is_number (pos j)) (sym e) ∙ h)))
not_zero (negsuc k) h e = absurd (true_false (sym h))

is_small : (n : ℤ) → well_formed.is_number n ≡ true → is_i64 (pos (unsigned_abs n)) ≡ true
is_small (pos k) h = below_million k (and_second (int_le (pos 1) (pos k)) _ h)
  where
    below_million : (k : ℕ) → int_le (pos k) (pos 1000000) ≡ true → is_i64 (pos k) ≡ true
    below_million k h = grind (arith, nat_tests)
is_small (negsuc k) h = absurd (true_false (sym h))

pub is_revision : (n : ℤ) → (int_eq n (pos 1) || int_eq n (pos 2)) ≡ true → (unsigned_abs n == 1 || unsigned_abs n == 2) ≡ true
is_revision (pos k) h = (λ i. sym (same_column k 1) i || sym (same_column k 2) i) ∙ h
is_revision (negsuc k) h = absurd (true_false (sym h))

-- ---- lists of them

same_any : (n : ℤ) (ns : List ℤ) → well_formed.is_number n ≡ true → list_all well_formed.is_number ns ≡ true → list_any (int_eq n) ns ≡ list_any (λ b. unsigned_abs n == b) (map unsigned_abs ns)
same_any n [] h g = refl
same_any n (m ∷ ns) h g =
    let here : int_eq n m ≡ (unsigned_abs n == unsigned_abs m) =
    (λ i. int_eq (sym (positive n h) i) (sym (positive m (and_first (well_formed.is_number m) _ g)) i)) ∙ same_column (unsigned_abs n) (unsigned_abs m) in
    let others = same_any n ns h (and_second (well_formed.is_number m) _ g) in
    λ i. here i || others i

pub distinct_numbers : (ns : List ℤ) → well_formed.are_numbers ns ≡ true → are_distinct_numbers (map unsigned_abs ns) ≡ true
distinct_numbers ns h = go ns (and_first (list_all well_formed.is_number ns) _ h) (and_second (list_all well_formed.is_number ns) _ h)
  where
    go : (ns : List ℤ) → list_all well_formed.is_number ns ≡ true → well_formed.are_distinct_numbers ns ≡ true → are_distinct_numbers (map unsigned_abs ns) ≡ true
    go [] h g = refl
    go (n ∷ ns) h g =
        let real = and_second (well_formed.is_number n) _ h in
        let apart = not (list_any (int_eq n) ns) in
        and_both (not (list_any (λ b. unsigned_abs n == b) (map unsigned_abs ns))) _
        (ap not (sym (same_any n ns (and_first (well_formed.is_number n) _ h) real)) ∙ and_first apart _ g) (go ns real (and_second apart _ g))

pub none_zero : (ns : List ℤ) → list_all well_formed.is_number ns ≡ true → Has (map unsigned_abs ns) 0 → ⊥
none_zero ns h k = let r = from_map unsigned_abs ns 0 k in not_zero r.0 (each_passes well_formed.is_number ns h r.0 r.1) r.2

pub all_small : (ns : List ℤ) → list_all well_formed.is_number ns ≡ true → (n : ℕ) → Has (map unsigned_abs ns) n → is_i64 (pos n) ≡ true
all_small ns h n k = let r = from_map unsigned_abs ns n k in ap (λ j. is_i64 (pos j)) (sym r.2) ∙ is_small r.0 (each_passes well_formed.is_number ns h r.0 r.1)

-- ---- what an entity declares

side_column : (d : Draft) (kind : RelationKind) (target : Option ℕ) (side : DraftSide) → link_columns (column_of (side_of d kind target side)) ≡ map unsigned_abs (drafted.side_columns side)
side_column d RelationKind.OneToOne target (DraftSide.Column c) = refl
side_column d RelationKind.ManyToOne target (DraftSide.Column c) = refl
side_column d RelationKind.OneToMany target (DraftSide.Column c) = refl
side_column d RelationKind.ManyToMany target (DraftSide.Column c) = refl
side_column d kind target (DraftSide.JoinTable table) = refl
side_column d RelationKind.OneToOne target (DraftSide.MappedBy name) = refl
side_column d RelationKind.ManyToOne target (DraftSide.MappedBy name) = refl
side_column d RelationKind.OneToMany target (DraftSide.MappedBy name) = refl
side_column d RelationKind.ManyToMany target (DraftSide.MappedBy name) = refl

side_table : (d : Draft) (kind : RelationKind) (target : Option ℕ) (side : DraftSide) → join_tables (side_of d kind target side) ≡ map unsigned_abs (drafted.join_tables side)
side_table d RelationKind.OneToOne target (DraftSide.Column c) = refl
side_table d RelationKind.ManyToOne target (DraftSide.Column c) = refl
side_table d RelationKind.OneToMany target (DraftSide.Column c) = refl
side_table d RelationKind.ManyToMany target (DraftSide.Column c) = refl
side_table d kind target (DraftSide.JoinTable table) = refl
side_table d RelationKind.OneToOne target (DraftSide.MappedBy name) = refl
side_table d RelationKind.ManyToOne target (DraftSide.MappedBy name) = refl
side_table d RelationKind.OneToMany target (DraftSide.MappedBy name) = refl
side_table d RelationKind.ManyToMany target (DraftSide.MappedBy name) = refl

version_numbers : (o : Option DraftVersion) → version_columns (option_map version_of o) ≡ map unsigned_abs (drafted.listed (λ v. v.column) o)
version_numbers None = refl
version_numbers (Some v) = refl

origin_columns : (d : Draft) (o : DraftOrigin) → own_version (origin_of d o) ≡ map unsigned_abs (drafted.version_columns o)
origin_columns d (DraftOrigin.Root r) = version_numbers r.version
origin_columns d (DraftOrigin.Extends name) = refl

origin_tables : (d : Draft) (o : DraftOrigin) → root_tables (origin_of d o) ≡ map unsigned_abs (drafted.root_tables o)
origin_tables d (DraftOrigin.Root r) = refl
origin_tables d (DraftOrigin.Extends name) = refl

attribute_columns : (attributes : List DraftAttribute) → map (λ a. a.column) (map attribute_of attributes) ≡ map unsigned_abs (map (λ a. a.column) attributes)
attribute_columns [] = refl
attribute_columns (a ∷ attributes) = ap (λ r. unsigned_abs a.column ∷ r) (attribute_columns attributes)

pub columns_described : (d : Draft) (e : DraftEntity) → own_columns (entity_of d e) ≡ map unsigned_abs (drafted.columns e)
columns_described d e =
    let v = drafted.version_columns e.origin in
    let a = map (λ (a : DraftAttribute). a.column) e.attributes in
    let l = flat_map (λ (r : DraftRelation). drafted.side_columns r.side) e.relations in
    let links : flat_map (λ (r : Relation). link_columns (column_of r.side)) (map (relation_of d) e.relations) ≡ map unsigned_abs l =
    flat_map-map (λ (r : Relation). link_columns (column_of r.side)) (relation_of d) e.relations
    ∙ flat_map_same (λ r. link_columns (column_of (relation_of d r).side)) (λ (r : DraftRelation). map unsigned_abs (drafted.side_columns r.side)) e.relations (λ r k. side_column d r.kind (drafted.place_of d r.target) r.side)
    ∙ sym (map-flat_map unsigned_abs (λ (r : DraftRelation). drafted.side_columns r.side) e.relations) in
    (λ i. origin_columns d e.origin i ++ attribute_columns e.attributes i ++ links i)
    ∙ ap (λ r. r ++ map unsigned_abs l) (sym (map-append unsigned_abs v a)) ∙ sym (map-append unsigned_abs (v ++ a) l)

pub tables_described : (d : Draft) (e : DraftEntity) → own_tables (entity_of d e) ≡ map unsigned_abs (drafted.tables e)
tables_described d e =
    let joins : flat_map (λ (r : Relation). join_tables r.side) (map (relation_of d) e.relations) ≡ map unsigned_abs (flat_map (λ (r : DraftRelation). drafted.join_tables r.side) e.relations) =
    flat_map-map (λ (r : Relation). join_tables r.side) (relation_of d) e.relations
    ∙ flat_map_same (λ r. join_tables (relation_of d r).side) (λ (r : DraftRelation). map unsigned_abs (drafted.join_tables r.side)) e.relations (λ r k. side_table d r.kind (drafted.place_of d r.target) r.side)
    ∙ sym (map-flat_map unsigned_abs (λ (r : DraftRelation). drafted.join_tables r.side) e.relations) in
    (λ i. origin_tables d e.origin i ++ joins i) ∙ sym (map-append unsigned_abs (drafted.root_tables e.origin) (flat_map (λ r. drafted.join_tables r.side) e.relations))

pub all_tables_described : (d : Draft) (es : List DraftEntity) → flat_map own_tables (map (entity_of d) es) ≡ map unsigned_abs (flat_map drafted.tables es)
all_tables_described d es =
    flat_map-map own_tables (entity_of d) es ∙ flat_map_same (λ e. own_tables (entity_of d e)) (λ e. map unsigned_abs (drafted.tables e)) es (λ e k. tables_described d e) ∙ sym (map-flat_map unsigned_abs drafted.tables es)

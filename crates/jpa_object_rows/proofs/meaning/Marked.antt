-- The row of the revision stands in the rows of every set with every next numbers.
use Rattle.std.specs.Prelude.{◌≡◌, ℕ, true, false, cond, ◌==◌, is_some, not, List, [], ◌∷◌, None}
use Rattle.std.proofs.Common.{refl, sym, ap, subst, ◌∙◌, inl}
use Rattle.std.specs.List.{flat_map}
use Rattle.std.specs.FinMap.{find}
use Rattle.jpa_value.specs.declared.value.Identity.{Identity}
use Rattle.jpa_value.specs.Value.{identity_cmp}
use Rattle.jpa_model.specs.declared.unit.PersistenceUnit.{PersistenceUnit}
use Rattle.jpa_model.specs.declared.unit.Relation.{Relation}
use Rattle.jpa_model.specs.Chains.{root_of, relations_of, or_else}
use Rattle.jpa_behaviour.specs.Behaviour.{World}
use Rattle.jpa_stored.specs.declared.objects.stored.Stored.{Stored}
use Rattle.jpa_stored.specs.objects.Sets.{StoredSet}
use Rattle.jpa_rows.specs.rows.Cells.{join_tables}
use Rattle.jpa_rows.specs.rows.Rows.{RowId, Row, Rows}
use Rattle.jpa_rows.proofs.laws.Facts.{some_none, true_false, and_second}
use Rattle.jpa_rows.proofs.laws.Each.{Each}
use Rattle.jpa_rows.proofs.laws.Elements.{Has, into_flat_map}
use Rattle.jpa_object_rows.specs.meaning.Identities.{root_at, declarer_at, is_within}
use Rattle.jpa_object_rows.specs.meaning.Unambiguous.{IsUnambiguous}
use Rattle.jpa_object_rows.specs.meaning.View.{is_storable, AreStorable}
use Rattle.jpa_object_rows.proofs.meaning.Bytes.Keys.{table_is}
use Rattle.jpa_object_rows.proofs.meaning.Bytes.Reading.{storable}
use Rattle.jpa_object_rows.proofs.meaning.Bytes.Tables.{zero_root, zero_join}
use Rattle.jpa_object_rows.specs.meaning.Objects.{object_entries, object_rows, with_object, number_id, number_row}
use Rattle.jpa_rows.specs.rows.NextNumbers.{base_of, number_rows}
use Rattle.jpa_object_rows.specs.meaning.Sets.{with_set, rows_of}
use Rattle.jpa_object_rows.proofs.meaning.Over.{found_over}
use Rattle.jpa_object_rows.proofs.meaning.NextNumbers.{not_among, found_base}
use Rattle.jpa_object_rows.proofs.meaning.Kept.{along_each, join_of_class}

-- ---- rows of other tables

-- a row that is none of table 0
abbrev pub Elsewhere : RowId → Row → Type 0
Elsewhere id row = id.table ≡ 0 → ⊥

each_apart : (q : RowId) → q.table ≡ 0 → (es : Rows) → Each Elsewhere es → Each (λ id row. q ≡ id → ⊥) es
each_apart q zero [] h = tt
each_apart q zero (e ∷ es) h = (λ same. h.0 (ap (λ (id : RowId). id.table) (sym same) ∙ zero), each_apart q zero es h.1)

module _ (world : World) (clear : IsUnambiguous world.model) where
  -- those of an object
  pub entries_elsewhere : (id : Identity) (x : Stored) → is_storable world id x ≡ true → Each Elsewhere (object_entries world id x)
  entries_elsewhere id x g =
      let m = world.model in
      let s = storable world id x g in
      let root = root_of m x.class in (
        λ zero. some_none root (sym (ap (root_at m) (table_is root id s.of_root) ∙ clear.root x.class s.class) ∙ ap (root_at m) zero ∙ zero_root m clear.tables),
        along_each Elsewhere id (relations_of m x.class) x.owned
            (λ r k join side t zero.
            let has : Has (flat_map (λ (r : Relation). join_tables r.side) (relations_of m x.class)) join = into_flat_map (λ (s : Relation). join_tables s.side) (relations_of m x.class) r join k (subst (λ s. Has (join_tables s) join) (sym side) (inl refl)) in
            true_false (sym (and_second (not (is_some (root_at m join))) _ (join_of_class m clear x.class s.class join has))
            ∙ ap (λ j. is_within m root.table (declarer_at m j)) zero ∙ ap (is_within m root.table) (zero_join m clear.tables))),
      )

  -- a row that is none of them
  pub object_absent : (q : RowId) (id : Identity) (x : Stored) → Each (λ other row. q ≡ other → ⊥) (object_entries world id x) → find identity_cmp q (object_rows world id x) ≡ None
  object_absent q id x apart = found_over q (object_entries world id x) [] ∙ ap (λ o. or_else o None) (not_among q (object_entries world id x) apart)

  pub object_past : (q : RowId) (id : Identity) (x : Stored) (rows : Rows) → Each (λ other row. q ≡ other → ⊥) (object_entries world id x)
      → find identity_cmp q (with_object world id x rows) ≡ find identity_cmp q rows
  object_past q id x rows apart = found_over q (object_rows world id x) rows ∙ ap (λ o. or_else o (find identity_cmp q rows)) (object_absent q id x apart)

  pub set_passed : (q : RowId) → q.table ≡ 0 → (set : StoredSet) → AreStorable world set → (rows : Rows) → find identity_cmp q (with_set world set rows) ≡ find identity_cmp q rows
  set_passed q zero [] h rows = refl
  set_passed q zero (e ∷ set) h rows =
      object_past q e.0 e.1 (with_set world set rows) (each_apart q zero (object_entries world e.0 e.1) (entries_elsewhere e.0 e.1 h.0)) ∙ set_passed q zero set h.1 rows

-- ---- so the row of the revision stands as it does without them

pub revision_found : (world : World) → IsUnambiguous world.model → (set : StoredSet) (numbers : List ℕ) → AreStorable world set
    → find identity_cmp (number_id 0) (rows_of world set numbers) ≡ find identity_cmp (number_id 0) (base_of world.model)
revision_found world clear set numbers h = set_passed world clear (number_id 0) refl set h (number_rows world.model numbers) ∙ found_base world.model clear numbers

-- that of revision 2 alone
pub later_base : (m : PersistenceUnit) → m.revision == 1 ≡ false → base_of m ≡ (number_id 0, number_row m.revision) ∷ []
later_base m later = ap (λ b. cond b [] ((number_id 0, number_row m.revision) ∷ [])) later

-- The cells that become of those of a row rise again, and there are some.
use Rattle.std.specs.Prelude.{◌≡◌, ◌≢◌, ℕ, ◌<◌, ◌==◌, pos, Bool, true, false, cond, ◌&&◌, List, [], ◌∷◌, ◌++◌, length, drop, bytes_eq}
use Rattle.std.proofs.Common.{refl, sym, ap, subst, ◌∙◌, inl, inr, arith, Less}
use Rattle.std.specs.List.{flat_map}
use Rattle.std.specs.Ordering.{int_eq}
use Rattle.std.proofs.lemmas.Bool.Decides.{Decides-int_eq}
use Rattle.std.proofs.lemmas.Slice.Eq.{bytes_eq-Decides}
use Rattle.sqlite.specs.Tree.{IsAscending}
use Rattle.sqlite_keyed.proofs.ListLemmas.{ascending-filter}
use Rattle.jpa_model.specs.declared.unit.Attribute.{Attribute}
use Rattle.jpa_model.specs.Chains.{entity_at, root_class}
use Rattle.jpa_model.specs.Kept.{IsDescribed}
use Rattle.jpa_behaviour.specs.Behaviour.{World}
use Rattle.jpa_description.specs.declared.history.history.Change.{Change}
use Rattle.jpa_description.specs.declared.history.history.History.{History}
use Rattle.jpa_description.specs.history.History.{changes_along, dropped_by}
use Rattle.jpa_rows.proofs.laws.Facts.{and_first, and_second}
use Rattle.jpa_rows.proofs.laws.Elements.{Has, from_flat_map, from_filter}
use Rattle.jpa_rows.proofs.laws.Lists.{all_each, any_has}
use Rattle.jpa_rows.specs.rows.Tables.{classes, classes_below}
use Rattle.jpa_cells.specs.declared.meaning.Cell.{Cell}
use Rattle.jpa_cells.specs.meaning.Tables.{cell_cmp, placed, ColumnsDiffer}
use Rattle.jpa_object_rows.specs.meaning.Unambiguous.{is_class}
use Rattle.jpa_object_rows.proofs.meaning.Bytes.Classes.{class_within}
use Rattle.jpa_object_rows.proofs.meaning.Bytes.Described.{described_mapped}
use Rattle.jpa_opening.specs.migration.Migration.{changes_below, is_of, is_taken, cell_after, class_defaults, default_cells, readable, cells_after}
use Rattle.jpa_opening.specs.migration.Changed.{default_cell}
use Rattle.jpa_opening.proofs.migration.Sorting.{placed_rises}
use Rattle.jpa_opening.proofs.migration.Columns.{ascending-append, same_columns, range_rises}
use Rattle.jpa_opening.proofs.migration.Apart.{IsDefaultOf, of_default, loose_differ}
use Rattle.jpa_opening.proofs.migration.Hierarchies.{same_classes, one_attribute, along_below, class_differ}

module _ (world : World) (described : IsDescribed world.model) (h : History) (root : ℕ) (within : is_class world.model root ≡ true) where
  -- the class that column 0 names is one
  one_named : (cells : List Cell) → IsAscending (λ a b. cell_cmp a b ≡ Less) cells → (a b : ℕ) → Has (classes_below world.model root) a → Has (classes_below world.model root) b
      → is_of (entity_at world.model a) cells ≡ true → is_of (entity_at world.model b) cells ≡ true → a ≡ b
  one_named cells up a b p q here there =
      let r = any_has (λ c. int_eq c.column (pos 0) && bytes_eq c.value (2 ∷ (entity_at world.model a).discriminator)) cells here in
      let s = any_has (λ c. int_eq c.column (pos 0) && bytes_eq c.value (2 ∷ (entity_at world.model b).discriminator)) cells there in
      let first = (Decides-int_eq (r.0).column (pos 0)).0 (and_first (int_eq (r.0).column (pos 0)) _ r.2) in
      let second = (Decides-int_eq (s.0).column (pos 0)).0 (and_first (int_eq (s.0).column (pos 0)) _ s.2) in
      let same = same_columns cells up r.0 s.0 r.1 s.1 (first ∙ sym second) in
      let value = (bytes_eq-Decides (r.0).value _).0 (and_second (int_eq (r.0).column (pos 0)) _ r.2) in
      let other = (bytes_eq-Decides (s.0).value _).0 (and_second (int_eq (s.0).column (pos 0)) _ s.2) in
      (described_mapped world.model described).discriminators root within a b (subst (λ cs. Has cs a) (same_classes world.model described h root) p) (subst (λ cs. Has cs b) (same_classes world.model described h root) q)
      (ap (drop 1) (sym value ∙ ap (λ (c : Cell). c.value) same ∙ other))

  module _ (cells : List Cell) (up : IsAscending (λ a b. cell_cmp a b ≡ Less) cells) where
    abbrev named : ℕ → List Cell
    named class = cond (is_of (entity_at world.model class) cells) (class_defaults world h class) []

    of_named : (class : ℕ) (d : Cell) → Has (named class) d → (is_of (entity_at world.model class) cells ≡ true) × Has (class_defaults world h class) d
    of_named class d k = by (is_of (entity_at world.model class) cells) refl k
      where
        by : (b : Bool) → is_of (entity_at world.model class) cells ≡ b → Has (cond b (class_defaults world h class) []) d → (is_of (entity_at world.model class) cells ≡ true) × Has (class_defaults world h class) d
        by true e j = (e, j)
        by false e j = absurd j

    one_class : (class : ℕ) → Has (classes_below world.model root) class → ColumnsDiffer (named class)
    one_class class k = by (is_of (entity_at world.model class) cells)
      where
        is : is_class world.model class ≡ true
        is = class_within world.model class (from_filter (λ c. root_class world.model c == root) (classes world.model) class k).0

        by : (b : Bool) → ColumnsDiffer (cond b (class_defaults world h class) [])
        by true = class_differ world.model described h world refl class is
        by false = tt

    classes_differ : (rest : List ℕ) → IsAscending (λ (a b : ℕ). a < b) rest → ((c : ℕ) → Has rest c → Has (classes_below world.model root) c) → ColumnsDiffer (flat_map named rest)
    classes_differ [] rise inside = tt
    classes_differ (class ∷ rest) rise inside =
        ascending-append (λ a b. a.column ≢ b.column) (named class) (flat_map named rest) (one_class class (inside class (inl refl))) (classes_differ rest rise.1 (λ c k. inside c (inr k)))
        (λ x y i j e.
        let r = from_flat_map named rest y j in
        let same = one_named cells up class r.0 (inside class (inl refl)) (inside r.0 (inr r.1)) (of_named class x i).0 (of_named r.0 y r.2).0 in
        let less = all_each (λ (b : ℕ). class < b) rest rise.0 r.0 r.1 in
        absurd (omega arith))

    defaults_apart : ColumnsDiffer (default_cells world h root cells)
    defaults_apart =
        classes_differ (classes_below world.model root) (ascending-filter (λ (a b : ℕ). a < b) (λ c. root_class world.model c == root) (classes world.model) (range_rises 0 (length (world.model).entities))) (λ c k. k)

    pub each_new : (d : Cell) → Has (default_cells world h root cells) d → (p : Attribute × Change) × Has (changes_below world.model h root) p × IsDefaultOf p d
    each_new d k =
        let r = from_flat_map named (classes_below world.model root) d k in
        let s = from_flat_map (default_cell world) (changes_along world.model h r.0) d (of_named r.0 d r.2).1 in
        (s.0, along_below world.model described h root within r.0 r.1 s.0 s.1, of_default world s.0 d s.2)

    -- no two of the cells that become of them have one column
    pub columns_apart : is_taken (changes_below world.model h root) cells ≡ false
        → ColumnsDiffer (flat_map (cell_after (changes_below world.model h root) (dropped_by h root)) cells ++ default_cells world h root cells)
    columns_apart free =
        loose_differ (changes_below world.model h root) cells free (one_attribute world.model described h root within) (dropped_by h root) (default_cells world h root cells) up defaults_apart each_new

    readable_rises : (others : List Cell) → IsAscending (λ a b. cell_cmp a b ≡ Less) others → IsAscending (λ a b. cell_cmp a b ≡ Less) (readable others)
    readable_rises [] rise = (tt, tt)
    readable_rises (c ∷ others) rise = rise

    -- and they rise
    pub after_rises : IsAscending (λ a b. cell_cmp a b ≡ Less) (cells_after world h root cells)
    after_rises = by (is_taken (changes_below world.model h root) cells) refl
      where
        by : (b : Bool) → is_taken (changes_below world.model h root) cells ≡ b
            → IsAscending (λ a b. cell_cmp a b ≡ Less) (readable (cond b [] (placed (flat_map (cell_after (changes_below world.model h root) (dropped_by h root)) cells ++ default_cells world h root cells))))
        by true e = (tt, tt)
        by false e = readable_rises _ (placed_rises _ (columns_apart e))

pub readable_some : (cells : List Cell) → length (readable cells) ≡ 0 → ⊥
readable_some [] h = omega (arith, h)
readable_some (c ∷ cells) h = omega (arith, h)

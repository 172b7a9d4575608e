-- A root's plan makes of cells what becomes of them.
use Rattle.std.specs.Prelude.{◌≡◌, ℕ, ℤ, pos, Bool, true, false, cond, ◌&&◌, ◌||◌, List, [], ◌∷◌, ◌++◌}
use Rattle.std.proofs.Common.{refl, sym, ap, ◌∙◌, append-nil}
use Rattle.std.specs.List.{flat_map, list_any}
use Rattle.std.specs.Ordering.{int_eq}
use Rattle.jpa_model.specs.declared.unit.Attribute.{Attribute}
use Rattle.jpa_model.specs.Chains.{entity_at}
use Rattle.jpa_behaviour.specs.Behaviour.{World}
use Rattle.jpa_description.specs.declared.history.history.Change.{Change}
use Rattle.jpa_description.specs.declared.history.history.History.{History}
use Rattle.jpa_description.specs.history.History.{changes_of, dropped_by}
use Rattle.jpa_rows.proofs.laws.Lists.{flat_map_same, flat_map-flat_map}
use Rattle.jpa_rows.specs.rows.Tables.{classes_below}
use Rattle.jpa_cells.specs.declared.meaning.Cell.{Cell}
use Rattle.jpa_cells.specs.meaning.Tables.{placed}
use Rattle.jpa_opening.specs.migration.Migration as migration
use Rattle.jpa_opening.specs.migration.Plans as plans

-- ---- new columns

any_new : (column : ℤ) (ps : List (Attribute × Change)) → list_any (plans.is_number column) (flat_map plans.column_if_new ps) ≡ list_any (λ p. migration.is_new p.1 && int_eq (pos (p.0).column) column) ps
any_new column [] = refl
any_new column (p ∷ ps) = by (migration.is_new p.1) (any_new column ps)
  where
    by : (b : Bool) → list_any (plans.is_number column) (flat_map plans.column_if_new ps) ≡ list_any (λ p. migration.is_new p.1 && int_eq (pos (p.0).column) column) ps
        → list_any (plans.is_number column) (cond b ((p.0).column ∷ []) [] ++ flat_map plans.column_if_new ps)
        ≡ ((b && int_eq (pos (p.0).column) column) || list_any (λ p. migration.is_new p.1 && int_eq (pos (p.0).column) column) ps)
    by true rest = ap (λ b. int_eq (pos (p.0).column) column || b) rest
    by false rest = rest

-- ---- moves

moved_after : (column : ℤ) (ps : List (Attribute × Change)) → plans.column_by (flat_map plans.move_of ps) column ≡ migration.column_after ps column
moved_after column [] = refl
moved_after column (p ∷ ps) = by p.1 (moved_after column ps)
  where
    by : (change : Change) → plans.column_by (flat_map plans.move_of ps) column ≡ migration.column_after ps column
        → plans.column_by (plans.moved_by (p.0).column change ++ flat_map plans.move_of ps) column ≡ cond (migration.was_in column change) (pos (p.0).column) (migration.column_after ps column)
    by Change.Kept rest = rest
    by (Change.New default) rest = rest
    by (Change.Moved was) rest = ap (λ n. cond (int_eq (pos was) column) (pos (p.0).column) n) rest

-- ---- defaults

of_class : (cells : List Cell) (discriminator : List ℕ) (defaults : List Cell) → flat_map (plans.defaults_if cells) (plans.named discriminator defaults) ≡ cond (plans.is_of discriminator cells) defaults []
of_class cells discriminator [] = by (plans.is_of discriminator cells)
  where
    by : (b : Bool) → ◌≡◌ {A = List Cell} [] (cond b [] [])
    by true = refl
    by false = refl
of_class cells discriminator (c ∷ defaults) = append-nil (cond (plans.is_of discriminator cells) (c ∷ defaults) [])

module _ (world : World) (h : History) (root : ℕ) where
  abbrev below : List (Attribute × Change)
  below = migration.changes_below world.model h root

  pub taken_planned : (column : ℤ) → plans.has_number (plans.plan_of world h root).taken column ≡ list_any (λ p. migration.is_new p.1 && int_eq (pos (p.0).column) column) below
  taken_planned column =
      ap (list_any (plans.is_number column)) (sym (flat_map-flat_map plans.column_if_new (changes_of world.model h) (classes_below world.model root))) ∙ any_new column below

  pub is_taken_planned : (cells : List Cell) → plans.is_taken (plans.plan_of world h root) cells ≡ migration.is_taken below cells
  is_taken_planned cells = λ i. list_any (λ c. taken_planned c.column i) cells

  pub column_planned : (column : ℤ) → plans.column_by (plans.plan_of world h root).moves column ≡ migration.column_after below column
  column_planned column =
      ap (λ moves. plans.column_by moves column) (sym (flat_map-flat_map plans.move_of (changes_of world.model h) (classes_below world.model root))) ∙ moved_after column below

  pub cell_planned : (c : Cell) → plans.cell_by (plans.plan_of world h root) c ≡ migration.cell_after below (dropped_by h root) c
  cell_planned c = λ i. cond (plans.has_number (dropped_by h root) c.column) [] (record { column = column_planned c.column i; value = c.value } ∷ [])

  pub defaults_planned : (cells : List Cell) → plans.defaults_by (plans.plan_of world h root) cells ≡ migration.default_cells world h root cells
  defaults_planned cells =
      flat_map-flat_map (plans.defaults_if cells) (plans.defaults_of world h) (classes_below world.model root)
      ∙ flat_map_same _ _ (classes_below world.model root) (λ c k. of_class cells (2 ∷ (entity_at world.model c).discriminator) (migration.class_defaults world h c))

  pub loose_planned : (cells : List Cell) → plans.loose_by (plans.plan_of world h root) cells ≡ flat_map (migration.cell_after below (dropped_by h root)) cells ++ migration.default_cells world h root cells
  loose_planned cells = λ i. flat_map (λ c. cell_planned c i) cells ++ defaults_planned cells i

  -- the cells of a row
  pub cells_planned : (cells : List Cell) → plans.cells_by (plans.plan_of world h root) cells ≡ migration.cells_after world h root cells
  cells_planned cells = λ i. migration.readable (cond (is_taken_planned cells i) [] (placed (loose_planned cells i)))

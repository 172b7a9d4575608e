-- The rows of a root's table by its plan.
use Rattle.std.specs.Prelude.{◌≡◌, ℕ, ℤ, pos, Bool, true, false, cond, not, ◌&&◌, ◌||◌, List, [], ◌∷◌, ◌++◌, map, length}
use Rattle.std.proofs.Common.{refl, sym, ap, subst, ◌∙◌, ◌⊎◌, inl, inr, Less}
use Rattle.std.specs.List.{flat_map, list_any, AllByRecursion}
use Rattle.std.specs.Ordering.{int_eq}
use Rattle.std.proofs.lemmas.Bool.Decides.{Decides-int_eq}
use Rattle.sqlite.specs.Tree.{IsAscending}
use Rattle.jpa_model.specs.declared.unit.Attribute.{Attribute}
use Rattle.jpa_model.specs.Kept.{IsDescribed}
use Rattle.jpa_behaviour.specs.Behaviour.{World}
use Rattle.jpa_description.specs.declared.history.history.Change.{Change}
use Rattle.jpa_description.specs.declared.history.history.History.{History}
use Rattle.jpa_rows.proofs.laws.Facts.{and_first, and_second, and_both}
use Rattle.jpa_rows.proofs.laws.Elements.{Has}
use Rattle.jpa_rows.proofs.laws.Lists.{has_any}
use Rattle.jpa_cells.specs.declared.meaning.Cell.{Cell}
use Rattle.jpa_cells.specs.declared.meaning.CellRow.{CellRow}
use Rattle.jpa_cells.specs.declared.meaning.CellChange.{CellChange}
use Rattle.jpa_cells.specs.meaning.Tables.{cell_cmp, ColumnsDiffer, row_of}
use Rattle.jpa_object_rows.specs.meaning.Unambiguous.{is_class}
use Rattle.jpa_opening.specs.declared.migration.plan.Plan.{Plan}
use Rattle.jpa_opening.specs.migration.Migration as migration
use Rattle.jpa_opening.specs.migration.Plans as plans
use Rattle.jpa_opening.specs.migration.Orderly.{IsOrderly}
use Rattle.jpa_opening.proofs.migration.Planned.{taken_planned, is_taken_planned, column_planned, defaults_planned, loose_planned, cells_planned}
use Rattle.jpa_opening.proofs.migration.Apart.{IsMovedTo, stays_or_moves, was_new}
use Rattle.jpa_opening.proofs.migration.RowColumns.{columns_apart, each_new}
use Rattle.jpa_opening.proofs.migration.Differing.{IsFresh, differs_is, same_itself, some_stay, is_nil_none}
use Rattle.jpa_opening.proofs.migration.Untouched.{of_same}

filled : (cells : List Cell) → (length cells ≡ 0 → ⊥) → plans.is_nil cells ≡ false
filled [] h = absurd (h refl)
filled (c ∷ cells) h = refl

-- ---- a plan that changes nothing

none_any : (cells : List Cell) → list_any (λ (c : Cell). false) cells ≡ false
none_any [] = refl
none_any (c ∷ cells) = none_any cells

none_touched : (cells : List Cell) → list_any (λ (c : Cell). not (int_eq c.column c.column)) cells ≡ false
none_touched [] = refl
none_touched (c ∷ cells) = ap (λ b. not b || list_any (λ (c : Cell). not (int_eq c.column c.column)) cells) ((Decides-int_eq c.column c.column).1 refl) ∙ none_touched cells

record IsEmpty (plan : Plan) : Type 0 where
  taken : plan.taken ≡ []
  dropped : plan.dropped ≡ []
  moves : plan.moves ≡ []
  defaults : plan.defaults ≡ []

empty : (plan : Plan) → plans.is_idle plan ≡ true → IsEmpty plan
empty plan h =
    let first = and_first (plans.is_nil plan.taken && plans.is_nil plan.dropped && plans.is_nil plan.moves) (plans.is_nil plan.defaults) h in
    let second = and_first (plans.is_nil plan.taken && plans.is_nil plan.dropped) (plans.is_nil plan.moves) first in
    record {
      taken = is_nil_none plan.taken (and_first (plans.is_nil plan.taken) (plans.is_nil plan.dropped) second);
      dropped = is_nil_none plan.dropped (and_second (plans.is_nil plan.taken) (plans.is_nil plan.dropped) second);
      moves = is_nil_none plan.moves (and_second (plans.is_nil plan.taken && plans.is_nil plan.dropped) (plans.is_nil plan.moves) first);
      defaults = is_nil_none plan.defaults (and_second (plans.is_nil plan.taken && plans.is_nil plan.dropped && plans.is_nil plan.moves) (plans.is_nil plan.defaults) h);
    }

idle_same : (plan : Plan) → plans.is_idle plan ≡ true → (cells : List Cell) → plans.is_nil cells ≡ false → IsOrderly plan cells → plans.cells_by plan cells ≡ cells
idle_same plan h cells some orderly =
    let none = empty plan h in
    let free : plans.is_taken plan cells ≡ false = ap (λ taken. list_any (λ (c : Cell). plans.has_number taken c.column) cells) none.taken ∙ none_any cells in
    let still : list_any (plans.touches plan) cells ≡ false =
    (λ i. list_any (λ (c : Cell). plans.has_number (none.dropped i) c.column || not (int_eq (plans.column_by (none.moves i) c.column) c.column)) cells) ∙ none_touched cells in
    sym (of_same plan cells orderly free still (ap (flat_map (plans.defaults_if cells)) none.defaults)) ∙ some_stay cells some

module _ (world : World) (described : IsDescribed world.model) (h : History) (root : ℕ) (within : is_class world.model root ≡ true) where
  abbrev plan : Plan
  plan = plans.plan_of world h root

  new_there : (column : ℕ) (p : Attribute × Change) → Has (migration.changes_below world.model h root) p → migration.is_new p.1 ≡ true → pos (p.0).column ≡ pos column → plans.has_number (plans.plan_of world h root).taken (pos column) ≡ true
  new_there column p k new e =
      taken_planned world h root (pos column)
      ∙ has_any (λ p. migration.is_new p.1 && int_eq (pos (p.0).column) (pos column)) (migration.changes_below world.model h root) p k
      (and_both (migration.is_new p.1) (int_eq (pos (p.0).column) (pos column)) new ((Decides-int_eq (pos (p.0).column) (pos column)).1 e))

  moves_new : (column : ℤ) → (plans.column_by (plans.plan_of world h root).moves column ≡ column) ⊎ (plans.has_number (plans.plan_of world h root).taken (plans.column_by (plans.plan_of world h root).moves column) ≡ true)
  moves_new column = go (stays_or_moves (migration.changes_below world.model h root) column)
    where
      go : (migration.column_after (migration.changes_below world.model h root) column ≡ column) ⊎ IsMovedTo (migration.changes_below world.model h root) column (migration.column_after (migration.changes_below world.model h root) column)
          → (plans.column_by (plans.plan_of world h root).moves column ≡ column) ⊎ (plans.has_number (plans.plan_of world h root).taken (plans.column_by (plans.plan_of world h root).moves column) ≡ true)
      go (inl e) = inl (column_planned world h root column ∙ e)
      go (inr r) =
          inr (subst (λ n. plans.has_number (plans.plan_of world h root).taken n ≡ true) (sym (column_planned world h root column ∙ r.to)) (new_there ((r.by).0).column r.by r.there (was_new column (r.by).1 r.was) refl))

  module _ (cells : List Cell) (up : IsAscending (λ a b. cell_cmp a b ≡ Less) cells) where
    fresh : IsFresh (plans.plan_of world h root) cells
    fresh = record {
      moves = moves_new;
      defaults = λ d k.
          let r = each_new world described h root within cells up d (subst (λ l. Has l d) (defaults_planned world h root cells) k) in
          subst (λ n. plans.has_number (plans.plan_of world h root).taken n ≡ true) (sym (r.2).column) (new_there ((r.0).0).column r.0 r.1 (ap migration.is_new (r.2).new) refl);
    }

    orderly : IsOrderly (plans.plan_of world h root) cells
    orderly = record {
      rise = up;
      apart = λ free. subst ColumnsDiffer (sym (loose_planned world h root cells)) (columns_apart world described h root within cells up (sym (is_taken_planned world h root cells) ∙ free));
    }

    -- the change of a row
    change_planned : (table : ℤ) (row : List ℕ) → plans.is_nil cells ≡ false → plans.change_by (plans.plan_of world h root) table (row_of row cells) ≡ migration.change_if world h table root (row_of row cells)
    change_planned table row some =
        let after = plans.cells_by (plans.plan_of world h root) cells in
        ap (λ b. cond b (record { table = table; row = row; cells = after } ∷ []) []) (differs_is (plans.plan_of world h root) cells fresh some orderly)
        ∙ by (migration.same_cells cells after) (record { table = table; row = row; cells = after } ∷ [])
        ∙ ap (λ l. cond (migration.same_cells cells l) [] (record { table = table; row = row; cells = l } ∷ [])) (cells_planned world h root cells)
      where
        by : (b : Bool) (changes : List CellChange) → cond (not b) changes [] ≡ cond b [] changes
        by true changes = refl
        by false changes = refl

  -- ---- the rows of a table

  row_planned : (r : CellRow) → plans.row_by (plans.plan_of world h root) r ≡ migration.row_after world h root r
  row_planned r = ap (row_of r.row) (cells_planned world h root r.cells)

  pub rows_planned : (rows : List CellRow) → map (plans.row_by (plans.plan_of world h root)) rows ≡ map (migration.row_after world h root) rows
  rows_planned [] = refl
  rows_planned (r ∷ rows) = λ i. row_planned r i ∷ rows_planned rows i

  abbrev Cells : CellRow → Type 0
  Cells r = IsAscending (λ a b. cell_cmp a b ≡ Less) r.cells

  abbrev Full : CellRow → Type 0
  Full r = length r.cells ≡ 0 → ⊥

  pub all_orderly : (rows : List CellRow) → AllByRecursion Cells rows → AllByRecursion (λ r. IsOrderly (plans.plan_of world h root) r.cells) rows
  all_orderly [] up = tt
  all_orderly (r ∷ rows) up = (orderly r.cells up.0, all_orderly rows up.1)

  pub changes_planned : (table : ℤ) (rows : List CellRow) → AllByRecursion Full rows → AllByRecursion Cells rows → flat_map (plans.change_by (plans.plan_of world h root) table) rows ≡ flat_map (migration.change_if world h table root) rows
  changes_planned table [] full up = refl
  changes_planned table (r ∷ rows) full up = λ i. change_planned r.cells up.0 table r.row (filled r.cells full.0) i ++ changes_planned table rows full.1 up.1 i

  module _ (idle : plans.is_idle (plans.plan_of world h root) ≡ true) where
    same_row : (r : CellRow) → Full r → Cells r → migration.cells_after world h root r.cells ≡ r.cells
    same_row r full up = sym (cells_planned world h root r.cells) ∙ idle_same (plans.plan_of world h root) idle r.cells (filled r.cells full) (orderly r.cells up)

    pub idle_rows : (rows : List CellRow) → AllByRecursion Full rows → AllByRecursion Cells rows → rows ≡ map (migration.row_after world h root) rows
    idle_rows [] full up = refl
    idle_rows (r ∷ rows) full up = λ i. row_of r.row (sym (same_row r full.0 up.0) i) ∷ idle_rows rows full.1 up.1 i

    pub idle_changes : (table : ℤ) (rows : List CellRow) → AllByRecursion Full rows → AllByRecursion Cells rows → flat_map (migration.change_if world h table root) rows ≡ []
    idle_changes table [] full up = refl
    idle_changes table (r ∷ rows) full up =
        let same = same_row r full.0 up.0 in
        (λ i. cond (migration.same_cells r.cells (same i)) [] (record { table = table; row = r.row; cells = same i } ∷ []) ++ flat_map (migration.change_if world h table root) rows)
        ∙ ap (λ b. cond b [] (record { table = table; row = r.row; cells = r.cells } ∷ []) ++ flat_map (migration.change_if world h table root) rows) (same_itself r.cells)
        ∙ idle_changes table rows full.1 up.1

use Rattle.std.specs.Prelude.{[], ◌∷◌, ◌++◌, List}
use Rattle.std.proofs.Common.{sym, ap, ◌∙◌, append_assoc, to_z, of_z, w64}
use Rattle.std.proofs.lemmas.List.{map_push, flat_map_more}
use Rattle.std.specs.List.{AllByRecursion}
use Rattle.jpa_cells.specs.declared.meaning.CellRow.{CellRow}
use Rattle.jpa_cells.specs.declared.meaning.CellChange.{CellChange}
use Rattle.jpa_opening.specs.migration.Orderly.{IsOrderly}
use Rattle.jpa_opening.specs.migration.Plans.{row_by, change_by}
use Rattle.jpa_opening.proofs.migration.table.rows_by.Goals as goal

front : (P : CellRow → Type 0) (rows : List CellRow) (r : CellRow) → AllByRecursion P (rows ++ r ∷ []) → AllByRecursion P rows
front P [] r all = tt
front P (s ∷ rows) r all = (all.0, front P rows r all.1)

last : (P : CellRow → Type 0) (rows : List CellRow) (r : CellRow) → AllByRecursion P (rows ++ r ∷ []) → P r
last P [] r all = all.0
last P (s ∷ rows) r all = last P rows r all.1

pub rows-preserved : goal.rows-preserved
rows-preserved c =
    let plan = c.args.plan.now in
    let P = λ (r : CellRow). IsOrderly plan r.cells in
    let table = to_z w64 (of_z w64 c.args.table) in
    let done = c.rows.yielded in
    let stored = c.in-Some.stored in
    record {
      rows = λ all.
          let before = c.rows.invariant.rows (front P done stored all) in
          let here = c.in_ok-row_by.ensures.row (last P done stored all) in
          c.in_ok-push.ensures.items ∙ (λ i. before i ++ here i ∷ []) ∙ sym (map_push (row_by plan) done stored);
      changes = λ all.
          let before = c.rows.invariant.changes (front P done stored all) in
          c.in_ok-row_by.ensures.changes (last P done stored all) ∙ ap (λ (l : List CellChange). l ++ change_by plan table stored) before
          ∙ flat_map_more (change_by plan table) c.args.changes.now done stored;
      all = c.rows.invariant.all ∙ ap (λ (l : List CellRow). done ++ l) c.in-Some.ensures.steps.0 ∙ sym (append_assoc done (stored ∷ []) c.next.new.self.rest.items);
    }

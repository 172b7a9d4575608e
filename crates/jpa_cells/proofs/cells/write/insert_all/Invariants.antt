use Rattle.std.proofs.Common.{◌+◌, ◌≡◌, drop, ℕ, ℤ, List}
use Rattle.sqlite.specs.State.{HasCleanDisk, Survives}
use Rattle.sqlite.specs.Held.{state}
use Rattle.jpa_cells.specs.meaning.Content.{IsUnderWay, TakesRowids, CanAdd, content, with_cells}
use Rattle.jpa_cells.specs.meaning.Store.{up_to_greatest}
use Rattle.jpa_cells.proofs.cells.write.insert_all.Given as goal

-- the cells that are left give what all give
abbrev pub invariant-cells : goal.invariant-cells
invariant-cells g l =
    let first = state g.S.Store l.fn.tx.conn.now in
    let now = state g.S.Store l.tx.conn.now in
    (l.tx.conn.ghost_name ≡ l.fn.tx.conn.ghost_name) × Survives first now (λ _. ⊥)
    × (HasCleanDisk now → IsUnderWay first now)
    × (HasCleanDisk now → (t : ℤ) (k : List ℕ) → with_cells l.table l.row (drop l.cell-index l.cells) (content now.now) t k ≡ with_cells l.table l.row l.cells (content first.now) t k)
    × (HasCleanDisk now → TakesRowids first now l.cell-index)
    × (HasCleanDisk now → CanAdd first l.table l.row l.cells → CanAdd now l.table l.row (drop l.cell-index l.cells))
    × (l.writes ≡ up_to_greatest (l.fn.writes + l.cell-index))

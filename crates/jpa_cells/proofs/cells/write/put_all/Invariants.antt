use Rattle.std.proofs.Common.{sum_by, take, ◌+◌, ◌≡◌, ◌<◌, drop, ℕ, ℤ, List, IsTrue}
use Rattle.sqlite.specs.State.{HasCleanDisk, Survives}
use Rattle.sqlite.specs.Held.{state}
use Rattle.jpa_cells.specs.meaning.Content.{IsUnderWay, CanTake, content, contents_after}
use Rattle.jpa_cells.specs.meaning.Tables.{statements_of, NameColumnsOnce}
use Rattle.jpa_cells.specs.meaning.Store.{up_to_greatest}
use Rattle.jpa_cells.proofs.cells.write.put_all.Given as goal

-- the changes that are left give what all give
abbrev pub invariant-changes : goal.invariant-changes
invariant-changes g l =
    let first = state g.S.Store l.fn.tx.conn.now in
    let now = state g.S.Store l.tx.conn.now in
    (l.tx.conn.ghost_name ≡ l.fn.tx.conn.ghost_name) × Survives first now (λ _. ⊥)
    × (HasCleanDisk now → IsTrue now.in_transaction)
    × (HasCleanDisk now → 0 < l.change-index → IsTrue now.is_open)
    × (HasCleanDisk now → IsTrue now.is_open → IsUnderWay first now)
    × (HasCleanDisk now → (t : ℤ) (k : List ℕ) → contents_after (drop l.change-index l.changes) (content now.now) t k ≡ contents_after l.changes (content first.now) t k)
    × (HasCleanDisk now → NameColumnsOnce (take l.change-index l.changes))
    × (HasCleanDisk now → CanTake first.now l.changes → CanTake now.now (drop l.change-index l.changes))
    × (l.writes ≡ up_to_greatest (l.fn.writes + sum_by statements_of (take l.change-index l.changes)))

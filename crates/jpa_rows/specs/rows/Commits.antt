-- What one commit does to a store of rows, said once for each function on its way.
use Rattle.std.specs.Prelude.{◌≡◌, ◌⊎◌, ◌+◌, ◌≤◌, ℕ, List, map, sum_by, Result, OnOk, OnErr}
use Rattle.jpa_value.specs.Value.{identity_cmp}
use Rattle.jpa_rows.specs.laws.Changes.{AreDifference}
use Rattle.jpa_rows.specs.declared.rows.row.RowChange.{RowChange}
use Rattle.jpa_rows.specs.declared.rows.source.RowSource.{Ghosts}
use Rattle.jpa_rows.specs.rows.Making.{Makes}
use Rattle.jpa_rows.specs.rows.Rows.{Rows, entry_of, rows_after}
use Rattle.jpa_rows.specs.rows.Statements.{statements_of, up_to_greatest}

-- the changes make the new rows of the old ones, and none of them leaves a row as it was
abbrev pub IsDifference : Rows → Rows → List RowChange → Type 0
IsDifference old new changes = AreDifference identity_cmp old (map entry_of changes) × (rows_after changes old ≡ new)

-- the statements that make this difference were run, and no others
abbrev pub RunsDifference : Rows → Rows → ℕ → ℕ → Type 0
RunsDifference old new writes_before writes_after =
    (changes : List RowChange) × IsDifference old new changes
    × (writes_after ≡ up_to_greatest (writes_before + sum_by statements_of changes))

-- some of them were run, or all, and no others
abbrev pub RunsAtMost : Rows → Rows → ℕ → ℕ → Type 0
RunsAtMost old new writes_before writes_after =
    (changes : List RowChange) × IsDifference old new changes × (writes_before ≤ writes_after)
    × (writes_after ≤ up_to_greatest (writes_before + sum_by statements_of changes))

-- it makes the second rows of the first by just the statements of the difference: all where it is done, at most those
-- where it is refused, and none where nothing changes
pub record Commits {S A E : Type 0} (store : Ghosts S) (faults_then : ℕ → ℕ) (answer : Result A E) (before made : Rows)
    (old new : S) : Type 0 where
  pub makes : Makes store.schema store.holds store.clean store.faults store.reads store.creates store.endures
      faults_then answer before made old new
  pub counted : OnOk answer (RunsDifference before made (store.writes old) (store.writes new))
  pub bounded : OnErr answer ((new ≡ old) ⊎ RunsAtMost before made (store.writes old) (store.writes new))
  pub unchanged : before ≡ made → new ≡ old

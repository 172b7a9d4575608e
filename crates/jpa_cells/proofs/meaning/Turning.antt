-- A transaction's steps, from the rows' contents to whole tables.
use Rattle.std.proofs.Common.{◌≡◌, ◌≤◌, ℤ, ℕ, List, [], length, drop, sym, ap, ◌∙◌}
use Rattle.std.proofs.lemmas.List.{drop_all}
use Rattle.sqlite.specs.State.{State, HasCleanDisk}
use Rattle.jpa_cells.specs.declared.meaning.Cell.{Cell}
use Rattle.jpa_cells.specs.declared.meaning.CellChange.{CellChange}
use Rattle.jpa_cells.specs.meaning.Content.{IsCellStore, IsUnderWay, Steps, Turns, with_cells, contents_after, content}
use Rattle.jpa_cells.proofs.meaning.Rows.{tables_changed}

-- the loop over a row's cells is at its end
pub filled : (first now : State) (table : ℤ) (key : List ℕ) (cells : List Cell) (at : ℕ) → IsUnderWay first now → length cells ≤ at
    → ((t : ℤ) (k : List ℕ) → with_cells table key (drop at cells) (content now.now) t k ≡ with_cells table key cells (content first.now) t k) → Steps first now (with_cells table key cells)
filled first now table key cells at u past same =
    let none : drop at cells ≡ [] = drop_all at cells past in
    record { was_open = u.was_open; is_open = u.is_open; inside = u.inside; committed = u.committed; holds = u.holds; content = λ t k. ap (λ l. with_cells table key l (content now.now) t k) (sym none) ∙ same t k }

-- the loop over the changes is at its end
pub finished : (first now : State) (changes : List CellChange) (at : ℕ) → IsCellStore first → HasCleanDisk first → IsUnderWay first now → length changes ≤ at
    → ((t : ℤ) (k : List ℕ) → contents_after (drop at changes) (content now.now) t k ≡ contents_after changes (content first.now) t k) → Turns first now changes
finished first now changes at store clean u past same =
    let none : drop at changes ≡ [] = drop_all at changes past in
    record {
      was_open = u.was_open;
      is_open = u.is_open;
      inside = u.inside;
      committed = u.committed;
      holds = u.holds;
      tables = tables_changed first.now now.now (store clean u.was_open) u.holds changes (λ t k. ap (λ l. contents_after l (content now.now) t k) (sym none) ∙ same t k);
    }

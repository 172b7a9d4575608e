-- The writes within a transaction.
use Rattle.std.proofs.Common.{◌≡◌, ◌<◌, ◌+◌, suc, length, get_or, drop, drop-cons, add-one, inl, inr, ℕ, ℤ, List, [], ◌∷◌, fold, true, false, cond, Ok, Err, Result, OnOk, OnErr, refl, sym, ap, ◌∙◌}
use Rattle.sqlite.specs.declared.types.Value.TheVariants.{Int, Blob}
use Rattle.sqlite.specs.Order.{Row}
use Rattle.sqlite.specs.declared.error.Error.{Error}
use Rattle.sqlite.specs.State.{State, HasCleanDisk, KeepsCommit, IsUnchanged, IsRolledBack, ExecutesInside}
use Rattle.sqlite_keyed.specs.Lists.{insert_sorted}
use Rattle.jpa_cells.specs.meaning.Schema.{insert_text, delete_text}
use Rattle.jpa_cells.specs.declared.meaning.Cell.{Cell}
use Rattle.jpa_cells.specs.declared.meaning.CellChange.{CellChange}
use Rattle.jpa_cells.specs.meaning.Tables.{cell_cmp, placed}
use Rattle.jpa_cells.specs.meaning.Content.{Contents, is_same, with_cell, with_cells, without_cells, replaced, contents_after, IsCellStore, IsUnderWay, Steps, content}
use Rattle.jpa_cells.proofs.meaning.RowMeaning.{params}
use Rattle.jpa_cells.proofs.meaning.Writes.{inserts, deletes}

unchanged_keeps : (old new : State) → IsUnchanged old new → KeepsCommit old new
unchanged_keeps old new h = record { was_open = λ _. h.0.was_open; committed = λ _. h.0.committed_is }

undone_keeps : (old new : State) → IsRolledBack old new → KeepsCommit old new
undone_keeps old new h = record { was_open = h.was_open; committed = λ live. (h.undone live).1 }

pub fails_inside : (sql : List ℕ) (params : Row) (old new : State) (r : Result ℕ Error) → ExecutesInside 0 sql params old new r → OnErr r (KeepsCommit old new)
fails_inside sql given old new (Ok n) h = tt
fails_inside sql given old new (Err e) (inl (_, inl same)) = unchanged_keeps old new same
fails_inside sql given old new (Err e) (inl (_, inr undone)) = undone_keeps old new undone
fails_inside sql given old new (Err e) (inr h) = unchanged_keeps old new h.2

module _ (old new : State) (store : IsCellStore old) (clean : HasCleanDisk old) (table : ℤ) (key : List ℕ) where
  pub insert_steps : (col : ℤ) (value : List ℕ) → (r : Result ℕ Error) → ExecutesInside 0 insert_text (Int table ∷ Blob key ∷ Int col ∷ Blob value ∷ []) old new r
      → OnOk r (Steps old new (with_cell table key (record { column = col; value = value })))
  insert_steps col value (Err e) h = tt
  insert_steps col value (Ok n) h =
      let it = inserts old new (store clean h.1.was_open) table key col value n h.0 in
      record { was_open = h.1.was_open; is_open = h.1.is_open; inside = h.1.mode; committed = h.1.committed_is; holds = it.0; content = it.1 }

  pub delete_steps : (r : Result ℕ Error) → ExecutesInside 0 delete_text (params table key) old new r → OnOk r (Steps old new (without_cells table key))
  delete_steps (Err e) h = tt
  delete_steps (Ok n) h =
      let it = deletes old new (store clean h.1.was_open) table key n h.0 in
      record { was_open = h.1.was_open; is_open = h.1.is_open; inside = h.1.mode; committed = h.1.committed_is; holds = it.0; content = it.1 }

-- ---- a row's cells, in turn

pub with_cells_same : (table : ℤ) (key : List ℕ) (cells : List Cell) (f g : Contents) → ((t : ℤ) (k : List ℕ) → f t k ≡ g t k) → (t : ℤ) (k : List ℕ) → with_cells table key cells f t k ≡ with_cells table key cells g t k
with_cells_same table key cells f g same t k = λ i. with_cells table key cells (λ u l. same u l i) t k

with_cells_at : (table : ℤ) (key : List ℕ) (cells : List Cell) (f : Contents) (t : ℤ) (k : List ℕ)
    → with_cells table key cells f t k ≡ cond (is_same table key t k) (fold (λ sorted cell. insert_sorted cell_cmp cell sorted) (f t k) cells) (f t k)
with_cells_at table key [] f t k = elim (is_same table key t k) as (λ b. f t k ≡ cond b (f t k) (f t k)) [ true ↦ refl | false ↦ refl ]
with_cells_at table key (cell ∷ cells) f t k =
    with_cells_at table key cells (with_cell table key cell f) t k
    ∙ elim (is_same table key t k) as (λ b. cond b (fold (λ sorted cell. insert_sorted cell_cmp cell sorted) (cond b (insert_sorted cell_cmp cell (f t k)) (f t k)) cells) (cond b (insert_sorted cell_cmp cell (f t k)) (f t k))
    ≡ cond b (fold (λ sorted cell. insert_sorted cell_cmp cell sorted) (insert_sorted cell_cmp cell (f t k)) cells) (f t k)) [ true ↦ refl | false ↦ refl ]

-- a row dropped and written again is replaced
pub rewritten : (change : CellChange) (f : Contents) (t : ℤ) (k : List ℕ) → with_cells change.table change.row change.cells (without_cells change.table change.row f) t k ≡ replaced change f t k
rewritten change f t k =
    with_cells_at change.table change.row change.cells (without_cells change.table change.row f) t k
    ∙ elim (is_same change.table change.row t k) as (λ b. cond b (fold (λ sorted cell. insert_sorted cell_cmp cell sorted) (cond b [] (f t k)) change.cells) (cond b [] (f t k)) ≡ cond b (placed change.cells) (f t k)) [ true ↦ refl | false ↦ refl ]

pub after_same : (changes : List CellChange) (f g : Contents) → ((t : ℤ) (k : List ℕ) → f t k ≡ g t k) → (t : ℤ) (k : List ℕ) → contents_after changes f t k ≡ contents_after changes g t k
after_same changes f g same t k = λ i. contents_after changes (λ u l. same u l i) t k

-- ---- a step of a loop within a transaction

pub goes_on : (first now next : State) (step : Contents → Contents) → IsUnderWay first now → Steps now next step → IsUnderWay first next
goes_on first now next step u s = record { was_open = u.was_open; is_open = s.is_open; inside = s.inside; committed = s.committed ∙ u.committed; holds = s.holds }

-- the cells that are left give what all give
pub one_cell_less : (table : ℤ) (key : List ℕ) (cells : List Cell) (at : ℕ) (cell : Cell) (now next : State) (all : Contents) → at < length cells → cell ≡ get_or cells at cell
    → Steps now next (with_cell table key cell)
    → ((t : ℤ) (k : List ℕ) → with_cells table key (drop at cells) (content now.now) t k ≡ all t k)
    → (t : ℤ) (k : List ℕ) → with_cells table key (drop (at + 1) cells) (content next.now) t k ≡ all t k
one_cell_less table key cells at cell now next all within is step left t k =
    let rest = drop (at + 1) cells in
    let whole : drop at cells ≡ cell ∷ drop (at + 1) cells = rw (add-one) (drop-cons cells at cell within ∙ ap (λ x. x ∷ drop (suc at) cells) (sym is)) in
    with_cells_same table key rest (content next.now) (with_cell table key cell (content now.now)) step.content t k
    ∙ ap (λ l. with_cells table key l (content now.now) t k) (sym whole) ∙ left t k

-- a row is dropped, and its cells are written
pub steps_change : (a b c : State) (change : CellChange) → Steps a b (without_cells change.table change.row) → Steps b c (with_cells change.table change.row change.cells) → Steps a c (replaced change)
steps_change a b c change p q = record {
  was_open = p.was_open;
  is_open = q.is_open;
  inside = q.inside;
  committed = q.committed ∙ p.committed;
  holds = q.holds;
  content = λ t k. q.content t k ∙ with_cells_same change.table change.row change.cells (content b.now) (without_cells change.table change.row (content a.now)) p.content t k ∙ rewritten change (content a.now) t k;
}

pub one_change_less : (changes : List CellChange) (at : ℕ) (change : CellChange) (now next : State) (all : Contents) → at < length changes → change ≡ get_or changes at change
    → Steps now next (replaced change)
    → ((t : ℤ) (k : List ℕ) → contents_after (drop at changes) (content now.now) t k ≡ all t k)
    → (t : ℤ) (k : List ℕ) → contents_after (drop (at + 1) changes) (content next.now) t k ≡ all t k
one_change_less changes at change now next all within is step left t k =
    let rest = drop (at + 1) changes in
    let whole : drop at changes ≡ change ∷ drop (at + 1) changes = rw (add-one) (drop-cons changes at change within ∙ ap (λ x. x ∷ drop (suc at) changes) (sym is)) in
    after_same rest (content next.now) (replaced change (content now.now)) step.content t k
    ∙ ap (λ l. contents_after l (content now.now) t k) (sym whole) ∙ left t k

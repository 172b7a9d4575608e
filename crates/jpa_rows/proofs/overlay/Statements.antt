-- How many statements a loop runs that runs one at most for each entry.
use Rattle.std.specs.Prelude.{◌+◌, ◌≤◌, ℕ}
use Rattle.std.proofs.Common.{◌∙◌, inl, inr, arith}
use Rattle.jpa_rows.specs.declared.rows.reader.RowReader.{Ghosts}
use Rattle.jpa_rows.specs.rows.Looks.{LooksAtOneRow, LooksAtRows}
use Rattle.jpa_rows.specs.rows.Statements.{AreAtMost, IsAtMostOne}

one_more : (count a b c : ℕ) → AreAtMost count a b → IsAtMostOne b c → AreAtMost (count + 1) a c
one_more count a b c (inl e) (inl f) = inl (f ∙ e)
one_more count a b c (inl e) (inr f) = inr (omega (arith, e, f))
one_more count a b c (inr l) (inl f) = inr (omega (arith, l, f))
one_more count a b c (inr l) (inr f) = inr (omega (arith, l, f))

within : (count most a b : ℕ) → count ≤ most → AreAtMost count a b → AreAtMost most a b
within count most a b h (inl e) = inl e
within count most a b h (inr l) = inr (omega (arith, h, l))

module _ {S : Type 0} (store : Ghosts S) where
  pub row_more : (count : ℕ) (first mid last : S) → LooksAtRows store count first mid → LooksAtOneRow store mid last → LooksAtRows store (count + 1) first last
  row_more count first mid last some one = record { rows = one_more count _ _ _ some.rows one.row; tables = one.tables ∙ some.tables }

  pub rows_within : (count most : ℕ) (first last : S) → count ≤ most → LooksAtRows store count first last → LooksAtRows store most first last
  rows_within count most first last h some = record { rows = within count most _ _ h some.rows; tables = some.tables }

-- The definitions at small values: person 1 (table 1) and the orders 10 and 11 (table 2).
use Rattle.std.specs.Prelude.{◌≡◌, pos, ℕ, true, false, [], ◌∷◌, Some, None}
use Rattle.std.proofs.Common.{refl}
use Rattle.jpa_value.specs.declared.value.Value.{Value}
use Rattle.jpa_rows.specs.declared.rows.row.Content.{Content}
use Rattle.jpa_rows.specs.rows.Rows.{RowId, Row, Rows}
use Rattle.jpa_rows.specs.overlay.Overlay.{Changes, with_change, with_row, rows_under, rows_put, stands_first}
use Rattle.jpa_rows.specs.overlay.Same.{same_row}

id : ℕ → ℕ → RowId
id table n = record { table = table; key = Value.Int (pos n) ∷ [] }

row : ℕ → Row
row n = record { column = 1; content = Content.Value (Value.Int (pos n)) } ∷ []

-- the same column, leading to a person
link : ℕ → Row
link n = record { column = 1; content = Content.Reference (Value.Int (pos n) ∷ []) } ∷ []

committed : Rows
committed = (id 1 1, row 5) ∷ (id 2 10, row 6) ∷ (id 2 11, row 7) ∷ []

-- person 1 changed, person 2 new, order 10 dropped
changes : Changes
changes = (id 1 1, Some (row 8)) ∷ (id 1 2, Some (row 9)) ∷ (id 2 10, None) ∷ []

under : rows_under changes committed ≡ (id 1 1, row 8) ∷ (id 1 2, row 9) ∷ (id 2 11, row 7) ∷ []
unfolding id row committed changes
under = refl

-- the later change of a row stands
twice : with_change (id 2 10) (Some (row 6)) changes ≡ (id 1 1, Some (row 8)) ∷ (id 1 2, Some (row 9)) ∷ (id 2 10, Some (row 6)) ∷ []
unfolding id row changes
twice = refl

without : with_row (id 1 1) None committed ≡ (id 2 10, row 6) ∷ (id 2 11, row 7) ∷ []
unfolding id row committed
without = refl

those_put : rows_put changes ≡ (id 1 1, row 8) ∷ (id 1 2, row 9) ∷ []
unfolding id row changes
those_put = refl

first : stands_first (id 1 1) changes ≡ true
unfolding id row changes
first = refl

not_first : stands_first (id 1 2) changes ≡ false
unfolding id row changes
not_first = refl

alike : same_row (Some (row 5)) (Some (row 5)) ≡ true
unfolding row
alike = refl

another_value : same_row (Some (row 5)) (Some (row 6)) ≡ false
unfolding row
another_value = refl

no_link : same_row (Some (row 5)) (Some (link 5)) ≡ false
unfolding row link
no_link = refl

shorter : same_row (Some (row 5)) (Some []) ≡ false
unfolding row
shorter = refl

no_row : same_row None (Some []) ≡ false
no_row = refl

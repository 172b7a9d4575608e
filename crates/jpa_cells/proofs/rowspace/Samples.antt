-- The definitions at a sample.
use Rattle.std.proofs.Common.{◌≡◌, refl, pos, [], ◌∷◌}
use Rattle.std.specs.Str.{is_utf8, chars}
use Rattle.std.proofs.lemmas.List.Elements.{All-cons, All-nil}
use Rattle.jpa_rows.specs.declared.rows.row.RowChange.{RowChange}
use Rattle.jpa_rows.specs.rows.Rows.{table_of, IsChangeBy, AreChanges}
use Rattle.jpa_rows.specs.rows.Statements.{statements_of}
use Rattle.jpa_cells.specs.rowspace.Stored.{stored_row, stored_rows, cell_change}
use Rattle.jpa_cells.specs.rowspace.Samples.{numbers, first, seven, adds_seven, shop, puts, number_row, person_row, order_row, first_rows}

row_is : stored_row (first, seven) ≡ record { row = 1 ∷ 128 ∷ 0 ∷ 0 ∷ 0 ∷ 0 ∷ 0 ∷ 0 ∷ 1 ∷ []; cells = record { column = pos 0; value = 1 ∷ 128 ∷ 0 ∷ 0 ∷ 0 ∷ 0 ∷ 0 ∷ 0 ∷ 7 ∷ [] } ∷ [] }
row_is = refl

change_is : cell_change adds_seven
    ≡ record { table = pos 1; row = 1 ∷ 128 ∷ 0 ∷ 0 ∷ 0 ∷ 0 ∷ 0 ∷ 0 ∷ 1 ∷ []; cells = record { column = pos 0; value = 1 ∷ 128 ∷ 0 ∷ 0 ∷ 0 ∷ 0 ∷ 0 ∷ 0 ∷ 7 ∷ [] } ∷ [] }
change_is = refl

two_statements : statements_of adds_seven ≡ 2
two_statements = refl

rows_are : stored_rows 1 ((first, seven) ∷ (record { table = 2; key = [] }, seven) ∷ []) ≡ stored_row (first, seven) ∷ []
rows_are = refl

pub is_change : AreChanges numbers (adds_seven ∷ [])
is_change = record {
  rising = tt;
  each = All-cons (λ (change : RowChange). IsChangeBy (table_of numbers (change.id).table) change) adds_seven []
      (record { named = refl; whole = record { rising = tt; each = refl }; filled = λ e. cc })
      (All-nil (λ (change : RowChange). IsChangeBy (table_of numbers (change.id).table) change));
}

-- ---- persons and orders

abbrev Fits : RowChange → Type 0
Fits change = IsChangeBy (table_of shop (change.id).table) change

numbers_fit : Fits (puts 0 (pos 1) number_row)
numbers_fit = record { named = refl; whole = record { rising = tt; each = refl }; filled = λ e. cc }

person_fits : Fits (puts 1 (pos 1) person_row)
unfolding is_utf8 chars lib.Utf8.encode
person_fits = record { named = refl; whole = record { rising = tt; each = refl }; filled = λ e. cc }

order_fits : Fits (puts 2 (pos 10) order_row)
unfolding is_utf8 chars lib.Utf8.encode
order_fits = record { named = refl; whole = record { rising = tt; each = refl }; filled = λ e. cc }

pub are_changes : AreChanges shop first_rows
are_changes = record {
  rising = tt;
  each = All-cons Fits (puts 0 (pos 1) number_row) (puts 1 (pos 1) person_row ∷ puts 2 (pos 10) order_row ∷ []) numbers_fit
      (All-cons Fits (puts 1 (pos 1) person_row) (puts 2 (pos 10) order_row ∷ []) person_fits
      (All-cons Fits (puts 2 (pos 10) order_row) [] order_fits (All-nil Fits)));
}

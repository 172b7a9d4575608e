-- Cells as pairs of a column and bytes.
use Rattle.std.proofs.Common.{◌≡◌, refl, ap, ℕ, ℤ, List, [], ◌∷◌, map}
use Rattle.jpa_rows.specs.rows.Rows.{Row, cells_of}
use Rattle.jpa_cells.specs.rowspace.Stored.{cell_of}
use Rattle.jpa_cells.specs.rowspace.Reading.{columns_of, cells_from}

pub spelled_cells : (row : Row) → cells_from (cells_of row) ≡ map cell_of row
spelled_cells [] = refl
spelled_cells (f ∷ row) = ap (λ l. cell_of f ∷ l) (spelled_cells row)

pub spelled_columns : (row : Row) → cells_of row ≡ columns_of (map cell_of row)
spelled_columns [] = refl
spelled_columns (f ∷ row) = ap (λ (l : List (ℤ × List ℕ)). ((cell_of f).column, (cell_of f).value) ∷ l) (spelled_columns row)

-- Cells are those of one list of rows.
use Rattle.std.specs.Prelude.{◌≡◌, ◌≢◌, ℕ, ℤ, List, [], ◌∷◌, Option, Some, None}
use Rattle.std.proofs.Common.{refl, sym, ap, subst, ◌∙◌, inl}
use Rattle.std.specs.FinMap.{find}
use Rattle.std.specs.Ordering.{int_cmp}
use Rattle.jpa_rows.specs.rows.Cells.{Cell}
use Rattle.jpa_rows.specs.laws.Entries.{read_by}
use Rattle.jpa_rows.proofs.laws.Facts.{some_none}
use Rattle.jpa_rows.proofs.laws.Maps.{same_answers}
use Rattle.jpa_rows.proofs.laws.Elements.{Has, SameElements, same_back, from_flat_map, into_flat_map, from_map, into_map, found_has, has_found, same_option}
use Rattle.jpa_rows.proofs.laws.Lists.{all_each}
use Rattle.jpa_object_rows.specs.meaning.Rows.{RowId, row_cmp, Columns, Row, Rows}
use Rattle.jpa_object_rows.specs.meaning.Flat.{cell_in, cells_of_row, cells_of, IsRow, IsNormal}
use Rattle.jpa_object_rows.proofs.meaning.Bytes.Orders.{row_ids, column_numbers}

-- ---- what stands in a column of a row

abbrev pub bytes_at : Rows → RowId → ℤ → Option (List ℕ)
bytes_at rows r column = read_by (find int_cmp column) (find row_cmp r rows)

abbrev row_of_cell : Cell → RowId
row_of_cell c = record { table = c.table; row = c.row }

pub cell_found : (rows : Rows) → IsNormal rows → (c : Cell) → Has (cells_of rows) c → bytes_at rows (row_of_cell c) c.column ≡ Some c.bytes
cell_found rows normal c h =
    let row = from_flat_map cells_of_row rows c h in
    let place = from_map (cell_in (row.0).0) (row.0).1 c row.2 in
    let here = has_found row_ids rows normal.rising (row.0).0 (row.0).1 row.1 in
    let there = has_found column_numbers (row.0).1 (all_each (λ (r : Row). IsRow r.1) rows normal.each row.0 row.1).rising (place.0).0 (place.0).1 place.1 in
    subst (λ (d : Cell). bytes_at rows (row_of_cell d) d.column ≡ Some d.bytes) place.2 (ap (read_by (find int_cmp (place.0).0)) here ∙ there)

pub found_cell : (rows : Rows) (r : RowId) (column : ℤ) (bytes : List ℕ) → bytes_at rows r column ≡ Some bytes → Has (cells_of rows) (cell_in r (column, bytes))
found_cell rows r column bytes e = by_row (find row_cmp r rows) refl e
  where
    by_row : (o : Option Columns) → find row_cmp r rows ≡ o → read_by (find int_cmp column) o ≡ Some bytes → Has (cells_of rows) (cell_in r (column, bytes))
    by_row None at e = absurd (some_none bytes (sym e))
    by_row (Some columns) at e =
        into_flat_map cells_of_row rows (r, columns) (cell_in r (column, bytes)) (found_has row_ids r columns rows at)
        (into_map (cell_in r) columns (column, bytes) (found_has column_numbers column bytes columns e))

bytes_there : (rows news : Rows) → IsNormal news → SameElements (cells_of rows) (cells_of news) → (r : RowId) (column : ℤ) (bytes : List ℕ) → bytes_at rows r column ≡ Some bytes → bytes_at news r column ≡ Some bytes
bytes_there rows news normal same r column bytes e = cell_found news normal (cell_in r (column, bytes)) ((same (cell_in r (column, bytes))).0 (found_cell rows r column bytes e))

-- ---- equal cells, equal rows

found_columns : (rows : Rows) → IsNormal rows → (r : RowId) (columns : Columns) → find row_cmp r rows ≡ Some columns → IsRow columns
found_columns rows normal r columns e = all_each (λ (row : Row). IsRow row.1) rows normal.each (r, columns) (found_has row_ids r columns rows e)

first_bytes : (columns : Columns) → columns ≢ [] → (place : ℤ × List ℕ) × Has columns place
first_bytes [] h = absurd (h refl)
first_bytes (place ∷ columns) h = (place, inl refl)

module _ (rows news : Rows) (normal : IsNormal rows) (news_normal : IsNormal news) (same : SameElements (cells_of rows) (cells_of news)) where
  same_columns : (r : RowId) (columns others : Columns) → find row_cmp r rows ≡ Some columns → find row_cmp r news ≡ Some others → columns ≡ others
  same_columns r columns others e f =
      same_answers column_numbers columns others (found_columns rows normal r columns e).rising (found_columns news news_normal r others f).rising
      (λ column. same_option (find int_cmp column columns) (find int_cmp column others)
      (λ bytes g. ap (read_by (find int_cmp column)) (sym f) ∙ bytes_there rows news news_normal same r column bytes (ap (read_by (find int_cmp column)) e ∙ g))
      (λ bytes g. ap (read_by (find int_cmp column)) (sym e) ∙ bytes_there news rows normal (same_back (cells_of rows) (cells_of news) same) r column bytes (ap (read_by (find int_cmp column)) f ∙ g)))

  row_there : (r : RowId) (columns : Columns) → find row_cmp r rows ≡ Some columns → find row_cmp r news ≡ Some columns
  row_there r columns e = by_row (find row_cmp r news) refl
    where
      by_row : (o : Option Columns) → find row_cmp r news ≡ o → find row_cmp r news ≡ Some columns
      by_row (Some others) f = f ∙ ap Some (sym (same_columns r columns others e f))
      by_row None f =
          let row = found_columns rows normal r columns e in
          let place = first_bytes columns row.filled in
          let here = has_found column_numbers columns row.rising (place.0).0 (place.0).1 place.1 in
          absurd (some_none (place.0).1 (sym (bytes_there rows news news_normal same r (place.0).0 (place.0).1 (ap (read_by (find int_cmp (place.0).0)) e ∙ here)) ∙ ap (read_by (find int_cmp (place.0).0)) f))

pub one_rows : (rows news : Rows) → IsNormal rows → IsNormal news → SameElements (cells_of rows) (cells_of news) → rows ≡ news
one_rows rows news normal news_normal same =
    same_answers row_ids rows news normal.rising news_normal.rising
    (λ r. same_option (find row_cmp r rows) (find row_cmp r news) (row_there rows news normal news_normal same r) (row_there news rows news_normal normal (same_back (cells_of rows) (cells_of news) same) r))

-- Changes over rows, as an overlay has them.
use Rattle.std.specs.Prelude.{◌≡◌, Bool, false, cond, T, All, List, [], ◌∷◌, map, Option, Some, None, IsSome}
use Rattle.std.specs.List.{flat_map}
use Rattle.std.specs.FinMap.{find, put, is_sorted}
use Rattle.jpa_value.specs.Value.{identity_cmp, same_identity}
use Rattle.jpa_rows.specs.declared.rows.row.RowChange.{RowChange}
use Rattle.jpa_rows.specs.rows.Rows.{RowId, Row, Rows, entry_of}
use Rattle.jpa_rows.specs.laws.Changes.{changed, seen}

-- a finite map from row ids to the rows that are to stand there, or to none, as entries in rising
-- order
abbrev pub Changes : Type 0
Changes = List (RowId × Option Row)

-- changes with one more, in the place of an earlier one of the row
abbrev pub with_change : RowId → Option Row → Changes → Changes
with_change id row changes = put identity_cmp id row changes

-- the rows as they are under the changes
abbrev pub rows_under : Changes → Rows → Rows
rows_under changes rows = seen identity_cmp rows changes

-- the rows with this one, or none, under the id
abbrev pub with_row : RowId → Option Row → Rows → Rows
with_row id row rows = changed identity_cmp id row rows

-- the first, over no rows, say of each row that the second change what stands there
abbrev pub Recalls : Changes → Changes → Rows → Type 0
Recalls stood changes rows = (id : RowId) → IsSome (find identity_cmp id changes) →
    find identity_cmp id (rows_under stood []) ≡ find identity_cmp id rows

-- they are in the order of their ids, and each is a change of these
pub record AreAmong (changes : Changes) (listed : List RowChange) : Type 0 where
  pub rising : T (is_sorted identity_cmp (map entry_of listed))
  pub among : All (λ change. find identity_cmp change.id changes ≡ Some change.row) listed

-- ---- the changes alone

-- a row under an id, where there is one
abbrev pub row_if : RowId → Option Row → Rows
row_if id None = []
row_if id (Some row) = (id, row) ∷ []

-- the rows that the changes put
abbrev pub rows_put : Changes → Rows
rows_put = flat_map (λ c. row_if c.0 c.1)

-- whether the first of the changes is of this row
abbrev pub stands_first : RowId → Changes → Bool
stands_first id [] = false
stands_first id (c ∷ cs) = same_identity c.0 id

-- the row under its id, or none where it is changed
abbrev pub row_unless : Bool → RowId → Row → Rows
row_unless changed id row = cond changed [] ((id, row) ∷ [])

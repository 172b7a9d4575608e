-- Where a row stands among rows.
use Rattle.std.specs.Prelude.{ℕ, Bool, not, List}
use Rattle.std.specs.Ordering.{is_lt}
use Rattle.jpa_cells.specs.declared.meaning.CellRow.{CellRow}
use Rattle.jpa_cells.specs.meaning.Tables.{key_cmp}

-- the row does not stand before the one of this key
abbrev pub is_from : List ℕ → CellRow → Bool
is_from key r = not (is_lt (key_cmp r.row key))

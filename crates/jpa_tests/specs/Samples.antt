-- The drop of person 1.
use Rattle.std.specs.Prelude.{pos, None}
use Rattle.jpa_rows.specs.declared.rows.row.RowChange.{RowChange}
use Rattle.jpa_cells.specs.rowspace.Samples.{key}

-- the change that drops the row of person 1
abbrev pub drops_person : RowChange
drops_person = record { id = record { table = 1; key = key (pos 1) }; row = None }

-- What a database holds, as far as a store of cells asks.
use Rattle.std.specs.Prelude.{◌≡◌, ◌≢◌, Bool, find, codes, Option, Some, None}
use Rattle.sqlite_schema.specs.Names.{same_name}
use Rattle.sqlite_schema.specs.declared.schema.Table.{Table}
use Rattle.sqlite_schema.specs.declared.schema.Schema.{Schema}
use Rattle.jpa_cells.specs.meaning.Schema.{cell_table, cell_schema, no_schema}
use Rattle.jpa_cells.specs.declared.cells.standing.Holding.{Holding}
use Rattle.jpa_cells.specs.declared.cells.standing.Holding.TheVariants as holding

-- its name is `cell`, in whatever case of its letters
abbrev pub has_name_cell : Table → Bool
has_name_cell table = same_name table.name (codes "cell")

-- the table of that name
abbrev pub table_cell : Schema → Option Table
table_cell schema = find has_name_cell schema.tables

-- the table of cells, in any tree
abbrev pub IsTableOfCells : Table → Type 0
IsTableOfCells table = table ≡ record cell_table { tree = table.tree }

-- what a schema holds: nothing; the table of cells and nothing else; that table and more; another table that is named
-- `cell`; or other things and no table of that name
abbrev pub Holds : Schema → Holding → Type 0
Holds schema holding.Nothing = schema ≡ no_schema
Holds schema holding.Cells = schema ≡ cell_schema
Holds schema holding.CellsAndMore =
    (schema ≢ cell_schema) × (table : Table) × (table_cell schema ≡ Some table) × IsTableOfCells table
Holds schema holding.OtherCell =
    (schema ≢ cell_schema) × (table : Table) × (table_cell schema ≡ Some table) × (IsTableOfCells table → ⊥)
Holds schema holding.Others = (schema ≢ no_schema) × (table_cell schema ≡ None)

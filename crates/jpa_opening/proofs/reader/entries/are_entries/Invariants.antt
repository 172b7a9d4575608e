use Rattle.std.proofs.Common.{take}
use Rattle.std.specs.List.{AllByRecursion}
use Rattle.jpa_rows.specs.rows.Rows.{table_of}
use Rattle.jpa_cells.specs.rowspace.Stored.{IsEntryBy}
use Rattle.jpa_opening.proofs.reader.entries.are_entries.Given as goal

abbrev pub invariant-loop-id : goal.invariant-loop-id
invariant-loop-id l = AllByRecursion (λ e. IsEntryBy (table_of l.schema (e.0).table) e) (take l.id-index l.rows)

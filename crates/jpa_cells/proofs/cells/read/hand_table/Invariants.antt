use Rattle.std.proofs.Common.{◌≡◌, []}
use Rattle.jpa_cells.proofs.meaning.Handing.{IsHanding}
use Rattle.jpa_cells.proofs.cells.read.hand_table.Given as goal

-- the rows that are whole were taken, and the last is begun
abbrev pub invariant-entries : goal.invariant-entries
invariant-entries g l = (l.rows.conn.ghost_name ≡ l.initial.rows.conn.ghost_name) × IsHanding g.S.Store g.K.CellSink.takes l.table l.fn.conn l.fn.sink l.rows.conn.now [] l.begun l.sink

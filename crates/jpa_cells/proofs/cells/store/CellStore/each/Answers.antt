use Rattle.std.proofs.Common.{subst, to_z-of_z}
use Rattle.std.specs.Prelude.{OnOk}
use Rattle.jpa_cells.specs.meaning.Tables.{AreRows}
use Rattle.jpa_cells.specs.meaning.Store.{Stored, IsStoreCause, HandsTable, tables_in}
use Rattle.jpa_cells.proofs.meaning.Handing.{rises}
use Rattle.jpa_cells.proofs.cells.store.CellStore.each.Goals as goal

pub returns-clause-handed : goal.returns-clause-handed
returns-clause-handed g c =
    subst (λ (o : Stored g.row.S.Denot). HandsTable g.S.Store g.K.CellSink.takes IsStoreCause c.args.table o.conn c.hand_table-answer.new.conn c.args.sink.now c.hand_table-answer.result c.hand_table-answer.new.sink) c.self.view_is
    (rw (to_z-of_z c.ranges.table) at c.hand_table-answer.ensures.handed)

pub returns-clause-rise : goal.returns-clause-rise
returns-clause-rise g c clean =
    subst (λ (o : Stored g.row.S.Denot). OnOk c.hand_table-answer.result (AreRows (tables_in g.S.Store o.conn c.args.table))) c.self.view_is
    (rises g.S.Store g.K.CellSink.takes c.args.table c.self.inside.conn c.args.sink.now c.hand_table-answer.new.conn c.hand_table-answer.result c.self.invariant.1 c.hand_table-answer.ensures.reads clean)

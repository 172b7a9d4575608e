use Rattle.std.proofs.Common.{◌≡◌, sym, ap, subst}
use Rattle.jpa_rows.specs.declared.rows.schema.Schema.{Schema}
use Rattle.jpa_cells.specs.meaning.Store.{Stored}
use Rattle.jpa_cells.specs.rowspace.Space.{Space, HoldsRows}
use Rattle.jpa_cells.proofs.rowspace.Holding.{clean_before, keeps_rows, each_held, each_some, crash_none}
use Rattle.jpa_cells.proofs.rowspace.Told.{counted}
use Rattle.jpa_cells.proofs.rowspace.space.RowSpaceRowReader.each.Goals as goal

pub returns-clause-handed : goal.returns-clause-handed
returns-clause-handed g c clean rows held =
    let old = c.args.self.now.store.conn in
    let new = c.each.new.self.store.conn in
    each_held g.S.Store c.args.self.now.schema c.args.table old new g.K.RowSink.takes c.args.sink.now c.each.new.sink c.each.result c.each.ensures.handed c.each.ensures.unknown
    (clean_before g.S.Store old new (λ _. ⊥) c.each.ensures.looks.store.crash) clean rows held

pub returns-clause-any : goal.returns-clause-any
returns-clause-any g c =
    each_some g.S.Store c.args.self.now.schema c.args.table c.args.self.now.store.conn c.each.new.self.store.conn g.K.RowSink.takes c.args.sink.now c.each.new.sink c.each.result c.each.ensures.handed c.each.ensures.unknown

pub returns-clause-looks : goal.returns-clause-looks
returns-clause-looks g c =
    let schema = c.args.self.now.schema in
    let old = c.args.self.now.store.conn in
    let new = c.each.new.self.store.conn in
    let same : c.each.new.self.schema ≡ schema = ap (λ (s : Space g.row.S.Denot). s.schema) c.each.ensures.looks.others in
    record {
      kept = λ rows held. subst (λ (schema : Schema). HoldsRows g.S.Store schema new rows) (sym same) (keeps_rows g.S.Store schema old new (λ _. ⊥) c.each.ensures.looks.store.kept c.each.ensures.looks.store.crash rows held);
      told = counted c.args.self.now.store.faults c.each.new.self.store.faults c.each.result c.each.ensures.looks.store.told;
      unwritten = ap (λ (s : Stored g.row.S.Denot). s.writes) c.each.ensures.looks.store.others;
      crash = crash_none g.S.Store schema old new c.each.ensures.looks.store.crash;
      was_clean = clean_before g.S.Store old new (λ _. ⊥) c.each.ensures.looks.store.crash;
      same = same;
    }

use Rattle.std.proofs.Common.{◌≡◌, sym, ap, subst}
use Rattle.jpa_rows.specs.declared.rows.schema.Schema.{Schema}
use Rattle.jpa_cells.specs.meaning.Store.{Stored}
use Rattle.jpa_cells.specs.rowspace.Space.{Space, HoldsRows}
use Rattle.jpa_cells.proofs.rowspace.Holding.{clean_before, keeps_rows, gets, gets_err, crash_none}
use Rattle.jpa_cells.proofs.rowspace.Told.{counted}
use Rattle.jpa_cells.proofs.rowspace.space.RowSpaceRowReader.get.Goals as goal

pub returns-clause-ok : goal.returns-clause-ok
returns-clause-ok g c clean =
    let old = c.args.self.now.store.conn in
    let new = c.get.new.self.store.conn in
    gets g.S.Store c.args.self.now.schema c.args.id.now old new c.get.result c.get.ensures.found (λ is. (c.get.ensures.unknown is).0) c.get.ensures.open
    (clean_before g.S.Store old new (λ _. ⊥) c.get.ensures.looks.store.crash) clean

pub returns-clause-err : goal.returns-clause-err
returns-clause-err g c clean =
    let old = c.args.self.now.store.conn in
    let new = c.get.new.self.store.conn in
    gets_err g.S.Store c.args.self.now.schema c.args.id.now old new c.get.result c.get.ensures.refused (λ is. (c.get.ensures.unknown is).0)
    (clean_before g.S.Store old new (λ _. ⊥) c.get.ensures.looks.store.crash) clean

pub returns-clause-looks : goal.returns-clause-looks
returns-clause-looks g c =
    let schema = c.args.self.now.schema in
    let old = c.args.self.now.store.conn in
    let new = c.get.new.self.store.conn in
    let same : c.get.new.self.schema ≡ schema = ap (λ (s : Space g.row.S.Denot). s.schema) c.get.ensures.looks.others in
    record {
      kept = λ rows held. subst (λ (schema : Schema). HoldsRows g.S.Store schema new rows) (sym same) (keeps_rows g.S.Store schema old new (λ _. ⊥) c.get.ensures.looks.store.kept c.get.ensures.looks.store.crash rows held);
      told = counted c.args.self.now.store.faults c.get.new.self.store.faults c.get.result c.get.ensures.looks.store.told;
      unwritten = ap (λ (s : Stored g.row.S.Denot). s.writes) c.get.ensures.looks.store.others;
      crash = crash_none g.S.Store schema old new c.get.ensures.looks.store.crash;
      was_clean = clean_before g.S.Store old new (λ _. ⊥) c.get.ensures.looks.store.crash;
      same = same;
    }

use Rattle.std.proofs.Common.{rules, ◌≡◌, ◌∙◌, ◌<◌, ◌^◌, sym, ap, subst}
use Rattle.std.specs.Prelude.{sum_by}
use Rattle.jpa_rows.specs.rows.Rows.{Rows, AreChanges, rows_after}
use Rattle.jpa_cells.specs.meaning.Tables.{tables_after}
use Rattle.jpa_cells.specs.meaning.Store.{Stored, Counts, IsOpen, tables_in, Endures}
use Rattle.jpa_cells.specs.cells.Calls.{Applies}
use Rattle.jpa_rows.specs.rows.Statements.{statements_of}
use Rattle.jpa_cells.specs.rowspace.Stored.{cell_changes}
use Rattle.jpa_cells.specs.rowspace.Space.{Space, HoldsRows, CommitsRows}
use Rattle.jpa_cells.proofs.rowspace.Holding.{applied, nothing_made, commits_ok, crash_rows}
use Rattle.jpa_cells.proofs.rowspace.Counts.{counts}
use Rattle.jpa_cells.proofs.rowspace.space.RowSpace.commit.Goals as goal

pub returns-clause-applies : goal.returns-clause-applies
returns-clause-applies g c =
    let changes = c.args.changes.now in
    let new = c.apply.new.self in
    let r = c.apply.result in
    let is : c.as_slice.result.now ≡ cell_changes changes = c.as_slice.ensures ∙ c.in_ok-made.ensures.ok in
    subst (λ (o : Space g.row.S.Denot). Applies g.S.Store (cell_changes changes) o.store new r) c.self.view_is
    (subst (λ cs. Applies g.S.Store cs c.self.inside.store new r) is c.apply.ensures.applies)

pub returns-clause-rows : goal.returns-clause-rows
returns-clause-rows g c =
    let changes = c.args.changes.now in
    let made = c.as_slice.result.now in
    let old = c.self.inside.store.conn in
    let new = c.apply.new.self.conn in
    let schema = c.self.inside.schema in
    let r = c.apply.result in
    let is : made ≡ cell_changes changes = c.as_slice.ensures ∙ c.in_ok-made.ensures.ok in
    let h : AreChanges schema changes = subst (λ (o : Space g.row.S.Denot). AreChanges o.schema changes) (sym c.self.view_is) c.requires in
    let e : Endures g.S.Store old new (λ tables. IsOpen g.S.Store old × (tables ≡ tables_after (cell_changes changes) (tables_in g.S.Store old))) =
    subst (λ cs. Endures g.S.Store old new (λ tables. IsOpen g.S.Store old × (tables ≡ tables_after cs (tables_in g.S.Store old)))) is c.apply.ensures.applies.crash in
    subst (λ (o : Space g.row.S.Denot). (rows : Rows) → HoldsRows g.S.Store o.schema o.store.conn rows → CommitsRows g.S.Store o.schema o.store.conn new (rows_after changes rows) r) c.self.view_is
    (λ rows held. record {
      holds = commits_ok g.S.Store schema old new (λ tables. IsOpen g.S.Store old × (tables ≡ tables_after (cell_changes changes) (tables_in g.S.Store old))) e r changes h
          (applied g.S.Store made changes is old new r c.apply.ensures.applies.applied)
          (nothing_made g.S.Store made changes is (λ none. ap (λ (s : Stored g.row.S.Denot). s.conn) (c.apply.ensures.nothing none).1)) rows held;
      crash = crash_rows g.S.Store schema changes h old new e rows held;
    })

pub returns-clause-counted : goal.returns-clause-counted
returns-clause-counted g c =
    let changes = c.args.changes.now in
    let made = c.as_slice.result.now in
    let old = c.self.inside.store.writes in
    let new = c.apply.new.self.writes in
    let is : made ≡ cell_changes changes = c.as_slice.ensures ∙ c.in_ok-made.ensures.ok in
    let small : old < 2 ^ 64 = search rules in
    subst (λ (o : Space g.row.S.Denot). Counts c.apply.result o.store.writes new (sum_by statements_of changes)) c.self.view_is
    (counts c.apply.result made changes old new small is c.apply.ensures.counted (λ none. let n = c.apply.ensures.nothing none in (n.0, ap (λ (s : Stored g.row.S.Denot). s.writes) n.1)))

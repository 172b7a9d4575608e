use Rattle.std.proofs.Common.{◌≡◌, ◌+◌, rules, sym, ap, subst, length}
use Rattle.std.specs.Prelude.{⊤, Result, Ok, Err, OnOk, OnErr}
use Rattle.jpa_value.specs.declared.refusal.Cause.{Cause}
use Rattle.jpa_rows.specs.declared.rows.schema.Schema.{Schema}
use Rattle.jpa_rows.specs.rows.Rows.{Rows, rows_after}
use Rattle.jpa_cells.specs.meaning.Tables.{tables_after}
use Rattle.jpa_cells.specs.meaning.Store.{Stored, up_to_greatest, IsOpen, tables_in}
use Rattle.jpa_cells.specs.rowspace.Stored.{cell_changes}
use Rattle.jpa_cells.specs.rowspace.Space.{Space, HoldsRows}
use Rattle.jpa_cells.proofs.rowspace.Holding.{keeps_err, crash_left}
use Rattle.jpa_cells.proofs.rowspace.Told.{told}
use Rattle.jpa_cells.proofs.rowspace.space.RowSpaceRowSource.commit.Goals as goal

if_accepted : (r : Result ⊤ Cause) (P Q : Type 0) → (P → OnOk r Q) → OnOk r (P → Q)
if_accepted (Ok _) P Q h = h
if_accepted (Err _) P Q h = tt

pub returns-clause-makes : goal.returns-clause-makes
returns-clause-makes g c rows =
    let old = c.args.self.now.store.conn in
    let new = c.commit.new.self.store.conn in
    let before = c.args.self.now.schema in
    let r = c.commit.result in
    let made = rows_after c.args.changes.now rows in
    let applies = c.commit.ensures.applies in
    let same : c.commit.new.self.schema ≡ before = ap (λ (s : Space g.row.S.Denot). s.schema) c.commit.ensures.others in
    record {
      done = subst (λ (schema : Schema). OnOk r (HoldsRows g.S.Store before old rows → HoldsRows g.S.Store schema new made)) (sym same)
          (if_accepted r (HoldsRows g.S.Store before old rows) (HoldsRows g.S.Store before new made) (λ held. (c.commit.ensures.rows rows held).holds));
      kept = subst (λ (schema : Schema). OnErr r ((rows : Rows) → HoldsRows g.S.Store before old rows → HoldsRows g.S.Store schema new rows)) (sym same)
          (keeps_err g.S.Store r before old new (λ tables. IsOpen g.S.Store old × (tables ≡ tables_after (cell_changes c.args.changes.now) (tables_in g.S.Store old))) applies.kept applies.crash);
      crash = λ held. crash_left g.S.Store before made old new (c.commit.ensures.rows rows held).crash;
      was_clean = search rules;
      same = same;
      unread = ap (λ (s : Stored g.row.S.Denot). up_to_greatest (s.row_selects + s.table_selects)) applies.others;
      unmade = ap (λ (s : Stored g.row.S.Denot). s.creates) applies.others;
      told = told c.args.self.now.store.faults c.commit.new.self.store.faults r applies.told;
    }

pub returns-clause-nothing : goal.returns-clause-nothing
returns-clause-nothing g c none = c.commit.ensures.nothing (ap length none)

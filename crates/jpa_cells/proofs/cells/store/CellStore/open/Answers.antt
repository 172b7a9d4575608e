use Rattle.std.proofs.Common.{rules, ◌≡◌, List, [], sym, subst}
use Rattle.sqlite.specs.Held.{state}
use Rattle.sqlite.proofs.StateLemmas.{survives_weaker}
use Rattle.jpa_cells.specs.meaning.Content.{Leaves}
use Rattle.jpa_cells.specs.meaning.Schema.{no_schema}
use Rattle.jpa_cells.specs.meaning.Store.{Stored}
use Rattle.jpa_cells.specs.meaning.Tables.{Tables}
use Rattle.jpa_cells.specs.cells.Calls.{EnduresMaking}
use Rattle.jpa_cells.proofs.cells.store.CellStore.open.Goals as goal

pub returns-then-is_empty_schema-clause-opened : goal.returns-then-is_empty_schema-clause-opened
returns-then-is_empty_schema-clause-opened g c =
    let empty : (state g.S.Store c.args.conn).now.schema ≡ no_schema = search rules in
    let made : Tables → Type 0 = λ tables. tables ≡ (λ t. []) in
    let made_there : Tables → Type 0 = λ tables. ((state g.S.Store c.args.conn).now.schema ≡ no_schema) × (tables ≡ (λ t. [])) in
    record {
      opens = search rules;
      crash = subst (λ (s : Stored g.row.S.Denot). EnduresMaking g.S.Store c.args.conn s.conn) (sym c.over.ensures)
          (survives_weaker (state g.S.Store c.args.conn) (state g.S.Store c.create.new.conn) (Leaves made) (Leaves made_there) (λ _ db l. (l.0, l.1, (empty, l.2), l.3)) c.create.ensures.crash);
    }

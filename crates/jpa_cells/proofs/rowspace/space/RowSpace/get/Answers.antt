use Rattle.std.proofs.Common.{rules, ◌≡◌, ◌⊎◌, subst, true, pos}
use Rattle.std.specs.Prelude.{Some, IfOk, IfErr, IfSome}
use Rattle.jpa_value.specs.declared.refusal.Cause.{Cause}
use Rattle.jpa_rows.specs.keys.Keys.{key_bytes}
use Rattle.jpa_rows.specs.rows.Rows.{is_key, table_of}
use Rattle.jpa_cells.specs.meaning.Tables.{cells_at}
use Rattle.jpa_cells.specs.meaning.Store.{IsClean, IsOpen, tables_in}
use Rattle.jpa_cells.specs.rowspace.Stored.{table_for}
use Rattle.jpa_cells.specs.rowspace.Reading.{IsFound, IsIllFormed}
use Rattle.jpa_cells.specs.rowspace.Space.{Space, IsStoreCause}
use Rattle.jpa_cells.proofs.rowspace.Answers.{got_found, got_refused}
use Rattle.jpa_cells.proofs.rowspace.space.RowSpace.get.Goals as goal

pub returns-then-is_key-clause-found : goal.returns-then-is_key-clause-found
returns-then-is_key-clause-found g c clean =
    let rule = c.in-Some.table.now in
    let id = c.args.id.now in
    let is : table_of c.self.inside.schema id.table ≡ Some rule = search rules in
    let named : is_key rule.key id.key ≡ true = search rules in
    subst (λ (o : Space g.row.S.Denot). IfOk c.row_under.result (λ found. IfSome (table_for o.schema id) (λ table. IsFound table (cells_at (key_bytes id.key) (tables_in g.S.Store o.store.conn (pos id.table))) found)))
    c.self.view_is
    (got_found c.self.inside.schema id rule is named (tables_in g.S.Store c.self.inside.store.conn) c.row_under.result (c.row_under.ensures.found clean))

pub returns-then-is_key-clause-refused : goal.returns-then-is_key-clause-refused
returns-then-is_key-clause-refused g c =
    let rule = c.in-Some.table.now in
    let id = c.args.id.now in
    let new = c.row_under.new.store.conn in
    let is : table_of c.self.inside.schema id.table ≡ Some rule = search rules in
    let named : is_key rule.key id.key ≡ true = search rules in
    subst (λ (o : Space g.row.S.Denot). IfErr c.row_under.result (λ cause. IsStoreCause cause ⊎ ((cause ≡ Cause.Damaged id.table (key_bytes id.key))
    × (IsClean g.S.Store new → IfSome (table_for o.schema id) (λ table. IsOpen g.S.Store o.store.conn × IsOpen g.S.Store new × IsIllFormed table (cells_at (key_bytes id.key) (tables_in g.S.Store o.store.conn (pos id.table))))))))
    c.self.view_is
    (got_refused c.self.inside.schema id rule is named (IsClean g.S.Store new) (IsOpen g.S.Store c.self.inside.store.conn) (IsOpen g.S.Store new) (tables_in g.S.Store c.self.inside.store.conn) c.row_under.result c.row_under.ensures.refused)

use Rattle.std.proofs.Common.{rules, ◌≡◌, ◌⊎◌, [], sym, subst, ℕ, pos, List}
use Rattle.std.specs.Prelude.{Some, IsErr, IsSome, IfSome, OnOk}
use Rattle.sqlite.specs.Held.{Held}
use Rattle.jpa_rows.specs.laws.Handing.{Hands}
use Rattle.jpa_rows.specs.declared.rows.schema.TableRule.{TableRule}
use Rattle.jpa_rows.specs.rows.Faults.{IsStoreCause}
use Rattle.jpa_rows.specs.rows.Rows.{table_of}
use Rattle.jpa_cells.specs.declared.meaning.CellRow.{CellRow}
use Rattle.jpa_cells.specs.meaning.Tables.{AreRows}
use Rattle.jpa_cells.specs.meaning.Store.{IsClean, IsOpen, tables_in}
use Rattle.jpa_cells.specs.rowspace.Reading.{ReadsRow}
use Rattle.jpa_cells.specs.rowspace.Space.{Space}
use Rattle.jpa_cells.proofs.rowspace.Answers.{rows_rise}
use Rattle.jpa_cells.proofs.rowspace.Ids.{numbered}
use Rattle.jpa_cells.proofs.rowspace.space.RowSpace.each.Goals as goal

pub returns-in-Some-clause-handed : goal.returns-in-Some-clause-handed
returns-in-Some-clause-handed g c =
    let rule = c.in-Some.rule.now in
    let n = c.args.table in
    let is : table_of c.self.inside.schema n ≡ Some rule = search rules in
    let Told : Held g.row.S.Denot → ℕ → TableRule → Type 0 = λ conn m r.
    (stored : List CellRow) × (IsClean g.S.Store c.each_under.new.store.conn → (IsOpen g.S.Store conn × (stored ≡ tables_in g.S.Store conn (pos m))) ⊎ (IsErr c.each_under.result × (stored ≡ [])))
    × Hands (ReadsRow g.K.RowSink.takes r) IsStoreCause c.args.sink.now stored c.each_under.result c.each_under.new.sink in
    subst (λ (o : Space g.row.S.Denot). IfSome (table_of o.schema n) (Told o.store.conn n)) c.self.view_is
    (subst (λ x. IfSome x (Told c.self.inside.store.conn n)) (sym is) (subst (λ m. Told c.self.inside.store.conn m rule) (numbered c.self.inside.schema n rule is) c.each_under.ensures.handed))

pub returns-in-Some-clause-rise : goal.returns-in-Some-clause-rise
returns-in-Some-clause-rise g c clean =
    let rule = c.in-Some.rule.now in
    let n = c.args.table in
    let is : table_of c.self.inside.schema n ≡ Some rule = search rules in
    subst (λ (o : Space g.row.S.Denot). OnOk c.each_under.result (IsSome (table_of o.schema n) → AreRows (tables_in g.S.Store o.store.conn (pos n)))) c.self.view_is
    (rows_rise c.self.inside.schema n rule is (tables_in g.S.Store c.self.inside.store.conn) c.each_under.result (c.each_under.ensures.rise clean))

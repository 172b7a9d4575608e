use Rattle.std.proofs.Common.{◌∙◌, sym, subst, rules, to_z-of_z}
use Rattle.jpa_cells.specs.meaning.Tables.{AreRows}
use Rattle.jpa_cells.proofs.meaning.Handing.{kept_table, kept_err, tells_err}
use Rattle.jpa_cells.proofs.cells.store.CellStore.table.Goals as goal

pub returns-in_err-each-clause-told : goal.returns-in_err-each-clause-told
returns-in_err-each-clause-told g c =
    tells_err c.each.result c.from_residual.result _ c.args.self.now.faults c.each.new.self.faults c.in_err-each.was (search rules)
    (kept_err (λ s. s.rows.items) g.S.Store c.args.table c.args.self.now.conn c.each.new.self.conn _ c.each.new.sink c.each.result _ c.in_err-each.was (rw (to_z-of_z c.ranges.table) at c.each.ensures.handed)) c.each.ensures.looks.told

pub returns-clause-found : goal.returns-clause-found
returns-clause-found g c clean =
    let rows =
    c.of.ensures ∙ kept_table (λ s. s.rows.items) g.S.Store c.args.table c.args.self.now.conn c.each.new.self.conn _ c.each.new.sink c.each.result _ c.in_ok-each.was c.new.ensures.items (rw (to_z-of_z c.ranges.table) at c.each.ensures.handed) clean in
    record { rows = rows; rise = subst AreRows (sym rows) (rw (to_z-of_z c.ranges.table) at (c.in_ok-each.ensures.rise clean)) }

use Rattle.std.specs.Prelude.{IfSome}
use Rattle.std.proofs.Common.{◌≡◌, ◌∙◌, sym, ap, subst, List}
use Rattle.jpa_behaviour.specs.Registered.{world_of}
use Rattle.jpa_rows.specs.declared.rows.schema.Schema.{Schema}
use Rattle.jpa_rows.specs.rows.Rows.{table_of}
use Rattle.jpa_cells.specs.declared.meaning.CellRow.{CellRow}
use Rattle.jpa_cells.specs.meaning.Tables.{AreRows}
use Rattle.jpa_cells.specs.rowspace.Reading.{AreRead}
use Rattle.jpa_cells.specs.rowspace.Space.{Space}
use Rattle.jpa_opening.specs.reader.Opened.{due_after}
use Rattle.jpa_opening.proofs.reader.OneTable.{reads_opened}
use Rattle.jpa_opening.proofs.reader.read.read_table.Goals as goal

pub returns-clause-opened : goal.returns-clause-opened
returns-clause-opened g c =
    let world = world_of g.B.Behaviour.meaning c.args.metamodel.now c.args.registry.now in
    let cells = c.in_ok-cells.ensures in
    let rows = c.in_ok-rows.ensures in
    let before = c.args.migration.now in
    let stored : List CellRow = c.into_vec-stored.result.items in
    let noted : c.note_due.new.migration ≡ record before { is_due = due_after world.model c.args.table stored before.is_due } =
    c.note_due.ensures ∙ ap (λ (rs : List CellRow). record before { is_due = due_after world.model c.args.table rs before.is_due }) c.as_slice.ensures.value in
    reads_opened g.S.Store world c.unit-unit.ensures.described c.args.history.now c.args.space.now c.cells.new.self c.args.table before c.note_due.new.migration c.opened_rows.new.migration stored c.in_ok-rows.rows.items
    c.in_ok-entries.field-0.0 c.in_ok-entries.field-0.1
    (λ clean. c.into_vec-stored.ensures ∙ (cells.found clean).rows) (λ clean. subst AreRows (sym c.into_vec-stored.ensures) (cells.found clean).rise) noted rows.rows rows.changes rows.due rows.none
    (subst (λ (s : Schema). IfSome (table_of s c.args.table) (λ rule. AreRead rule c.in_ok-rows.rows.items c.in_ok-entries.field-0.0 c.in_ok-entries.field-0.1)) (ap (λ (s : Space g.row.S.Denot). s.schema) cells.looks.others) c.in_ok-entries.ensures.read)
    c.in_ok-entries.ensures.rising cells.open

use Rattle.std.proofs.Common.{ap, refl, subst, ◌∙◌}
use Rattle.jpa_behaviour.specs.Served.{world_of_unit}
use Rattle.jpa_cells.specs.meaning.Store.{IsClean, Stored}
use Rattle.jpa_object_rows.specs.meaning.Sets.{rows_of}
use Rattle.jpa_rows.specs.rows.Tables.{schema_of}
use Rattle.jpa_cells.specs.rowspace.Space.{Space}
use Rattle.jpa_rows.specs.declared.rows.schema.Schema.{Schema}
use Rattle.jpa_cells.specs.rowspace.Stored.{AreRowsOf}
use Rattle.jpa_opening.proofs.reader.Standing.{named_rows}
use Rattle.jpa_questions.proofs.questions.Kept.{holds_over}
use Rattle.jpa_questions.proofs.questions.store.ask_store.Goals as goal

pub returns-clause-answer : goal.returns-clause-answer
returns-clause-answer g c clean set numbers holds =
    let world = world_of_unit g.B.Behaviour.meaning c.args.unit.now in
    let handed = c.into_connection.ensures.same ∙ ap (λ (r : Space g.row.S.Denot). (r.store).conn) c.space.view_is in
    let is_conn = ap (λ (s : Stored g.row.S.Denot). s.conn) c.in-Ok.ensures.same in
    let still = subst (IsClean g.S.Store) handed clean in
    let held = holds_over g.S.Store (schema_of world.model) c.args.conn c.in-Ok.space (rows_of world set numbers) c.in-Ok.ensures.schema is_conn holds.rows in
    c.ask-answer.ensures.answer still set numbers
    (record {
      rows = rows_of world set numbers;
      rising = (held.whole (c.ask-answer.ensures.looks.was_clean still)).rising;
      held = held;
      of = record { held = holds.held; same = refl };
    })

pub returns-clause-whole : goal.returns-clause-whole
returns-clause-whole g c clean none rows holds =
    let world = world_of_unit g.B.Behaviour.meaning c.args.unit.now in
    let handed = c.into_connection.ensures.same ∙ ap (λ (r : Space g.row.S.Denot). (r.store).conn) c.space.view_is in
    let is_conn = ap (λ (s : Stored g.row.S.Denot). s.conn) c.in-Ok.ensures.same in
    let still = subst (IsClean g.S.Store) handed clean in
    let held = holds_over g.S.Store (schema_of world.model) c.args.conn c.in-Ok.space rows c.in-Ok.ensures.schema is_conn holds in
    let named : AreRowsOf (schema_of world.model) rows = subst (λ (k : Schema). AreRowsOf k rows) c.in-Ok.ensures.schema (held.whole (c.ask-answer.ensures.looks.was_clean still)) in
    c.ask-answer.ensures.whole still none
    (record {
      rows = rows;
      rising = named.rising;
      held = held;
      named = named_rows (schema_of world.model) rows named;
    })

use Rattle.std.proofs.Common.{sym}
use Rattle.jpa_open.specs.Opened as opened
use Rattle.jpa_cascade.proofs.Rows.{row_class}
use Rattle.jpa_cascade.proofs.view.members_now.Goals as goal

pub is_held_by-requires-clause-other : goal.is_held_by-requires-clause-other
is_held_by-requires-clause-other c = row_class c.args.metamodel.now (opened.now c.args.work.now.view) c.in-Some.id c.in-Some-get.row.now c.requires.placed.view (sym c.in-Some-get.ensures)

pub members-requires : goal.members-requires
members-requires c = record { class = row_class c.args.metamodel.now (opened.now c.args.work.now.view) c.in-Some.id c.in-Some-get.row.now c.requires.placed.view (sym c.in-Some-get.ensures) }

use Rattle.std.proofs.Common.{sym}
use Rattle.jpa_open.specs.Opened as opened
use Rattle.jpa_cascade.proofs.Rows.{row_class}
use Rattle.jpa_cascade.proofs.targets.push_bare_targets.Goals as goal

pub relations_of-relations-requires : goal.relations_of-relations-requires
relations_of-relations-requires c = row_class c.args.metamodel.now (opened.now c.args.work.now.view) c.args.id.now c.in-Some.row.now c.requires.placed.view (sym c.in-Some.ensures)

pub members-requires : goal.members-requires
members-requires c = record { class = row_class c.args.metamodel.now (opened.now c.args.work.now.view) c.args.id.now c.in-Some.row.now c.requires.placed.view (sym c.in-Some.ensures) }

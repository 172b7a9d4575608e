use Rattle.jpa_work.specs.context.Undo.{now}
use Rattle.jpa_operations.proofs.fetch.Loaded.{row_class}
use Rattle.jpa_operations.proofs.fetch.finding.found_row.Goals as goal

-- the set is shaped
pub is_kind_of-requires-clause-class : goal.is_kind_of-requires-clause-class
is_kind_of-requires-clause-class g c = row_class c.args.unit.now.metamodel (now c.args.work.now).view c.args.id.now c.args.row c.requires.ready.placed.view c.requires.row

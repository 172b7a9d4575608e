use Rattle.std.specs.Prelude.{is_some}
use Rattle.std.proofs.Common.{ap, ◌∙◌}
use Rattle.jpa_opening.proofs.reader.Said.{joins_as_found}
use Rattle.jpa_opening.proofs.reader.owners.is_join.Goals as goal

pub returns-in-Some : goal.returns-in-Some
returns-in-Some c = ap is_some c.in-Some.ensures.class ∙ joins_as_found c.args.metamodel.now c.args.table

pub returns-in-None : goal.returns-in-None
returns-in-None c = ap is_some c.in-None.ensures.class ∙ joins_as_found c.args.metamodel.now c.args.table

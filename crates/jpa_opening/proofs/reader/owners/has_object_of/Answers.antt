use Rattle.jpa_opening.proofs.reader.Said.{class_found}
use Rattle.jpa_opening.proofs.reader.owners.has_object_of.Goals as goal

pub is_kind_of-requires-clause-class : goal.is_kind_of-requires-clause-class
is_kind_of-requires-clause-class c = class_found c.args.metamodel.now c.args.set.now c.args.id.now c.in-Some.object.now c.requires.classes c.in-Some.ensures

use Rattle.std.proofs.Common.{◌≡◌, ◌++◌, map, drop}
use Rattle.jpa_model.specs.Described.{relation_of}
use Rattle.jpa_description.proofs.description.describe.relations_of.Given as goal

abbrev pub invariant-loop-relation : goal.invariant-loop-relation
invariant-loop-relation l =
    l.found ++ map (relation_of l.draft) (drop l.relation-index l.relations) ≡ map (relation_of l.draft) l.relations

use Rattle.std.proofs.Common.{◌≡◌, ◌++◌, drop, map}
use Rattle.jpa_object_rows.specs.mapper.Guess.{links_in}
use Rattle.jpa_object_rows.proofs.mapper.guess.owned_in.Given as goal

abbrev pub invariant-loop-relation : goal.invariant-loop-relation
invariant-loop-relation l = l.owned ++ map (links_in l.metamodel l.row) (drop l.relation-index l.relations) ≡ map (links_in l.metamodel l.row) l.relations

use Rattle.std.proofs.Common.{◌≡◌, ◌++◌, drop, map}
use Rattle.jpa_behaviour.specs.Registered as registered
use Rattle.jpa_object_rows.specs.mapper.Guess.{attribute_in}
use Rattle.jpa_object_rows.proofs.mapper.guess.values_in.Given as goal

abbrev pub invariant-loop-attribute : goal.invariant-loop-attribute
invariant-loop-attribute g l =
    l.values ++ map (attribute_in (registered.attribute_in g.B.Behaviour.meaning l.registry) l.row) (drop l.attribute-index l.attributes)
    ≡ map (attribute_in (registered.attribute_in g.B.Behaviour.meaning l.registry) l.row) l.attributes

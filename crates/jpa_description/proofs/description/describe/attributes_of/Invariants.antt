use Rattle.std.proofs.Common.{◌≡◌, ◌++◌, map, drop}
use Rattle.jpa_model.specs.Described.{attribute_of}
use Rattle.jpa_description.proofs.description.describe.attributes_of.Given as goal

abbrev pub invariant-loop-attribute : goal.invariant-loop-attribute
invariant-loop-attribute l = l.found ++ map attribute_of (drop l.attribute-index l.attributes) ≡ map attribute_of l.attributes

use Rattle.std.proofs.Common.{◌≡◌, ◌++◌, map, drop}
use Rattle.jpa_value.specs.declared.value.Value.{Value}
use Rattle.jpa_work.proofs.heap.create.unset_values.Given as goal

abbrev pub invariant-loop-attribute : goal.invariant-loop-attribute
invariant-loop-attribute l = l.values ++ map (λ a. Value.Null) (drop l._attribute-index l.attributes) ≡ map (λ a. Value.Null) l.attributes

use Rattle.std.proofs.Common.{◌≡◌, ◌++◌, take}
use Rattle.std.specs.Prelude.{map}
use Rattle.std.specs.List.{zip}
use Rattle.jpa_model.specs.declared.unit.Attribute.{Attribute}
use Rattle.jpa_lifecycle.specs.Callbacks.{named}
use Rattle.jpa_lifecycle.proofs.seeing.push_attributes.Given as goal

abbrev pub invariant-loop-i : goal.invariant-loop-i
invariant-loop-i l = l.values ≡ l.fn.values ++ named (zip (map (λ (a : Attribute). a.name) l.attributes) (take l.i l.held))

use Rattle.std.proofs.Common.{◌≡◌, ◌++◌, take}
use Rattle.std.specs.Prelude.{map}
use Rattle.std.specs.List.{zip}
use Rattle.jpa_model.specs.Chains.{part_name}
use Rattle.jpa_lifecycle.specs.Callbacks.{named}
use Rattle.jpa_lifecycle.proofs.seeing.push_key.Given as goal

abbrev pub invariant-loop-i : goal.invariant-loop-i
invariant-loop-i l = l.values ≡ l.fn.values ++ named (zip (map (part_name l.root) l.root.key) (take l.i l.key))

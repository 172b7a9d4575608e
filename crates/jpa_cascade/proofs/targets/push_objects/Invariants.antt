use Rattle.std.proofs.Common.{◌≡◌, ◌++◌, drop, map}
use Rattle.jpa_cascade.specs.declared.Node.{Node}
use Rattle.jpa_cascade.proofs.targets.push_objects.Given as goal

abbrev pub invariant-loop-object : goal.invariant-loop-object
invariant-loop-object l = l.found.items ++ map Node.Live (drop l.object-index l.objects) ≡ l.initial.found.items ++ map Node.Live l.objects

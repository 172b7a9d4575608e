use Rattle.std.proofs.Common.{take}
use Rattle.jpa_behaviour.specs.Registered.{world_of}
use Rattle.jpa_opening.proofs.reader.Built.{IsBuilt}
use Rattle.jpa_opening.proofs.reader.objects.objects_of.Given as goal

abbrev pub invariant-loop-place : goal.invariant-loop-place
invariant-loop-place g l = IsBuilt (world_of g.B.Behaviour.meaning l.metamodel l.registry) l.rows (take l.place l.rows) l.set

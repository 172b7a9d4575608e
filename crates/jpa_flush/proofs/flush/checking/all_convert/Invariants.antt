use Rattle.std.proofs.Common.{◌≡◌, drop}
use Rattle.jpa_behaviour.specs.Served.{world_of_unit}
use Rattle.jpa_flush.proofs.flush.Converts.{pairs_convert}
use Rattle.jpa_flush.proofs.flush.checking.all_convert.Given as goal

abbrev pub invariant-loop-i : goal.invariant-loop-i
invariant-loop-i g l =
    let world = world_of_unit g.B.Behaviour.meaning l.unit in
    pairs_convert world l.attributes l.values
    ≡ pairs_convert world (drop l.i l.attributes) (drop l.i l.values)

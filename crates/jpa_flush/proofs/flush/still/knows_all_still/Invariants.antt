use Rattle.std.proofs.Common.{◌≡◌, drop, map}
use Rattle.jpa_work.specs.context.Undo.{now}
use Rattle.jpa_flush.specs.flush.Flush.{held_now}
use Rattle.jpa_flush.specs.flush.Plan.{same_members}
use Rattle.jpa_flush.proofs.flush.still.knows_all_still.Given as goal

abbrev pub invariant-loop-i : goal.invariant-loop-i
invariant-loop-i l =
    let read = held_now l.metamodel (now l.work) in
    same_members l.members (map read l.relations) ≡ same_members (drop l.i l.members) (map read (drop l.i l.relations))

use Rattle.std.proofs.Common.{◌≡◌, ◌++◌, drop, map}
use Rattle.jpa_work.specs.context.Undo.{now}
use Rattle.jpa_flush.specs.flush.Flush.{held_now}
use Rattle.jpa_flush.proofs.flush.held.members_held.Given as goal

abbrev pub invariant-loop-held : goal.invariant-loop-held
invariant-loop-held l =
    let read = held_now l.metamodel (now l.work) in
    l.members ++ map read (drop l.held-index l.relations) ≡ map read l.relations

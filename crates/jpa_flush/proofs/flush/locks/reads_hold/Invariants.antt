use Rattle.std.proofs.Common.{◌≡◌, drop}
use Rattle.std.specs.List.{list_all}
use Rattle.jpa_work.specs.context.Undo.{now}
use Rattle.jpa_flush.specs.flush.Flush.{read_holds}
use Rattle.jpa_flush.specs.flush.Marked.{from}
use Rattle.jpa_flush.proofs.flush.locks.reads_hold.Given as goal

abbrev pub invariant-loop-place : goal.invariant-loop-place
invariant-loop-place l =
    let w = now l.work in
    list_all (read_holds l.metamodel w) (drop (from l.places l.place-index) w.context) ≡ list_all (read_holds l.metamodel w) w.context

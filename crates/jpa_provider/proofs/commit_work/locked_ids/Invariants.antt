use Rattle.std.proofs.Common.{◌≡◌, ◌++◌, drop}
use Rattle.std.specs.List.{flat_map}
use Rattle.jpa_work.specs.context.Undo.{now}
use Rattle.jpa_flush.specs.flush.Marked.{from}
use Rattle.jpa_machine.specs.machine.Transactions.{read_along}
use Rattle.jpa_provider.proofs.commit_work.locked_ids.Given as goal

abbrev pub invariant-loop-place : goal.invariant-loop-place
invariant-loop-place l =
    let w = now l.work in
    l.locked ++ flat_map (read_along l.metamodel w) (drop (from l.places l.place-index) w.context) ≡ flat_map (read_along l.metamodel w) w.context

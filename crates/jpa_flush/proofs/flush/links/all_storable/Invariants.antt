use Rattle.std.proofs.Common.{◌≡◌, ℕ, drop}
use Rattle.std.specs.List.{list_all}
use Rattle.jpa_work.specs.context.Undo.{now}
use Rattle.jpa_work.specs.context.Work.{state_of}
use Rattle.jpa_flush.specs.flush.Flush.{is_storable}
use Rattle.jpa_flush.proofs.flush.links.all_storable.Given as goal

abbrev pub invariant-loop-object : goal.invariant-loop-object
invariant-loop-object l =
    let storable = λ (k : ℕ). is_storable (state_of (now l.work) k) in
    list_all storable (drop l.object-index l.objects) ≡ list_all storable l.objects

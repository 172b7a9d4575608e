use Rattle.std.proofs.Common.{◌≡◌, drop}
use Rattle.std.specs.List.{list_all}
use Rattle.jpa_work.specs.declared.context.Entry.{Entry}
use Rattle.jpa_work.specs.context.Undo.{now}
use Rattle.jpa_flush.specs.flush.Marked.{from, is_linked_if_managed}
use Rattle.jpa_flush.proofs.flush.walking.are_linked.Given as goal

abbrev pub invariant-loop-place : goal.invariant-loop-place
invariant-loop-place l =
    let w = now l.work in
    let linked = λ (e : Entry). is_linked_if_managed l.metamodel w e.object in
    list_all linked (drop (from l.places l.place-index) w.context) ≡ list_all linked w.context

use Rattle.std.proofs.Common.{◌≡◌, drop}
use Rattle.std.specs.List.{list_all}
use Rattle.jpa_work.specs.declared.context.Entry.{Entry}
use Rattle.jpa_work.specs.context.Undo.{now}
use Rattle.jpa_flush.specs.flush.Marked.{from, has_no_orphan}
use Rattle.jpa_flush.proofs.flush.walking.are_without_orphans.Given as goal

abbrev pub invariant-loop-place : goal.invariant-loop-place
invariant-loop-place l =
    let w = now l.work in
    let none = λ (e : Entry). has_no_orphan l.metamodel w e.object in
    list_all none (drop (from l.places l.place-index) w.context) ≡ list_all none w.context

use Rattle.std.proofs.Common.{◌≡◌, drop}
use Rattle.std.specs.Prelude.{◌||◌}
use Rattle.std.specs.List.{list_all}
use Rattle.jpa_work.specs.declared.context.Entry.{Entry}
use Rattle.jpa_work.specs.context.Marks.{is_marked}
use Rattle.jpa_work.specs.context.Undo.{now}
use Rattle.jpa_flush.specs.flush.Marked.{is_linked_if_managed}
use Rattle.jpa_flush.proofs.marking.committed.are_linked.Given as goal

abbrev pub invariant-loop-entry : goal.invariant-loop-entry
invariant-loop-entry l =
    let linked = λ (e : Entry). is_marked l.marks e.object || is_linked_if_managed l.metamodel (now l.work) e.object in
    list_all linked (drop l.entry-index l.entries) ≡ list_all linked l.entries

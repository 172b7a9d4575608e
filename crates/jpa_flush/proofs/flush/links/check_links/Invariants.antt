use Rattle.std.proofs.Common.{◌≡◌, drop}
use Rattle.std.specs.List.{list_all}
use Rattle.jpa_work.specs.context.Undo.{now}
use Rattle.jpa_flush.specs.flush.Flush.{links_stored}
use Rattle.jpa_flush.proofs.flush.links.check_links.Given as goal

abbrev pub invariant-loop-entry : goal.invariant-loop-entry
invariant-loop-entry l =
    let w = now l.work in
    list_all (links_stored l.metamodel w) (drop l.entry-index w.context) ≡ list_all (links_stored l.metamodel w) w.context

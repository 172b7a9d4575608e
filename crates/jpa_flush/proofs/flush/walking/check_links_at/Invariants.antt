use Rattle.std.proofs.Common.{◌≡◌, drop}
use Rattle.std.specs.List.{list_all}
use Rattle.jpa_work.specs.context.Undo.{now}
use Rattle.jpa_flush.specs.flush.Flush.{links_stored}
use Rattle.jpa_flush.specs.flush.Marked.{from}
use Rattle.jpa_flush.proofs.flush.walking.check_links_at.Given as goal

abbrev pub invariant-loop-place : goal.invariant-loop-place
invariant-loop-place l =
    let w = now l.work in
    list_all (links_stored l.metamodel w) (drop (from l.places l.place-index) w.context) ≡ list_all (links_stored l.metamodel w) w.context

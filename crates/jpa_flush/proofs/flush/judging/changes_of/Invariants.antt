use Rattle.std.proofs.Common.{◌≡◌, take, map}
use Rattle.jpa_flush.specs.flush.Changes.{place_of, places_of}
use Rattle.jpa_flush.proofs.flush.judging.changes_of.Given as goal

abbrev pub invariant-loop-object : goal.invariant-loop-object
invariant-loop-object l = map place_of l.changes.items ≡ places_of (take l.object-index l.written)

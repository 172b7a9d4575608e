use Rattle.std.proofs.Common.{◌≡◌, map, take}
use Rattle.jpa_open.specs.Opened as opened
use Rattle.jpa_updates.specs.Changing.{place_in, place_of}
use Rattle.jpa_updates.proofs.places.changes_at.Given as goal

abbrev pub invariant-loop-id : goal.invariant-loop-id
invariant-loop-id l = map place_of l.changes.items ≡ map (place_in (opened.now l.view)) (take l.id-index l.ids)

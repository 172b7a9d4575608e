use Rattle.std.proofs.Common.{◌≡◌, map, take}
use Rattle.jpa_open.specs.Opened as opened
use Rattle.jpa_updates.specs.Changing.{name_of, place_in, place_of}
use Rattle.jpa_updates.proofs.places.changes_at_objects.Given as goal

abbrev pub invariant-loop-object : goal.invariant-loop-object
invariant-loop-object l = map place_of l.changes.items ≡ map (place_in (opened.now l.view)) (map name_of (take l.object-index l.objects))

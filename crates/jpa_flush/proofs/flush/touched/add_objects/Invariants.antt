use Rattle.jpa_flush.specs.flush.Touched.{HasPlaceOf}
use Rattle.jpa_flush.proofs.flush.Prefix.{Before}
use Rattle.jpa_flush.specs.flush.Touched.{Keeps}
use Rattle.jpa_flush.proofs.flush.touched.add_objects.Given as goal

abbrev pub invariant-loop-note : goal.invariant-loop-note
invariant-loop-note l = record {
  kept : Keeps l.fn.places.keys l.places.keys;
  added : Before (λ o. HasPlaceOf l.work.context.now l.places.keys o.0) l.note-index l.noted;
}

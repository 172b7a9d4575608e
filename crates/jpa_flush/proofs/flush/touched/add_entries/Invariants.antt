use Rattle.std.proofs.Common.{◌≡◌, true}
use Rattle.jpa_work.specs.context.Marks.{is_listed}
use Rattle.jpa_flush.proofs.flush.Prefix.{Before}
use Rattle.jpa_flush.specs.flush.Touched.{Keeps}
use Rattle.jpa_flush.proofs.flush.touched.add_entries.Given as goal

abbrev pub invariant-loop-note : goal.invariant-loop-note
invariant-loop-note l = record {
  kept : Keeps l.fn.places.keys l.places.keys;
  added : Before (λ o. is_listed l.places.keys o.0 ≡ true) l.note-index l.noted;
}

use Rattle.std.proofs.Common.{◌≡◌, ℕ, true}
use Rattle.std.specs.Prelude.{◌⊎◌}
use Rattle.jpa_work.specs.context.Marks.{is_listed}
use Rattle.jpa_flush.specs.flush.Touched.{HasPlaceOf}
use Rattle.jpa_flush.specs.flush.Touched.{Keeps}
use Rattle.jpa_flush.proofs.flush.touched.add_marked.Given as goal

abbrev pub invariant-loop-object : goal.invariant-loop-object
invariant-loop-object l = record {
  kept : Keeps l.fn.places.keys l.places.keys;
  added : (n : ℕ) → is_listed (l.work.context.marks).objects n ≡ true → HasPlaceOf l.work.context.now l.places.keys n ⊎ (is_listed l.object-iterator n ≡ true);
}

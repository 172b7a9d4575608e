use Rattle.std.proofs.Common.{◌≡◌, ◌≤◌, ◌<◌, ℕ, true}
use Rattle.jpa_work.specs.context.Marks.{is_listed}
use Rattle.jpa_flush.specs.flush.Touched.{Keeps}
use Rattle.jpa_flush.proofs.flush.touched.add_from.Given as goal

abbrev pub invariant-loop-place : goal.invariant-loop-place
invariant-loop-place l = record {
  kept : Keeps l.fn.places.keys l.places.keys;
  added : (k : ℕ) → l.first ≤ k → k < l.place → is_listed l.places.keys k ≡ true;
}

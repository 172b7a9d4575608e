use Rattle.std.proofs.Common.{◌≡◌, ◌<◌, ℕ, length, get_or}
use Rattle.jpa_flush.proofs.flush.touched.each_below.Given as goal

-- each place so far stands at itself
abbrev pub invariant-loop-place : goal.invariant-loop-place
invariant-loop-place l = record {
  count : length l.found ≡ l.place;
  each : (k : ℕ) → k < l.place → get_or l.found k 0 ≡ k;
}

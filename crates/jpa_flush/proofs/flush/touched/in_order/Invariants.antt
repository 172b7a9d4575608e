use Rattle.std.proofs.Common.{◌≡◌, ◌++◌}
use Rattle.std.specs.Prelude.{nat_lt}
use Rattle.std.specs.List.{filter}
use Rattle.jpa_flush.proofs.flush.touched.in_order.Given as goal

abbrev pub invariant-loop-place : goal.invariant-loop-place
invariant-loop-place l = l.found ++ filter (λ p. nat_lt p l.len) l.place-iterator ≡ filter (λ p. nat_lt p l.len) l.places.keys

use Rattle.std.proofs.Common.{◌<◌, get_or, arith}
use Rattle.std.specs.Prelude.{◌==◌}
use Rattle.std.proofs.lemmas.Bool.{eq-eqb}
use Rattle.std.proofs.lemmas.List.Folds.{list_any_at}
use Rattle.jpa_flush.proofs.flush.touched.each_below.Goals as goal

pub returns-clause-all : goal.returns-clause-all
returns-clause-all c = λ k first l.
    let found = c.loop-place.found in
    let within : k < c.loop-place.place = omega (arith, l, c.loop-place-test.false) in
    list_any_at (λ p. p == k) found k 0 (omega (arith, within, c.loop-place.invariant.count)) (eq-eqb (get_or found k 0) k (c.loop-place.invariant.each k within))

use Rattle.std.proofs.Common.{◌≡◌, map}
use Rattle.std.specs.Prelude.{◌==◌}
use Rattle.std.specs.List.{list_any, range_with_len}
use Rattle.jpa_model.proofs.lineage.kinds_of.Given as goal

abbrev pub invariant-loop-above : goal.invariant-loop-above
invariant-loop-above l = l.kinds ≡ map (λ above. list_any (λ c. c == above) l.chain) (range_with_len 0 l.above)

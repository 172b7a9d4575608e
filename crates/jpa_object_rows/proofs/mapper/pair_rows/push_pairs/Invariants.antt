use Rattle.std.proofs.Common.{◌≡◌, ◌++◌, map, take}
use Rattle.jpa_object_rows.specs.meaning.Objects.{as_pairs, pair_id}
use Rattle.jpa_object_rows.proofs.mapper.pair_rows.push_pairs.Given as goal

abbrev pub invariant-loop-target : goal.invariant-loop-target
invariant-loop-target l = l.rows ≡ l.fn.rows ++ as_pairs (map (pair_id l.join l.owner) (take l.target-index l.targets))

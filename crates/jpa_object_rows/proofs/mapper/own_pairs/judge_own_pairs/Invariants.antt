use Rattle.std.proofs.Common.{take}
use Rattle.jpa_object_rows.specs.mapper.Own.{OwnAreOnes}
use Rattle.jpa_object_rows.proofs.mapper.own_pairs.judge_own_pairs.Given as goal

abbrev pub invariant-loop-row : goal.invariant-loop-row
invariant-loop-row l = OwnAreOnes l.metamodel l.class l.owner (take l.row-index l.rows)

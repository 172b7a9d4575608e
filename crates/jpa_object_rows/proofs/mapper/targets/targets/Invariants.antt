use Rattle.std.proofs.Common.{◌≡◌, ◌++◌, drop}
use Rattle.jpa_object_rows.proofs.mapper.Walk.{leading}
use Rattle.jpa_object_rows.proofs.mapper.targets.targets.Given as goal

abbrev pub invariant-loop-row : goal.invariant-loop-row
invariant-loop-row l = l.found ++ leading l.join l.table l.key (drop l.row-index l.row-items) ≡ leading l.join l.table l.key l.row-items

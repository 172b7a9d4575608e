use Rattle.std.proofs.Common.{◌≡◌, false, take}
use Rattle.jpa_stored.specs.ordered.Values.{has_column}
use Rattle.jpa_stored.proofs.ordered.column.has_column.Given as goal

-- none of those so far
abbrev pub invariant-loop-column : goal.invariant-loop-column
invariant-loop-column l = has_column (take l.column-index l.columns) l.class l.member l.number ≡ false

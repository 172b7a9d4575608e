use Rattle.std.proofs.Common.{◌≡◌, ◌++◌, drop}
use Rattle.jpa_description.proofs.history.apart.push_dropped.Given as goal

abbrev pub invariant-loop-column : goal.invariant-loop-column
invariant-loop-column l = l.columns.items ++ drop l.column-index l.dropped ≡ l.fn.columns.items ++ l.dropped

use Rattle.std.proofs.Common.{◌≡◌, ◌++◌}
use Rattle.jpa_open.proofs.sharing.shared_entries.Given as goal

abbrev pub invariant-loop-entry : goal.invariant-loop-entry
invariant-loop-entry l = (l.list.items ≡ l.yielded) × (l.fn.entries.items ≡ l.yielded ++ l.entry-iterator.rest.items)

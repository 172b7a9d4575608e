use Rattle.std.proofs.Common.{◌≡◌, ◌++◌}
use Rattle.jpa_opening.proofs.reader.read.append.Given as goal

abbrev pub invariant-more : goal.invariant-more
invariant-more l = (l.rows ≡ l.fn.rows ++ l.yielded) × (l.fn.more.items ≡ l.yielded ++ l.entry-iterator.rest.items)

use Rattle.std.proofs.Common.{◌≡◌, length}
use Rattle.jpql_grammar.specs.grammar.Lists as spec
use Rattle.jpql_text.proofs.text.Spreading.{left_of}
use Rattle.jpql_text.proofs.text.lists.spread.Given as goal

abbrev pub invariant-loop-token : goal.invariant-loop-token
invariant-loop-token l = spec.spread l.fn.lists l.fn.tokens.items ≡ left_of l.lists l.before l.found.items l.left.items

abbrev pub decreases-loop-token : goal.decreases-loop-token
decreases-loop-token l = length l.left.items

use Rattle.std.proofs.Common.{◌≡◌, length}
use Rattle.jpql_grammar.specs.declared.grammar.lists.Before.{Before}
use Rattle.jpql_grammar.specs.grammar.Lists.{stands_from}
use Rattle.jpql_text.proofs.text.lists.stands.Given as goal

abbrev pub invariant-loop-left : goal.invariant-loop-left
invariant-loop-left l = stands_from l.name Before.Other l.fn.tokens ≡ stands_from l.name l.before l.left

abbrev pub decreases-loop-left : goal.decreases-loop-left
decreases-loop-left l = length l.left

use Rattle.std.proofs.Common.{◌≡◌, ◌++◌}
use Rattle.jpql_grammar.specs.grammar.Lists.{values_of}
use Rattle.jpql_text.proofs.text.lists.add_values.Given as goal

abbrev pub invariant-loop-before : goal.invariant-loop-before
invariant-loop-before l = l.found.items ≡ l.fn.found.items ++ values_of l.list.name l.before

use Rattle.std.proofs.Common.{◌≡◌, [], length, ◌-◌}
use Rattle.jpql_grammar.specs.grammar.Values.{names_at}
use Rattle.jpql_grammar.proofs.conditions.steps.names.Given as goal

abbrev pub invariant-loop-turn : goal.invariant-loop-turn
invariant-loop-turn l = names_at (length l.fn.tokens) [] l.fn.tokens ≡ names_at (l._turn-end - l._turn) l.found l.rest

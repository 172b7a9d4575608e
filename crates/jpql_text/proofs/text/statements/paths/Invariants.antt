use Rattle.std.proofs.Common.{◌≡◌, ◌-◌}
use Rattle.jpql_grammar.specs.grammar.Values.{list_at, others_at, path_at}
use Rattle.jpql_text.proofs.text.statements.paths.Given as goal

abbrev pub invariant-loop-turn : goal.invariant-loop-turn
invariant-loop-turn l = list_at path_at l.fn.tokens ≡ others_at path_at (l._turn-end - l._turn) l.found l.rest

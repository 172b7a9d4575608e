use Rattle.std.proofs.Common.{◌≡◌, ◌-◌}
use Rattle.jpql_grammar.specs.grammar.Values.{list_at, others_at}
use Rattle.jpql_grammar.specs.grammar.Statements.{assignment_at}
use Rattle.jpql_text.proofs.text.statements.assignments.Given as goal

abbrev pub invariant-loop-turn : goal.invariant-loop-turn
invariant-loop-turn l = list_at (assignment_at l.fn.depth) l.fn.tokens ≡ others_at (assignment_at l.depth) (l._turn-end - l._turn) l.found l.rest

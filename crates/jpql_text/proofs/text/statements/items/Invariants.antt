use Rattle.std.proofs.Common.{◌≡◌, ◌-◌}
use Rattle.jpql_grammar.specs.grammar.Values.{list_at, others_at}
use Rattle.jpql_grammar.specs.grammar.Conditions.{item_at}
use Rattle.jpql_text.proofs.text.statements.items.Given as goal

abbrev pub invariant-loop-turn : goal.invariant-loop-turn
invariant-loop-turn l = list_at (item_at l.fn.depth) l.fn.tokens ≡ others_at (item_at l.depth) (l._turn-end - l._turn) l.found l.rest

use Rattle.std.proofs.Common.{◌≡◌, ◌≤◌, ◌+◌, length}
use Rattle.jpql_grammar.specs.grammar.Nesting.{past_close}
use Rattle.jpql_grammar.proofs.conditions.lookahead.behind_close.Given as goal

-- what was passed closes nothing that was open before it
abbrev pub invariant-loop-turn : goal.invariant-loop-turn
invariant-loop-turn l = record {
  deep : l.depth ≤ l._turn;
  long : length l.rest + l._turn ≡ length l.tokens;
  left : past_close 0 l.tokens ≡ past_close l.depth l.rest;
}

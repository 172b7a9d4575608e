use Rattle.std.proofs.Common.{◌≡◌, ◌-◌, [], length, IsUtf8}
use Rattle.jpql_grammar.specs.grammar.Lexing.{tokens_at}
use Rattle.jpql_grammar.proofs.lexer.pieces.cut.Given as goal

abbrev pub invariant-loop-turn : goal.invariant-loop-turn
invariant-loop-turn l = (tokens_at l.fn.language (length l.fn.text) [] l.fn.text ≡ tokens_at l.fn.language (l._turn-end - l._turn) l.found.items l.rest) × IsUtf8 l.rest

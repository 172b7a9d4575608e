use Rattle.std.proofs.Common.{◌≡◌, length, false, IsUtf8}
use Rattle.std.specs.String.{string_bytes}
use Rattle.jpql_grammar.specs.grammar.Lexing.{quoted_at, with_front}
use Rattle.jpql_grammar.proofs.lexer.pieces.quoted.Given as goal

abbrev pub invariant-loop-plain : goal.invariant-loop-plain
invariant-loop-plain l = (quoted_at false l.fn.text ≡ with_front (string_bytes l.found) (quoted_at false l.rest)) × IsUtf8 l.rest

abbrev pub decreases-loop-plain : goal.decreases-loop-plain
decreases-loop-plain l = length l.rest

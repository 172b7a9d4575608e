use Rattle.std.proofs.Common.{◌≡◌, drop}
use Rattle.jpql_grammar.specs.grammar.Text.{first_keyword}
use Rattle.jpql_grammar.proofs.lexer.keywords.first_keyword.Given as goal

abbrev pub invariant-loop-keyword : goal.invariant-loop-keyword
invariant-loop-keyword l = first_keyword l.keywords l.word ≡ first_keyword (drop l.keyword-index l.keywords) l.word

use Rattle.std.proofs.Common.{sym, ◌∙◌}
use Rattle.jpql_grammar.proofs.grammar.Words.{keyword_stays, keyword_else}
use Rattle.jpql_grammar.proofs.lexer.keywords.wide_keyword.Goals as goal

pub returns-in-Some : goal.returns-in-Some
returns-in-Some c = sym (keyword_stays c.args.word.now c.in-Some.keyword (sym c.in-Some.ensures))

pub returns-in-None : goal.returns-in-None
returns-in-None c = c.first_keyword.ensures ∙ sym (keyword_else c.args.word.now (sym c.in-None.ensures))

use Rattle.std.proofs.Common.{◌∙◌}
use Rattle.jpql_grammar.proofs.grammar.Tools.{same_keyword_turned}
use Rattle.jpql_grammar.proofs.grammar.token.Keyword.is.Goals as goal

pub returns : goal.returns
returns c = c.eq.ensures ∙ same_keyword_turned c.args.other c.args.self

use Rattle.jpql_grammar.proofs.grammar.Queries.{one_list}
use Rattle.jpql_grammar.proofs.lexer.pieces.at_most_one_list.Goals as goal

pub returns : goal.returns
returns c = one_list

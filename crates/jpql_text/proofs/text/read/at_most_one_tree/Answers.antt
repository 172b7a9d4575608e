use Rattle.jpql_grammar.proofs.grammar.Queries.{one_query}
use Rattle.jpql_text.proofs.text.read.at_most_one_tree.Goals as goal

pub returns : goal.returns
returns c = one_query

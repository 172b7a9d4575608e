use Rattle.jpql_grammar.proofs.grammar.Words.{query_stays}
use Rattle.jpql_text.proofs.text.read.a_profile_text_is_wide.Goals as goal

pub returns : goal.returns
returns c = query_stays

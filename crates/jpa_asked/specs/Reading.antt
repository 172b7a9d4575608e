-- Reading the text of a query, as a function: the tree of a text of the grammar, and the limits of
-- a text (Jakarta Persistence 3.1, chapter 4).
use Rattle.jpa_value.specs.Limits.{most_query_bytes, most_open_parentheses, most_query_variables}
use Rattle.std.specs.Prelude.{Bool, true, false, not, nat_le, ◌&&◌, List, [], length, Option, Some, None}
use Rattle.jpql_grammar.specs.declared.grammar.lists.GivenList.{GivenList}
use Rattle.jpql_grammar.specs.declared.grammar.token.Token.{Token}
use Rattle.jpql_trees.specs.declared.tree.Language.{Language}
use Rattle.jpql_trees.specs.declared.tree.Query.{Query}
use Rattle.jpql_trees.specs.tree.Names.{Text}
use Rattle.jpql_grammar.specs.grammar.Lexing.{tokens_at}
use Rattle.jpql_grammar.specs.grammar.Limits.{nests_over}
use Rattle.jpql_grammar.specs.grammar.Lists.{are_used}
use Rattle.jpql_trees.specs.tree.Steps.{◌>>=◌}
use Rattle.jpql_trees.specs.tree.Variables.{declared_variables}
use Rattle.jpql_text.specs.text.Answers.{statement_in}
use Rattle.jpql_text.specs.text.Together.{are_few}

-- the tokens of a text in the language
abbrev pub tokens_in : Language → Text → Option (List Token)
tokens_in l text = tokens_at l (length text) [] text

-- the tree of a text of the language's grammar, where collections are handed in for these parameters
abbrev pub query_of : Language → List GivenList → Text → Option Query
query_of l lists text = tokens_in l text >>= statement_in l lists

-- whether each list stands behind IN in these tokens; so it is where there are none
abbrev pub are_used_in : List GivenList → Option (List Token) → Bool
are_used_in lists None = true
are_used_in lists (Some tokens) = are_used lists tokens

-- whether lists become few enough values in these tokens, together, and their words CASE are few
-- enough; so it is where there are none
abbrev pub are_few_in : List GivenList → Option (List Token) → Bool
are_few_in lists None = true
are_few_in lists (Some tokens) = are_few lists tokens

-- the text is not too long, and its parentheses do not nest too deep
abbrev pub is_short : Text → Bool
is_short text = nat_le (length text) most_query_bytes && not (nests_over most_open_parentheses false 0 text)

-- the same, and lists do not become too many values in it, and it has not too many words CASE
abbrev pub is_within : Language → List GivenList → Text → Bool
is_within l lists text = is_short text && are_few_in lists (tokens_in l text)

-- a text of the grammar does not declare too many variables
abbrev pub declares_few : Option Query → Bool
declares_few None = true
declares_few (Some q) = nat_le (declared_variables q) most_query_variables

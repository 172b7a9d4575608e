-- How much there may be in a text's tokens: values that collections become (chapter 4.6.9), each of which
-- stands for the parameter wherever that one stands behind IN, so that a short text can say a long list
-- often; and words CASE, which nest without a parenthesis (chapter 4.7.4).
use Rattle.std.specs.Prelude.{ℕ, suc, ◌+◌, Bool, ◌&&◌, nat_le, List, [], ◌∷◌, Option, Some, None, if◌then◌else◌}
use Rattle.jpql_grammar.specs.declared.grammar.lists.Before.{Before}
use Rattle.jpql_grammar.specs.declared.grammar.lists.GivenList.{GivenList}
use Rattle.jpql_grammar.specs.declared.grammar.token.Keyword.TheVariants as k
use Rattle.jpql_grammar.specs.declared.grammar.token.Mark.TheVariants as m
use Rattle.jpql_grammar.specs.declared.grammar.token.Token.{Token}
use Rattle.jpql_trees.specs.tree.Steps.{◌>>=◌}
use Rattle.jpql_grammar.specs.grammar.Lists.{list_named, lone_parameter, behind}
use Rattle.jpql_grammar.specs.grammar.Values.{is_key, sees}

-- the most values of one collection that is handed in for a parameter
abbrev pub most_list_values : ℕ
most_list_values = 4096

-- the most values that all collections become in one text, together
abbrev pub most_values_together : ℕ
most_values_together = 65536

-- how many values a list has, if there is one
abbrev pub count_of : Option GivenList → ℕ
count_of None = 0
count_of (Some l) = l.count

-- how many values of a list stand in a token's place; the flag says that a parenthesis closes right
-- after it
abbrev pub values_for : List GivenList → Before → Token → Bool → ℕ
values_for lists before x closes = count_of (lone_parameter before x closes >>= list_named lists)

-- the same of all tokens, behind what stands before them
unfoldable pub values_from : List GivenList → Before → List Token → ℕ
values_from lists before [] = 0
values_from lists before (x ∷ rest) =
    values_for lists before x (sees m.Close rest) + values_from lists (behind before x) rest

-- how many values lists become in a text's tokens, counted at each place where one stands behind IN
abbrev pub values_together : List GivenList → List Token → ℕ
values_together lists tokens = values_from lists Before.Other tokens

-- whether they are few enough
abbrev pub become_few : List GivenList → List Token → Bool
become_few lists tokens = nat_le (values_together lists tokens) most_values_together

-- the most words CASE in one text
abbrev pub most_cases : ℕ
most_cases = 64

-- how many words CASE tokens have
unfoldable pub cases_in : List Token → ℕ
cases_in [] = 0
cases_in (x ∷ rest) = if is_key k.Case x then suc (cases_in rest) else cases_in rest

-- whether they are few enough
abbrev pub has_few_cases : List Token → Bool
has_few_cases tokens = nat_le (cases_in tokens) most_cases

-- whether a text's tokens are within both limits
abbrev pub are_few : List GivenList → List Token → Bool
are_few lists tokens = become_few lists tokens && has_few_cases tokens

-- Collections behind IN: what a text is read as, where they are handed in.
use Rattle.std.proofs.Common.{◌≡◌, Bool, true, false, List, [], ◌∷◌, length, Option, Some, None, refl, codes, arith}
use Rattle.std.proofs.lemmas.Fmt.{decimal_digit}
use Rattle.jpql_trees.specs.declared.tree.Language.{Language}
use Rattle.jpql_trees.specs.declared.tree.Language.TheVariants as language
use Rattle.jpql_grammar.specs.declared.grammar.lists.GivenList.{GivenList}
use Rattle.jpql_grammar.specs.declared.grammar.token.Token.{Token}
use Rattle.jpql_trees.specs.declared.tree.Comparison.TheVariants as c
use Rattle.jpql_trees.specs.declared.tree.Condition.{Condition}
use Rattle.jpql_trees.specs.declared.tree.Condition.TheVariants as is
use Rattle.jpql_trees.specs.declared.tree.Value.{Value}
use Rattle.jpql_trees.specs.declared.tree.Value.TheVariants as v
use Rattle.jpql_trees.specs.tree.Names.{Text}
use Rattle.jpql_trees.specs.tree.Steps.{◌>>=◌}
use Rattle.jpql_grammar.specs.grammar.Text.{keyword_of}
use Rattle.jpql_grammar.specs.grammar.Lexing as lexing
use Rattle.jpql_grammar.specs.grammar.Lexing.{run, quoted_at, digits_at, quotes_at, named_at, numbered_at, mark_at, piece_at, tokens_at}
use Rattle.jpql_grammar.specs.grammar.Lists.{value_name, spread_from, spread, stands_from, are_used}
use Rattle.jpql_grammar.specs.grammar.Values as values
use Rattle.jpql_grammar.specs.grammar.Values.{variable_at, name_at, names_at, path_at, list_at, others_at, closed, sided_at, unsided_at, trimming_at, trim_at, call_at, atom_at, unary_at, times_at, product_at, sums_at, level_at, value_at, comparison_at, compared_at, among_at, worded_at, tested_at}
use Rattle.jpql_grammar.specs.grammar.Conditions.{value_tested_at, follows_at, valued_at, simple_at, cond_at}

abbrev tokens : Language → Text → Option (List Token)
tokens l said = tokens_at l (length said) [] said

-- a test as it is read, where collections are handed in
abbrev read : List GivenList → Text → Option (Condition × List Token)
read lists said = tokens language.Wide said >>= spread lists >>= simple_at 4 (cond_at 4)

-- whether each of them stands behind IN
abbrev uses : List GivenList → Text → Option Bool
uses lists said = tokens language.Wide said >>= λ ts. Some (are_used lists ts)

-- p with two values, and with none
abbrev two : List GivenList
two = record { name = codes "p"; count = 2 } ∷ []

abbrev none : List GivenList
none = record { name = codes "p"; count = 0 } ∷ []

abbrev n : Value
n = v.Path (record { variable = codes "n"; names = [] })

-- the first two values of a list
abbrev both : Text → List Value
both name = v.Parameter (value_name name 1) ∷ v.Parameter (value_name name 2) ∷ []

first_name : value_name (codes "p") 1 ≡ codes "p,1"
first_name = rw (decimal_digit 1 (omega arith)) refl

bare_list : read two (codes "n IN :p") ≡ Some (is.In n (both (codes "p")), [])
unfolding run named_at mark_at piece_at tokens_at keyword_of lexing.word_at values.word_at variable_at name_at names_at path_at list_at others_at closed atom_at unary_at times_at product_at sums_at level_at value_at among_at worded_at tested_at value_tested_at follows_at valued_at simple_at spread_from
bare_list = refl

list_in_parentheses : read two (codes "n NOT IN (:p)") ≡ Some (is.Not (is.In n (both (codes "p"))), [])
unfolding run named_at mark_at piece_at tokens_at keyword_of lexing.word_at values.word_at variable_at name_at names_at path_at list_at others_at closed atom_at unary_at times_at product_at sums_at level_at value_at among_at worded_at tested_at value_tested_at follows_at valued_at simple_at spread_from
list_in_parentheses = refl

numbered_list : read (record { name = codes "1"; count = 2 } ∷ []) (codes "n IN ?1") ≡ Some (is.In n (both (codes "1")), [])
unfolding run named_at numbered_at mark_at piece_at tokens_at keyword_of lexing.word_at values.word_at variable_at name_at names_at path_at list_at others_at closed atom_at unary_at times_at product_at sums_at level_at value_at among_at worded_at tested_at value_tested_at follows_at valued_at simple_at spread_from
numbered_list = refl

-- no values: nothing is among them
empty_list : read none (codes "n IN :p") ≡ Some (is.In n [], [])
unfolding run named_at mark_at piece_at tokens_at keyword_of lexing.word_at values.word_at variable_at name_at names_at path_at list_at others_at closed atom_at unary_at times_at product_at sums_at level_at value_at among_at worded_at tested_at value_tested_at follows_at valued_at simple_at spread_from
empty_list = refl

empty_in_parentheses : read none (codes "n NOT IN (:p)") ≡ Some (is.Not (is.In n []), [])
unfolding run named_at mark_at piece_at tokens_at keyword_of lexing.word_at values.word_at variable_at name_at names_at path_at list_at others_at closed atom_at unary_at times_at product_at sums_at level_at value_at among_at worded_at tested_at value_tested_at follows_at valued_at simple_at spread_from
empty_in_parentheses = refl

-- a parameter that is no list is a value, and stands in parentheses
plain_in_parentheses : read [] (codes "n IN (:p)") ≡ Some (is.In n (v.Parameter (codes "p") ∷ []), [])
unfolding run named_at mark_at piece_at tokens_at keyword_of lexing.word_at values.word_at variable_at name_at names_at path_at list_at others_at closed atom_at unary_at times_at product_at sums_at level_at value_at among_at worded_at tested_at value_tested_at follows_at valued_at simple_at spread_from
plain_in_parentheses = refl

plain_bare : read [] (codes "n IN :p") ≡ None
unfolding run named_at mark_at piece_at tokens_at keyword_of lexing.word_at values.word_at variable_at name_at names_at path_at list_at others_at closed atom_at unary_at times_at product_at sums_at level_at value_at among_at worded_at tested_at value_tested_at follows_at valued_at simple_at spread_from
plain_bare = refl

-- beside other values, and at other places, a list doesn't stand for its values
among_others : read two (codes "n IN (:p, :q)") ≡ Some (is.In n (v.Parameter (codes "p") ∷ v.Parameter (codes "q") ∷ []), [])
unfolding run named_at mark_at piece_at tokens_at keyword_of lexing.word_at values.word_at variable_at name_at names_at path_at list_at others_at closed atom_at unary_at times_at product_at sums_at level_at value_at among_at worded_at tested_at value_tested_at follows_at valued_at simple_at spread_from
among_others = refl

compared : read two (codes "n = :p") ≡ Some (is.Compare c.Equal n (v.Parameter (codes "p")), [])
unfolding run named_at mark_at piece_at tokens_at keyword_of lexing.word_at values.word_at variable_at name_at names_at path_at list_at others_at closed atom_at unary_at times_at product_at sums_at level_at value_at comparison_at compared_at tested_at value_tested_at follows_at valued_at simple_at spread_from
compared = refl

-- parentheses with nothing in them are no text, in both languages
written_in_wide : (tokens language.Wide (codes "n IN ()") >>= spread two) ≡ None
unfolding run mark_at piece_at tokens_at keyword_of lexing.word_at spread_from
written_in_wide = refl

written_in_profile : (tokens language.Profile (codes "n IN ()") >>= spread []) ≡ None
unfolding run mark_at piece_at tokens_at keyword_of lexing.word_at spread_from
written_in_profile = refl

-- ---- whether a list is used

used_bare : uses none (codes "n IN :p") ≡ Some true
unfolding run named_at mark_at piece_at tokens_at keyword_of lexing.word_at stands_from
used_bare = refl

used_in_parentheses : uses none (codes "n IN (:p)") ≡ Some true
unfolding run named_at mark_at piece_at tokens_at keyword_of lexing.word_at stands_from
used_in_parentheses = refl

used_elsewhere : uses none (codes "n = :p") ≡ Some false
unfolding run named_at mark_at piece_at tokens_at keyword_of lexing.word_at stands_from
used_elsewhere = refl

-- A value beside the rows of a subquery in each of its forms: the derivation of a text, its tree, and what is read.
use Rattle.std.proofs.Common.{rules, ◌≡◌, true, false, List, [], ◌∷◌, length, Option, Some, None, refl, codes}
use Rattle.jpql_trees.specs.declared.tree.Language.{Language}
use Rattle.jpql_trees.specs.declared.tree.Language.TheVariants as language
use Rattle.jpql_grammar.specs.declared.grammar.token.Token.{Token}
use Rattle.jpql_trees.specs.declared.tree.Aggregate.TheVariants as g
use Rattle.jpql_trees.specs.declared.tree.Against.TheVariants as against
use Rattle.jpql_trees.specs.declared.tree.Comparison.TheVariants as c
use Rattle.jpql_trees.specs.declared.tree.Value.{Value}
use Rattle.jpql_trees.specs.declared.tree.Value.TheVariants as v
use Rattle.jpql_trees.specs.declared.tree.Origin.TheVariants as from
use Rattle.jpql_trees.specs.declared.tree.Condition.{Condition}
use Rattle.jpql_trees.specs.declared.tree.Condition.TheFolds as condition
use Rattle.jpql_trees.specs.declared.tree.Condition.TheVariants as is
use Rattle.jpql_trees.specs.declared.tree.Block.{Block, roll-Block}
use Rattle.jpql_trees.specs.declared.tree.Source.{Source, roll-Source}
use Rattle.jpql_trees.specs.declared.tree.Query.{Query}
use Rattle.jpql_trees.specs.declared.tree.Query.TheVariants as q
use Rattle.jpql_trees.specs.tree.Names.{Text}
use Rattle.jpql_trees.specs.tree.Steps.{◌>>=◌}
use Rattle.jpql_grammar.specs.grammar.Parts.{plain, every, any, some}
use Rattle.jpql_grammar.specs.grammar.ValueGrammar.{Value°, sum, no_sums, product, no_times, unsigned, path}
use Rattle.jpql_grammar.specs.grammar.Nesting.{past_close}
use Rattle.jpql_grammar.specs.grammar.Grammar.{entity, Test°, quantified, among_rows, scalar_right, scalar_left, Sub°, sub, Scalar°, scalar, Source°, source, no_sources, no_joins, no_where, write_test, test_tree}
use Rattle.jpql_grammar.specs.grammar.Values.{variable_at, name_at, names_at, path_at, list_at, others_at, closed, atom_at, unary_at, times_at, product_at, sums_at, level_at, value_at, comparison_at, compared_at, tested_at}
use Rattle.jpql_grammar.specs.grammar.Conditions.{value_tested_at, quantifier_at, aggregate_at, operand_at, aggregated_at, opposed_at, named_at, optional_name_at, item_at, origin_at, clause_at, joins_at, source_at, ranges_at, block_at, scalar_at, subquery_at, enclosed_at, against_at, scalar_first_at, beside_at, among_rows_at, follows_at, valued_at, simple_at, test_at, not_at, ands_at, and_at, ors_at, cond_level_at, cond_at}
use Rattle.jpql_grammar.specs.grammar.Text.{keyword_of}
use Rattle.jpql_grammar.specs.grammar.Lexing as lexing
use Rattle.jpql_grammar.specs.grammar.Lexing.{run, mark_at, piece_at, tokens_at}
use Rattle.jpql_grammar.specs.grammar.Values as values
use Rattle.jpql_grammar.specs.grammar.Statements.{by_at, select_at, statement_at, whole_at}
use Rattle.jpql_grammar.specs.grammar.Queries.{speaks}

abbrev tokens : Language → Text → Option (List Token)
tokens l said = tokens_at l (length said) [] said

abbrev read : Text → Option (Condition × List Token)
read said = tokens language.Wide said >>= cond_at 4

-- the text is of this derivation and tree, and is read so
abbrev Says : Text → Test° → Condition → Type 0
Says said d tree =
    (tokens language.Wide said ≡ Some (write_test d [])) × (test_tree d ≡ tree) × (read said ≡ Some (tree, []))

-- a and b as values
abbrev variable : Text → Value°
variable w = sum (product (unsigned (path (record { variable = w; names = [] }))) no_times) no_sums

abbrev a° : Value°
a° = variable (codes "a")

abbrev a : Value
a = v.Path (record { variable = codes "a"; names = [] })

abbrev b : Value
b = v.Path (record { variable = codes "b"; names = [] })

-- E b
abbrev e° : Source°
e° = source (entity (plain (codes "E")) (record { as_word = None; name = codes "b" })) no_joins

-- SELECT b FROM E b
abbrev rows° : Sub°
rows° = sub (codes "SELECT") None (record { value = variable (codes "b"); name = None }) (codes "FROM") e° no_sources no_where

abbrev rows : Block
rows = roll-Block (record {
  is_distinct = false;
  item = record { value = b; name = None };
  sources = roll-Source (record { origin = from.Entity (codes "E"); variable = codes "b"; joins = [] }) ∷ [];
  filter = None;
})

-- SELECT MAX(b) FROM E b
abbrev most° : Scalar°
most° = scalar (codes "SELECT") g.Max (codes "MAX") None (variable (codes "b")) (codes "FROM") e° no_sources no_where

-- SELECT COUNT(DISTINCT b) FROM E b
abbrev count° : Scalar°
count° = scalar (codes "SELECT") g.Count (codes "COUNT") (Some (codes "DISTINCT")) (variable (codes "b")) (codes "FROM") e° no_sources no_where

in_rows : Says (codes "a IN (SELECT b FROM E b)") (among_rows a° None (codes "IN") rows°) (is.Rows against.Any c.Equal a rows)
unfolding run mark_at piece_at tokens_at keyword_of lexing.word_at variable_at name_at names_at path_at list_at others_at closed values.word_at atom_at unary_at times_at product_at sums_at level_at value_at named_at optional_name_at item_at origin_at clause_at joins_at source_at ranges_at block_at subquery_at among_rows_at follows_at valued_at simple_at test_at not_at ands_at and_at ors_at cond_level_at cond_at
in_rows = (refl, refl, refl)

not_in_rows : Says (codes "a NOT IN (SELECT b FROM E b)") (among_rows a° (Some (codes "NOT")) (codes "IN") rows°) (is.Not (is.Rows against.Any c.Equal a rows))
unfolding run mark_at piece_at tokens_at keyword_of lexing.word_at variable_at name_at names_at path_at list_at others_at closed values.word_at atom_at unary_at times_at product_at sums_at level_at value_at named_at optional_name_at item_at origin_at clause_at joins_at source_at ranges_at block_at subquery_at among_rows_at follows_at valued_at simple_at test_at not_at ands_at and_at ors_at cond_level_at cond_at
not_in_rows = (refl, refl, refl)

all_rows : Says (codes "a >= ALL (SELECT b FROM E b)") (quantified a° c.AtLeast (every (codes "ALL")) rows°) (is.Rows against.All c.AtLeast a rows)
unfolding run mark_at piece_at tokens_at keyword_of lexing.word_at variable_at name_at names_at path_at list_at others_at closed values.word_at atom_at unary_at times_at product_at sums_at level_at value_at comparison_at quantifier_at named_at optional_name_at item_at origin_at clause_at joins_at source_at ranges_at block_at subquery_at against_at beside_at follows_at valued_at simple_at test_at not_at ands_at and_at ors_at cond_level_at cond_at
all_rows = (refl, refl, refl)

any_row : Says (codes "a <> ANY (SELECT b FROM E b)") (quantified a° c.Different (any (codes "ANY")) rows°) (is.Rows against.Any c.Different a rows)
unfolding run mark_at piece_at tokens_at keyword_of lexing.word_at variable_at name_at names_at path_at list_at others_at closed values.word_at atom_at unary_at times_at product_at sums_at level_at value_at comparison_at quantifier_at named_at optional_name_at item_at origin_at clause_at joins_at source_at ranges_at block_at subquery_at against_at beside_at follows_at valued_at simple_at test_at not_at ands_at and_at ors_at cond_level_at cond_at
any_row = (refl, refl, refl)

some_row : Says (codes "a < SOME (SELECT b FROM E b)") (quantified a° c.Less (some (codes "SOME")) rows°) (is.Rows against.Any c.Less a rows)
unfolding run mark_at piece_at tokens_at keyword_of lexing.word_at variable_at name_at names_at path_at list_at others_at closed values.word_at atom_at unary_at times_at product_at sums_at level_at value_at comparison_at quantifier_at named_at optional_name_at item_at origin_at clause_at joins_at source_at ranges_at block_at subquery_at against_at beside_at follows_at valued_at simple_at test_at not_at ands_at and_at ors_at cond_level_at cond_at
some_row = (refl, refl, refl)

scalar_behind : Says (codes "a = (SELECT COUNT(DISTINCT b) FROM E b)") (scalar_right a° c.Equal count°) (is.Rows (against.One g.Count true) c.Equal a rows)
unfolding run mark_at piece_at tokens_at keyword_of lexing.word_at variable_at name_at names_at path_at list_at others_at closed values.word_at atom_at unary_at times_at product_at sums_at level_at value_at comparison_at aggregate_at operand_at aggregated_at named_at origin_at clause_at joins_at source_at ranges_at scalar_at enclosed_at against_at beside_at follows_at valued_at simple_at test_at not_at ands_at and_at ors_at cond_level_at cond_at
scalar_behind = (refl, refl, refl)

-- a scalar on the left is the comparison turned round
scalar_before : Says (codes "(SELECT MAX(b) FROM E b) < a") (scalar_left most° c.Less a°) (is.Rows (against.One g.Max false) c.Greater a rows)
unfolding run mark_at piece_at tokens_at keyword_of lexing.word_at variable_at name_at names_at path_at list_at others_at closed values.word_at atom_at unary_at times_at product_at sums_at level_at value_at comparison_at aggregate_at operand_at aggregated_at opposed_at named_at origin_at clause_at joins_at source_at ranges_at scalar_at enclosed_at scalar_first_at test_at not_at ands_at and_at ors_at cond_level_at cond_at
scalar_before = (refl, refl, refl)

-- parentheses around it leave no node
in_parentheses : read (codes "((SELECT MAX(b) FROM E b) < a)") ≡ Some (is.Rows (against.One g.Max false) c.Greater a rows, [])
unfolding run mark_at piece_at tokens_at keyword_of lexing.word_at variable_at name_at names_at path_at list_at others_at closed values.word_at atom_at unary_at times_at product_at sums_at level_at value_at past_close comparison_at aggregate_at operand_at aggregated_at opposed_at named_at origin_at clause_at joins_at source_at ranges_at scalar_at enclosed_at scalar_first_at test_at not_at ands_at and_at ors_at cond_level_at cond_at
in_parentheses = refl

-- one row's value beside a comparison is no aggregate, and is not read
no_aggregate : read (codes "a = (SELECT b FROM E b)") ≡ None
unfolding run mark_at piece_at tokens_at keyword_of lexing.word_at variable_at name_at names_at path_at list_at others_at closed values.word_at atom_at unary_at times_at product_at sums_at level_at value_at comparison_at aggregate_at operand_at aggregated_at named_at origin_at clause_at joins_at source_at ranges_at scalar_at enclosed_at against_at beside_at follows_at valued_at simple_at test_at not_at ands_at and_at ors_at cond_level_at cond_at
no_aggregate = refl

-- ---- the languages

-- DELETE FROM E a WHERE a IN ..
abbrev deletes : Query
deletes = q.Delete (codes "E") (Some (codes "a")) (Some (is.Rows against.Any c.Equal a rows))

which_speak : (speaks language.Wide deletes ≡ true) × (speaks language.Profile deletes ≡ false)
which_speak = (refl, search (rules, condition.the_lemmas))

-- in EXISTS there is nothing beside the rows, but there may be rows inside
abbrev exists : Option Condition → Query
exists filter = q.Delete (codes "E") (Some (codes "a")) (Some (is.Exists (roll-Block (record {
  is_distinct = false;
  item = record { value = b; name = None };
  sources = [];
  filter = filter;
}))))

exists_speak : (speaks language.Profile (exists None) ≡ true) × (speaks language.Profile (exists (Some (is.Rows against.All c.Less a rows))) ≡ false)
exists_speak = (search (rules, condition.the_lemmas), search (rules, condition.the_lemmas))

-- in the profile ALL is a name, and what stands behind it isn't read
all_is_a_name : (tokens language.Profile (codes "SELECT a FROM E a WHERE a < ALL (SELECT b FROM E b)") >>= whole_at 4) ≡ None
unfolding run mark_at piece_at tokens_at keyword_of lexing.word_at variable_at name_at names_at path_at list_at others_at closed values.word_at atom_at unary_at times_at product_at sums_at level_at value_at comparison_at compared_at tested_at value_tested_at named_at optional_name_at item_at origin_at clause_at joins_at source_at follows_at valued_at simple_at test_at not_at ands_at and_at ors_at cond_level_at cond_at by_at select_at statement_at whole_at
all_is_a_name = refl

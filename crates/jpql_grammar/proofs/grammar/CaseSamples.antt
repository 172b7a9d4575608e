-- CASE in each of its forms: the derivation of a text, its tree, and what is read.
use lib.IntN.{pos}
use Rattle.std.proofs.Common.{◌≡◌, ℕ, List, [], ◌∷◌, length, Option, Some, None, refl, codes}
use Rattle.jpql_trees.specs.declared.tree.Language.{Language}
use Rattle.jpql_trees.specs.declared.tree.Language.TheVariants as language
use Rattle.jpql_grammar.specs.declared.grammar.token.Token.{Token}
use Rattle.jpql_grammar.specs.declared.grammar.token.Token.TheVariants as t
use Rattle.jpql_trees.specs.declared.tree.Function.TheVariants as f
use Rattle.jpql_trees.specs.declared.tree.Arithmetic.TheVariants as o
use Rattle.jpql_trees.specs.declared.tree.Comparison.TheVariants as c
use Rattle.jpql_trees.specs.declared.tree.Value.{Value}
use Rattle.jpql_trees.specs.declared.tree.Value.TheVariants as v
use Rattle.jpql_trees.specs.declared.tree.Condition.{Condition}
use Rattle.jpql_trees.specs.declared.tree.Condition.TheVariants as is
use Rattle.jpql_trees.specs.tree.Names.{Text}
use Rattle.jpql_trees.specs.tree.Steps.{◌>>=◌}
use Rattle.jpql_grammar.specs.grammar.ValueGrammar.{Value°, sum, no_sums, product, no_times, unsigned, Atom°, integer, path, call, Call°, case_when, case_of, no_branches, matches, no_matches, when, no_when_ors, when_conj, no_when_ands, maybe_when_not, when_tested, compare, write_value, value_tree}
use Rattle.jpql_grammar.specs.grammar.Nesting.{past_close}
use Rattle.jpql_grammar.specs.grammar.Values.{variable_at, name_at, names_at, path_at, list_at, others_at, closed, comparison_at, escape_at, compared_at, between_at, among_at, like_at, null_at, worded_at, tested_at, when_test_at, when_not_at, when_ands_at, when_and_at, when_ors_at, when_level_at, otherwise_at, branches_at, match_at, case_at, call_at, atom_at, unary_at, times_at, product_at, sums_at, level_at, value_at, when_at}
use Rattle.jpql_grammar.specs.grammar.Conditions.{value_tested_at, follows_at, valued_at, simple_at, test_at, not_at, ands_at, and_at, ors_at, cond_level_at, cond_at}
use Rattle.jpql_grammar.specs.grammar.Text.{keyword_of}
use Rattle.jpql_grammar.specs.grammar.Lexing as lexing
use Rattle.jpql_grammar.specs.grammar.Lexing.{run, quoted_at, digits_at, quotes_at, named_at, numbered_at, mark_at, piece_at, tokens_at}
use Rattle.jpql_grammar.specs.grammar.Values as values

-- the tokens of a text
tokens : Language → Text → Option (List Token)
unfolding run quoted_at digits_at quotes_at named_at numbered_at mark_at piece_at tokens_at keyword_of lexing.word_at
tokens l said = tokens_at l (length said) [] said

-- what is read of them as a value
read : Text → Option (Value × List Token)
unfolding tokens past_close variable_at name_at names_at path_at list_at others_at closed comparison_at escape_at compared_at between_at among_at like_at null_at worded_at tested_at when_test_at when_not_at when_ands_at when_and_at when_ors_at when_level_at otherwise_at branches_at match_at case_at call_at values.word_at atom_at unary_at times_at product_at sums_at level_at value_at
read said = tokens language.Wide said >>= value_at 5

-- and as a condition
condition : Text → Option (Condition × List Token)
unfolding read value_tested_at follows_at valued_at simple_at test_at not_at ands_at and_at ors_at cond_level_at cond_at
condition said = tokens language.Wide said >>= cond_at 5

-- an atom as a value
abbrev only : Atom° → Value°
only a = sum (product (unsigned a) no_times) no_sums

abbrev a° : Value°
a° = only (path (record { variable = codes "a"; names = [] }))

abbrev a : Value
a = v.Path (record { variable = codes "a"; names = [] })

abbrev n° : ℕ → Value°
n° i = only (integer (pos i))

abbrev num : ℕ → Value
num i = v.Integer (pos i)

-- a comparison of a with a number, as a value
abbrev is_n : ℕ → Value
is_n i = v.Call (f.Test c.Equal) (a ∷ num i ∷ [])

-- the text is of this derivation and tree, and is read so
abbrev Says : Text → Call° → Value → Type 0
Says said d tree = (tokens language.Wide said ≡ Some (write_value (only (call d)) [])) × (value_tree (only (call d)) ≡ tree) × (read said ≡ Some (tree, []))

-- ---- the two forms

case_says : Says (codes "CASE WHEN a = 1 THEN 2 ELSE 3 END")
    (case_when (codes "CASE") (codes "WHEN") (when (when_conj (maybe_when_not None (when_tested (compare c.Equal a° (n° 1)))) no_when_ands) no_when_ors) (codes "THEN") (n° 2) (no_branches (codes "ELSE") (n° 3) (codes "END")))
    (v.Call f.Case (is_n 1 ∷ num 2 ∷ num 3 ∷ []))
unfolding read
case_says = (refl, refl, refl)

match_says : Says (codes "case a when 1 then 2 when 3 then 4 else 5 end")
    (case_of (codes "case") a° (codes "when") (n° 1) (codes "then") (n° 2) (matches (codes "when") (n° 3) (codes "then") (n° 4) (no_matches (codes "else") (n° 5) (codes "end"))))
    (v.Call f.Match (a ∷ num 1 ∷ num 2 ∷ num 3 ∷ num 4 ∷ num 5 ∷ []))
unfolding read
match_says = (refl, refl, refl)

-- ---- what stands behind WHEN

-- a CASE of this test
abbrev of_test : Value → Option (Value × List Token)
of_test w = Some (v.Call f.Case (w ∷ num 1 ∷ num 2 ∷ []), [])

between_says : read (codes "CASE WHEN a NOT BETWEEN 1 AND 2 AND a = 1 THEN 1 ELSE 2 END")
    ≡ of_test (v.Call f.And (v.Call f.Not (v.Call f.IsBetween (a ∷ num 1 ∷ num 2 ∷ []) ∷ []) ∷ is_n 1 ∷ []))
unfolding read
between_says = refl

among_says : read (codes "CASE WHEN a IN (1, 2) THEN 1 ELSE 2 END") ≡ of_test (v.Call f.IsAmong (a ∷ num 1 ∷ num 2 ∷ []))
unfolding read
among_says = refl

like_says : read (codes "CASE WHEN a LIKE 'b' ESCAPE 'c' THEN 1 ELSE 2 END") ≡ of_test (v.Call f.IsLike (a ∷ v.Text (codes "b") ∷ v.Text (codes "c") ∷ []))
unfolding read
like_says = refl

null_says : read (codes "CASE WHEN a IS NOT NULL THEN 1 ELSE 2 END") ≡ of_test (v.Call f.Not (v.Call f.IsNull (a ∷ []) ∷ []))
unfolding read
null_says = refl

-- AND before OR, and a test in parentheses beside a value in parentheses
joined_says : read (codes "CASE WHEN (a) = 1 OR NOT (a = 2) AND a = 3 THEN 1 ELSE 2 END")
    ≡ of_test (v.Call f.Or (is_n 1 ∷ v.Call f.And (v.Call f.Not (is_n 2 ∷ []) ∷ is_n 3 ∷ []) ∷ []))
unfolding read
joined_says = refl

-- ---- CASE in CASE, and in parentheses before a test

nested_says : read (codes "CASE WHEN CASE a WHEN 1 THEN 2 ELSE 3 END = 2 THEN 1 ELSE 2 END")
    ≡ of_test (v.Call (f.Test c.Equal) (v.Call f.Match (a ∷ num 1 ∷ num 2 ∷ num 3 ∷ []) ∷ num 2 ∷ []))
unfolding read
nested_says = refl

plus_says : read (codes "CASE WHEN a = 1 THEN 1 ELSE 2 END + 3") ≡ Some (v.Arithmetic o.Plus (v.Call f.Case (is_n 1 ∷ num 1 ∷ num 2 ∷ [])) (num 3), [])
unfolding read
plus_says = refl

condition_says : condition (codes "(CASE WHEN a = 1 THEN 2 ELSE 3 END) = 2 AND (a = 1)")
    ≡ Some (is.And (is.Compare c.Equal (v.Call f.Case (is_n 1 ∷ num 2 ∷ num 3 ∷ [])) (num 2)) (is.Compare c.Equal a (num 1)), [])
unfolding condition
condition_says = refl

-- ---- what is none

no_test_behind_when : read (codes "CASE WHEN a THEN 1 ELSE 2 END") ≡ None
unfolding read
no_test_behind_when = refl

no_otherwise : read (codes "CASE WHEN a = 1 THEN 2 END") ≡ None
unfolding read
no_otherwise = refl

no_branch : read (codes "CASE a ELSE 2 END") ≡ None
unfolding read
no_branch = refl

no_end : read (codes "CASE a WHEN 1 THEN 2 ELSE 2") ≡ None
unfolding read
no_end = refl

no_rows : read (codes "CASE WHEN EXISTS (SELECT a FROM B a) THEN 1 ELSE 2 END") ≡ None
unfolding read
no_rows = refl

no_path_test : read (codes "CASE WHEN a MEMBER OF a.b THEN 1 ELSE 2 END") ≡ None
unfolding read
no_path_test = refl

-- the words are the wider language's alone
profile_name : tokens language.Profile (codes "CASE") ≡ Some (t.Word (codes "CASE") ∷ [])
unfolding tokens
profile_name = refl

-- UPPER, LOWER and TRIM in each of their forms: the derivation of a text, its tree, and what is read.
use Rattle.std.proofs.Common.{◌≡◌, List, [], ◌∷◌, length, Option, Some, None, refl, codes}
use Rattle.jpql_trees.specs.declared.tree.Language.{Language}
use Rattle.jpql_trees.specs.declared.tree.Language.TheVariants as language
use Rattle.jpql_grammar.specs.declared.grammar.token.Mark.TheVariants as m
use Rattle.jpql_grammar.specs.declared.grammar.token.Token.{Token}
use Rattle.jpql_grammar.specs.declared.grammar.token.Token.TheVariants as t
use Rattle.jpql_trees.specs.declared.tree.Trimmed.TheVariants as side
use Rattle.jpql_trees.specs.declared.tree.Function.TheVariants as f
use Rattle.jpql_trees.specs.declared.tree.Value.{Value}
use Rattle.jpql_trees.specs.declared.tree.Value.TheVariants as v
use Rattle.jpql_trees.specs.tree.Names.{Text}
use Rattle.jpql_grammar.specs.grammar.Parts.{plain, taken_text, taken_parameter, unwritten_trimming, sided, unsided}
use Rattle.jpql_grammar.specs.grammar.ValueGrammar.{Value°, sum, no_sums, product, no_times, unsigned, Atom°, text, path, call, Call°, upper, lower, trim, write_value, value_tree}
use Rattle.jpql_grammar.specs.grammar.Values.{variable_at, name_at, names_at, path_at, list_at, others_at, closed, sided_at, unsided_at, trimming_at, trim_at, call_at, atom_at, unary_at, times_at, product_at, sums_at, level_at, value_at}
use Rattle.jpql_grammar.specs.grammar.Text.{keyword_of}
use Rattle.jpql_grammar.specs.grammar.Lexing as lexing
use Rattle.jpql_grammar.specs.grammar.Lexing.{run, quoted_at, digits_at, quotes_at, named_at, numbered_at, mark_at, piece_at, tokens_at}
use Rattle.jpql_grammar.specs.grammar.Values as values
use Rattle.jpql_trees.specs.tree.Steps.{◌>>=◌}

abbrev tokens : Language → Text → Option (List Token)
tokens l said = tokens_at l (length said) [] said

abbrev read : Language → Text → Option (Value × List Token)
read l said = tokens l said >>= λ ts. value_at 4 ts

-- an atom as a value
abbrev only : Atom° → Value°
only a = sum (product (unsigned a) no_times) no_sums

-- the text is of this derivation and tree, and is read so
abbrev Says : Text → Call° → Value → Type 0
Says said d tree =
    (tokens language.Wide said ≡ Some (write_value (only (call d)) [])) × (value_tree (only (call d)) ≡ tree)
    × (read language.Wide said ≡ Some (tree, []))

-- a.b
abbrev ab : Value°
ab = only (path (record { variable = codes "a"; names = plain (codes "b") ∷ [] }))

abbrev ab_tree : Value
ab_tree = v.Path (record { variable = codes "a"; names = codes "b" ∷ [] })

-- UPPER(a.b)
upper_says : Says (codes "UPPER(a.b)") (upper (codes "UPPER") ab) (v.Call f.Upper (ab_tree ∷ []))
unfolding run quoted_at digits_at quotes_at named_at numbered_at mark_at piece_at tokens_at keyword_of lexing.word_at variable_at name_at names_at path_at list_at others_at closed sided_at unsided_at trimming_at trim_at call_at values.word_at atom_at unary_at times_at product_at sums_at level_at value_at
upper_says = (refl, refl, refl)

-- lower(a.b)
lower_says : Says (codes "lower(a.b)") (lower (codes "lower") ab) (v.Call f.Lower (ab_tree ∷ []))
unfolding run quoted_at digits_at quotes_at named_at numbered_at mark_at piece_at tokens_at keyword_of lexing.word_at variable_at name_at names_at path_at list_at others_at closed sided_at unsided_at trimming_at trim_at call_at values.word_at atom_at unary_at times_at product_at sums_at level_at value_at
lower_says = (refl, refl, refl)

-- TRIM(a.b)
trim_says : Says (codes "TRIM(a.b)") (trim (codes "TRIM") unwritten_trimming ab) (v.Call (f.Trim side.Both) (ab_tree ∷ []))
unfolding run quoted_at digits_at quotes_at named_at numbered_at mark_at piece_at tokens_at keyword_of lexing.word_at variable_at name_at names_at path_at list_at others_at closed sided_at unsided_at trimming_at trim_at call_at values.word_at atom_at unary_at times_at product_at sums_at level_at value_at
trim_says = (refl, refl, refl)

-- TRIM(LEADING FROM a.b)
leading_says : Says (codes "TRIM(LEADING FROM a.b)") (trim (codes "TRIM") (sided side.Leading (codes "LEADING") None (codes "FROM")) ab) (v.Call (f.Trim side.Leading) (ab_tree ∷ []))
unfolding run quoted_at digits_at quotes_at named_at numbered_at mark_at piece_at tokens_at keyword_of lexing.word_at variable_at name_at names_at path_at list_at others_at closed sided_at unsided_at trimming_at trim_at call_at values.word_at atom_at unary_at times_at product_at sums_at level_at value_at
leading_says = (refl, refl, refl)

-- TRIM(TRAILING :t FROM a.b)
trailing_says : Says (codes "TRIM(TRAILING :t FROM a.b)") (trim (codes "TRIM") (sided side.Trailing (codes "TRAILING") (Some (taken_parameter (codes "t"))) (codes "FROM")) ab) (v.Call (f.Trim side.Trailing) (ab_tree ∷ v.Parameter (codes "t") ∷ []))
unfolding run quoted_at digits_at quotes_at named_at numbered_at mark_at piece_at tokens_at keyword_of lexing.word_at variable_at name_at names_at path_at list_at others_at closed sided_at unsided_at trimming_at trim_at call_at values.word_at atom_at unary_at times_at product_at sums_at level_at value_at
trailing_says = (refl, refl, refl)

-- TRIM(BOTH 'x' FROM a.b)
both_says : Says (codes "TRIM(BOTH 'x' FROM a.b)") (trim (codes "TRIM") (sided side.Both (codes "BOTH") (Some (taken_text (codes "x"))) (codes "FROM")) ab) (v.Call (f.Trim side.Both) (ab_tree ∷ v.Text (codes "x") ∷ []))
unfolding run quoted_at digits_at quotes_at named_at numbered_at mark_at piece_at tokens_at keyword_of lexing.word_at variable_at name_at names_at path_at list_at others_at closed sided_at unsided_at trimming_at trim_at call_at values.word_at atom_at unary_at times_at product_at sums_at level_at value_at
both_says = (refl, refl, refl)

-- TRIM('x' FROM a.b)
text_says : Says (codes "TRIM('x' FROM a.b)") (trim (codes "TRIM") (unsided (taken_text (codes "x")) (codes "FROM")) ab) (v.Call (f.Trim side.Both) (ab_tree ∷ v.Text (codes "x") ∷ []))
unfolding run quoted_at digits_at quotes_at named_at numbered_at mark_at piece_at tokens_at keyword_of lexing.word_at variable_at name_at names_at path_at list_at others_at closed sided_at unsided_at trimming_at trim_at call_at values.word_at atom_at unary_at times_at product_at sums_at level_at value_at
text_says = (refl, refl, refl)

-- TRIM(:t FROM a.b)
parameter_says : Says (codes "TRIM(:t FROM a.b)") (trim (codes "TRIM") (unsided (taken_parameter (codes "t")) (codes "FROM")) ab) (v.Call (f.Trim side.Both) (ab_tree ∷ v.Parameter (codes "t") ∷ []))
unfolding run quoted_at digits_at quotes_at named_at numbered_at mark_at piece_at tokens_at keyword_of lexing.word_at variable_at name_at names_at path_at list_at others_at closed sided_at unsided_at trimming_at trim_at call_at values.word_at atom_at unary_at times_at product_at sums_at level_at value_at
parameter_says = (refl, refl, refl)

-- TRIM(TRIM(a.b))
nested_says : Says (codes "TRIM(TRIM(a.b))") (trim (codes "TRIM") unwritten_trimming (only (call (trim (codes "TRIM") unwritten_trimming ab)))) (v.Call (f.Trim side.Both) (v.Call (f.Trim side.Both) (ab_tree ∷ []) ∷ []))
unfolding run quoted_at digits_at quotes_at named_at numbered_at mark_at piece_at tokens_at keyword_of lexing.word_at variable_at name_at names_at path_at list_at others_at closed sided_at unsided_at trimming_at trim_at call_at values.word_at atom_at unary_at times_at product_at sums_at level_at value_at
nested_says = (refl, refl, refl)

-- TRIM('x')
literal_says : Says (codes "TRIM('x')") (trim (codes "TRIM") unwritten_trimming (only (text (codes "x")))) (v.Call (f.Trim side.Both) (v.Text (codes "x") ∷ []))
unfolding run quoted_at digits_at quotes_at named_at numbered_at mark_at piece_at tokens_at keyword_of lexing.word_at variable_at name_at names_at path_at list_at others_at closed sided_at unsided_at trimming_at trim_at call_at values.word_at atom_at unary_at times_at product_at sums_at level_at value_at
literal_says = (refl, refl, refl)

-- TRIM(LEADING a.b)
side_alone : read language.Wide (codes "TRIM(LEADING a.b)") ≡ None
unfolding run quoted_at digits_at quotes_at named_at numbered_at mark_at piece_at tokens_at keyword_of lexing.word_at variable_at name_at names_at path_at list_at others_at closed sided_at unsided_at trimming_at trim_at call_at values.word_at atom_at unary_at times_at product_at sums_at level_at value_at
side_alone = refl

-- TRIM(FROM a.b)
from_alone : read language.Wide (codes "TRIM(FROM a.b)") ≡ None
unfolding run quoted_at digits_at quotes_at named_at numbered_at mark_at piece_at tokens_at keyword_of lexing.word_at variable_at name_at names_at path_at list_at others_at closed sided_at unsided_at trimming_at trim_at call_at values.word_at atom_at unary_at times_at product_at sums_at level_at value_at
from_alone = refl

-- TRIM(a.b FROM c.d)
path_off : read language.Wide (codes "TRIM(a.b FROM c.d)") ≡ None
unfolding run quoted_at digits_at quotes_at named_at numbered_at mark_at piece_at tokens_at keyword_of lexing.word_at variable_at name_at names_at path_at list_at others_at closed sided_at unsided_at trimming_at trim_at call_at values.word_at atom_at unary_at times_at product_at sums_at level_at value_at
path_off = refl

-- TRIM('x', a.b)
two_texts : read language.Wide (codes "TRIM('x', a.b)") ≡ None
unfolding run quoted_at digits_at quotes_at named_at numbered_at mark_at piece_at tokens_at keyword_of lexing.word_at variable_at name_at names_at path_at list_at others_at closed sided_at unsided_at trimming_at trim_at call_at values.word_at atom_at unary_at times_at product_at sums_at level_at value_at
two_texts = refl

-- in the profile UPPER is a name, and no call
profile_has_none : read language.Profile (codes "UPPER(a.b)") ≡ Some (v.Path (record { variable = codes "UPPER"; names = [] }), t.Mark m.Open ∷ write_value ab (t.Mark m.Close ∷ []))
unfolding run quoted_at digits_at quotes_at named_at numbered_at mark_at piece_at tokens_at keyword_of lexing.word_at variable_at name_at names_at path_at list_at others_at closed sided_at unsided_at trimming_at trim_at call_at values.word_at atom_at unary_at times_at product_at sums_at level_at value_at
profile_has_none = refl

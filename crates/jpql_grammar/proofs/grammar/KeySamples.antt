-- Keys of ORDER BY in each of their forms: what is read of a text, and which language has it.
use Rattle.std.proofs.Common.{◌≡◌, true, false, List, [], ◌∷◌, length, Option, Some, refl, codes}
use Rattle.jpql_trees.specs.declared.tree.Language.TheVariants as language
use Rattle.jpql_grammar.specs.declared.grammar.token.Token.{Token}
use Rattle.jpql_trees.specs.declared.tree.Function.TheVariants as f
use Rattle.jpql_trees.specs.declared.tree.Aggregate.TheVariants as g
use Rattle.jpql_trees.specs.declared.tree.Value.{Value}
use Rattle.jpql_trees.specs.declared.tree.Value.TheVariants as v
use Rattle.jpql_trees.specs.declared.tree.Sorted.{Sorted}
use Rattle.jpql_trees.specs.declared.tree.Sorted.TheVariants as by
use Rattle.jpql_trees.specs.declared.tree.SortKey.{SortKey}
use Rattle.jpql_trees.specs.tree.Names.{Text}
use Rattle.jpql_trees.specs.tree.Steps.{◌>>=◌}
use Rattle.jpql_grammar.specs.grammar.Text.{keyword_of}
use Rattle.jpql_grammar.specs.grammar.Lexing as lexing
use Rattle.jpql_grammar.specs.grammar.Lexing.{run, quoted_at, digits_at, quotes_at, named_at, numbered_at, mark_at, piece_at, tokens_at}
use Rattle.jpql_grammar.specs.grammar.Values as values
use Rattle.jpql_grammar.specs.grammar.Values.{variable_at, name_at, names_at, path_at, list_at, others_at, closed, call_at, atom_at, unary_at, times_at, product_at, sums_at, level_at, value_at}
use Rattle.jpql_grammar.specs.grammar.Statements.{key_at}
use Rattle.jpql_grammar.specs.grammar.Queries.{is_named}

abbrev read : Text → Option (SortKey × List Token)
read said = tokens_at language.Wide (length said) [] said >>= λ ts. key_at 4 ts

abbrev up : Sorted → Option (SortKey × List Token)
up sorted = Some (record { by = sorted; is_descending = false }, [])

abbrev down : Sorted → Option (SortKey × List Token)
down sorted = Some (record { by = sorted; is_descending = true }, [])

-- a.b
abbrev ab : Value
ab = v.Path (record { variable = codes "a"; names = codes "b" ∷ [] })

name_says : read (codes "a") ≡ up (by.Name (codes "a"))
unfolding run quoted_at digits_at quotes_at named_at numbered_at mark_at piece_at tokens_at keyword_of lexing.word_at variable_at name_at names_at path_at closed values.word_at atom_at unary_at times_at product_at sums_at level_at value_at key_at
name_says = refl

path_says : read (codes "a.b DESC") ≡ down (by.Path (record { variable = codes "a"; names = codes "b" ∷ [] }))
unfolding run quoted_at digits_at quotes_at named_at numbered_at mark_at piece_at tokens_at keyword_of lexing.word_at variable_at name_at names_at path_at closed values.word_at atom_at unary_at times_at product_at sums_at level_at value_at key_at
path_says = refl

-- a path in parentheses is a value
group_says : read (codes "(a.b)") ≡ up (by.Value ab)
unfolding run quoted_at digits_at quotes_at named_at numbered_at mark_at piece_at tokens_at keyword_of lexing.word_at variable_at name_at names_at path_at closed values.word_at atom_at unary_at times_at product_at sums_at level_at value_at key_at
group_says = refl

call_says : read (codes "LOWER(a.b) DESC") ≡ down (by.Value (v.Call f.Lower (ab ∷ [])))
unfolding run quoted_at digits_at quotes_at named_at numbered_at mark_at piece_at tokens_at keyword_of lexing.word_at variable_at name_at names_at path_at list_at others_at closed call_at values.word_at atom_at unary_at times_at product_at sums_at level_at value_at key_at
call_says = refl

count_says : read (codes "COUNT(a)") ≡ up (by.Value (v.Aggregate g.Count false (v.Path (record { variable = codes "a"; names = [] }))))
unfolding run quoted_at digits_at quotes_at named_at numbered_at mark_at piece_at tokens_at keyword_of lexing.word_at variable_at name_at names_at path_at list_at others_at closed call_at values.word_at atom_at unary_at times_at product_at sums_at level_at value_at key_at
count_says = refl

-- the profile has names and paths alone
profile_keys : (is_named (by.Name (codes "a")) ≡ true) × (is_named (by.Value ab) ≡ false)
profile_keys = (refl, refl)

-- Which text is which query.
use Rattle.std.specs.Prelude.{◌≡◌, Bool, true, false, not, ◌&&◌, List, [], ◌∷◌, Some, None}
use Rattle.std.specs.List.{list_all}
use Rattle.jpql_trees.specs.declared.tree.Language.{Language}
use Rattle.jpql_trees.specs.declared.tree.Language.TheVariants as language
use Rattle.jpql_grammar.specs.declared.grammar.lists.GivenList.{GivenList}
use Rattle.jpql_grammar.specs.declared.grammar.token.Token.{Token}
use Rattle.jpql_grammar.specs.declared.grammar.token.Token.TheVariants as t
use Rattle.jpql_trees.specs.declared.tree.Sorted.{Sorted}
use Rattle.jpql_trees.specs.declared.tree.Sorted.TheVariants as by
use Rattle.jpql_trees.specs.declared.tree.Query.{Query}
use Rattle.jpql_trees.specs.declared.tree.Query.TheVariants as q
use Rattle.jpql_trees.specs.tree.Names.{Text}
use Rattle.jpql_grammar.specs.grammar.Grammar.{IsStatement}
use Rattle.jpql_grammar.specs.grammar.Lists.{spread}
use Rattle.jpql_grammar.specs.grammar.Rows.{query_has_rows}
use Rattle.jpql_grammar.specs.grammar.Text.{keyword_of, IsText}

-- whether what ORDER BY sorts by is a result variable or a path
abbrev pub is_named : Sorted → Bool
is_named (by.Name name) = true
is_named (by.Path p) = true
is_named (by.Value a) = false

-- whether a statement sorts by result variables and paths alone
abbrev pub sorts_by_names : Query → Bool
sorts_by_names (q.Select s) = list_all (λ key. is_named key.by) s.order
sorts_by_names (q.Update entity variable assignments filter) = true
sorts_by_names (q.Delete entity variable filter) = true

-- whether a language has a statement: the profile sorts by result variables and paths alone, and
-- compares no value with rows
abbrev pub speaks : Language → Query → Bool
speaks language.Profile query = sorts_by_names query && not (query_has_rows query)
speaks language.Wide query = true

-- The text is one of the language's grammar, where collections are handed in for these parameters, and
-- this is its tree.
abbrev pub IsQuery : Language → List GivenList → Text → Query → Type 0
IsQuery l lists text query = (speaks l query ≡ true)
    × ((tokens stand : List Token)
    × IsText l text tokens × (spread lists tokens ≡ Some stand) × IsStatement stand query)

-- no name among these tokens is a word of the wider language's grammar
abbrev pub KeepNames : List Token → Type 0
KeepNames [] = Unit {0}
KeepNames (t.Word w ∷ rest) = (keyword_of language.Wide w ≡ None) × KeepNames rest
KeepNames (_ ∷ rest) = KeepNames rest

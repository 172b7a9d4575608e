-- Examples of texts with their tokens in the two languages.
use Rattle.std.specs.Prelude.{◌≡◌, codes, [], ◌∷◌, length, Option, Some, None, List}
use Rattle.std.proofs.Common.{refl}
use Rattle.jpql_trees.specs.declared.tree.Language.{Language}
use Rattle.jpql_trees.specs.declared.tree.Language.TheVariants as language
use Rattle.jpql_grammar.specs.declared.grammar.token.Keyword.TheVariants as k
use Rattle.jpql_grammar.specs.declared.grammar.token.Mark.TheVariants as m
use Rattle.jpql_grammar.specs.declared.grammar.token.Token.{Token}
use Rattle.jpql_grammar.specs.declared.grammar.token.Token.TheVariants as t
use Rattle.jpql_trees.specs.tree.Names.{Text}
use Rattle.jpql_grammar.specs.grammar.Text.{keyword_of}
use Rattle.jpql_grammar.specs.grammar.Lexing.{tokens_at, piece_at, word_at, mark_at, run}

abbrev tokens : Language → Text → Option (List Token)
tokens l text = tokens_at l (length text) [] text

-- ---- a word of the wider language is a name in the profile, whatever its case

call_in_profile : tokens language.Profile (codes "Upper(a)") ≡ Some (t.Word (codes "Upper") ∷ t.Mark m.Open ∷ t.Word (codes "a") ∷ t.Mark m.Close ∷ [])
unfolding tokens_at piece_at word_at mark_at run keyword_of
call_in_profile = refl

call_in_wide : tokens language.Wide (codes "Upper(a)") ≡ Some (t.Key k.Upper (codes "Upper") ∷ t.Mark m.Open ∷ t.Word (codes "a") ∷ t.Mark m.Close ∷ [])
unfolding tokens_at piece_at word_at mark_at run keyword_of
call_in_wide = refl

-- ---- a word of the profile is one of both, and no part of a word is one

in_profile : keyword_of language.Profile (codes "select") ≡ Some k.Select
unfolding keyword_of
in_profile = refl

in_both : keyword_of language.Wide (codes "select") ≡ Some k.Select
unfolding keyword_of
in_both = refl

ending_in_profile : keyword_of language.Profile (codes "END") ≡ None
unfolding keyword_of
ending_in_profile = refl

ending_in_wide : keyword_of language.Wide (codes "END") ≡ Some k.End
unfolding keyword_of
ending_in_wide = refl

part_in_wide : keyword_of language.Wide (codes "ENDS") ≡ None
unfolding keyword_of
part_in_wide = refl

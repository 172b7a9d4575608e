-- Words of the profile are words of the wider language, and a text that has no other word of that
-- one has the same tokens in both.
use Rattle.std.proofs.Common.{◌≡◌, List, [], ◌∷◌, ◌++◌, Option, Some, None, refl, ap, sym, ◌∙◌, subst}
use Rattle.std.specs.Str.{str_eq_ignore_ascii_case}
use Rattle.jpql_trees.specs.declared.tree.Language.TheVariants as language
use Rattle.jpql_grammar.specs.declared.grammar.lists.GivenList.{GivenList}
use Rattle.jpql_grammar.specs.declared.grammar.token.Keyword.{Keyword}
use Rattle.jpql_grammar.specs.declared.grammar.token.Token.{Token}
use Rattle.jpql_trees.specs.declared.tree.Query.{Query}
use Rattle.jpql_trees.specs.tree.Names.{Text}
use Rattle.jpql_grammar.specs.grammar.Text.{first_keyword, spelling, profile_keywords, wide_keywords, keyword_of, word_of, Piece, blank, bare, digits, quoted, named, numbered, mark, tokens_of, IsText}
use Rattle.jpql_grammar.specs.grammar.Lists.{spread}
use Rattle.jpql_grammar.specs.grammar.Queries.{IsQuery, KeepNames}
use Rattle.jpql_grammar.proofs.grammar.Tools.{choice}
use Rattle.jpql_grammar.proofs.grammar.Queries.{one_list}

-- the first word of two lists is that of the first, where it has one
first_in_front : (js ks : List Keyword) (w : Text) (k : Keyword) → first_keyword js w ≡ Some k → first_keyword (js ++ ks) w ≡ Some k
first_in_front [] ks w k h = absurd cc
first_in_front (j ∷ js) ks w k h = choice (str_eq_ignore_ascii_case (spelling j) w) _ _ _ h (λ e h. rw e h) (λ e h. rw e (first_in_front js ks w k h))

-- else that of the second
first_behind : (js ks : List Keyword) (w : Text) → first_keyword js w ≡ None → first_keyword (js ++ ks) w ≡ first_keyword ks w
first_behind [] ks w h = refl
first_behind (j ∷ js) ks w h = choice (str_eq_ignore_ascii_case (spelling j) w) _ _ _ h (λ e h. absurd cc) (λ e h. rw e (first_behind js ks w h))

-- a word of the profile's grammar is that word of the wider one
pub keyword_stays : (w : Text) (k : Keyword) → keyword_of language.Profile w ≡ Some k → keyword_of language.Wide w ≡ Some k
unfolding keyword_of
keyword_stays w k h = first_in_front profile_keywords wide_keywords w k h

-- and each other word is what the words of the wider one alone make of it
pub keyword_else : (w : Text) → keyword_of language.Profile w ≡ None → keyword_of language.Wide w ≡ first_keyword wide_keywords w
unfolding keyword_of
keyword_else w h = first_behind profile_keywords wide_keywords w h

word_stays : (o : Option Keyword) (w : Text) (ts : List Token) → keyword_of language.Profile w ≡ o → KeepNames (word_of o w ∷ ts) → (keyword_of language.Wide w ≡ o) × KeepNames ts
word_stays None w ts e (name, more) = (name, more)
word_stays (Some k) w ts e more = (keyword_stays w k e, more)

tokens_stay : (ps : List Piece) → KeepNames (tokens_of language.Profile ps) → tokens_of language.Wide ps ≡ tokens_of language.Profile ps
tokens_stay [] h = refl
tokens_stay (blank b ∷ ps) h = tokens_stay ps h
tokens_stay (bare w ∷ ps) h =
    let (is, more) = word_stays (keyword_of language.Profile w) w (tokens_of language.Profile ps) refl h in
    rw (is, tokens_stay ps more)
tokens_stay (digits w ∷ ps) h = rw (tokens_stay ps h)
tokens_stay (quoted w ∷ ps) h = rw (tokens_stay ps h)
tokens_stay (named w ∷ ps) h = rw (tokens_stay ps h)
tokens_stay (numbered w ∷ ps) h = rw (tokens_stay ps h)
tokens_stay (mark x ∷ ps) h = rw (tokens_stay ps h)

-- A text whose names are names in the wider language too has there the tokens, and the tree, that it
-- has in the profile.
pub text_stays : (text : Text) (tokens : List Token) → IsText language.Profile text tokens → KeepNames tokens → IsText language.Wide text tokens
text_stays text tokens (ps, s, e, ts) keep = (ps, s, e, tokens_stay ps (subst KeepNames (sym ts) keep) ∙ ts)

pub query_stays : (lists : List GivenList) (text : Text) (tokens : List Token) (query : Query) → IsText language.Profile text tokens → KeepNames tokens
    → IsQuery language.Profile lists text query → IsQuery language.Wide lists text query
query_stays lists text tokens query is keep (_, (own, stand, t, e, s)) =
    (refl, (tokens, stand, text_stays text tokens is keep, ap (spread lists) (one_list language.Profile text tokens own is t) ∙ e, s))

-- A text has at most one list of tokens, and at most one tree.
use Rattle.std.proofs.Common.{◌≡◌, List, Option, Some, ap, sym, ◌∙◌, subst}
use Rattle.jpql_trees.specs.declared.tree.Language.{Language}
use Rattle.jpql_grammar.specs.declared.grammar.lists.GivenList.{GivenList}
use Rattle.jpql_grammar.specs.declared.grammar.token.Token.{Token}
use Rattle.jpql_trees.specs.declared.tree.Query.{Query}
use Rattle.jpql_trees.specs.tree.Names.{Text}
use Rattle.jpql_trees.specs.tree.Steps.{◌>>=◌}
use Rattle.jpql_grammar.specs.grammar.Grammar.{IsStatement}
use Rattle.jpql_grammar.specs.grammar.Text.{IsText}
use Rattle.jpql_grammar.specs.grammar.Statements.{statement_of}
use Rattle.jpql_grammar.specs.grammar.Lists.{spread}
use Rattle.jpql_grammar.specs.grammar.Queries.{IsQuery}
use Rattle.jpql_grammar.proofs.grammar.Tools.{same}
use Rattle.jpql_grammar.proofs.grammar.LexingLaws.{tokens_complete}
use Rattle.jpql_grammar.proofs.grammar.One.{one_tree, is_read}

pub one_list : (l : Language) (text : Text) (a b : List Token) → IsText l text a → IsText l text b → a ≡ b
one_list l text a b x y = same _ _ (sym (tokens_complete l text a x) ∙ tokens_complete l text b y)

-- and they stand for at most one list of tokens
one_spread : (lists : List GivenList) (a b s u : List Token) → a ≡ b → spread lists a ≡ Some s → spread lists b ≡ Some u → s ≡ u
one_spread lists a b s u e x y = same _ _ (sym x ∙ (ap (spread lists) e ∙ y))

pub one_query : (l : Language) (lists : List GivenList) (text : Text) (x y : Query) → IsQuery l lists text x → IsQuery l lists text y → x ≡ y
one_query l lists text x y (_, (a, s, ta, ea, sa)) (_, (b, u, tb, eb, sb)) =
    one_tree u x y (subst (λ ts. IsStatement ts x) (one_spread lists a b s u (one_list l text a b ta tb) ea eb) sa) sb

-- the tokens of a query are read as it
pub query_read : (l : Language) (lists : List GivenList) (text : Text) (tokens : List Token) (x : Query) → IsText l text tokens → IsQuery l lists text x
    → (spread lists tokens >>= statement_of) ≡ Some x
query_read l lists text tokens x t (_, (a, s, ta, ea, sa)) =
    let is = ap (spread lists) (one_list l text tokens a t ta) ∙ ea in
    ap (λ (o : Option (List Token)). o >>= statement_of) is ∙ is_read s x sa

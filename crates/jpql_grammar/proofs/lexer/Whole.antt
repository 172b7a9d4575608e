-- What reading a whole text answers, in words of the grammar.
use Rattle.std.proofs.Common.{◌≡◌, List, [], length, Some, Result, Ok, Err, IfOk, subst}
use Rattle.jpql_trees.specs.declared.tree.Language.{Language}
use Rattle.jpql_grammar.specs.declared.grammar.token.Token.{Token}
use Rattle.jpql_trees.specs.tree.Names.{Text}
use Rattle.jpql_grammar.specs.grammar.Text.{IsText}
use Rattle.jpql_grammar.specs.grammar.Lexing.{tokens_at}
use Rattle.jpql_grammar.proofs.grammar.LexingLaws.{tokens_sound, tokens_complete}
use Rattle.jpql_grammar.specs.declared.lexer.error.ReadError.{ReadError}
use Rattle.jpql_grammar.specs.declared.lexer.error.ReadError.TheVariants.{Memory, Syntax}
use Rattle.jpql_grammar.specs.lexer.Gives.{Gives}

module _ {X : Type 0} (l : Language) (view : X → List Token) (r : Result X ReadError) (text : Text) (gives : Gives view r (tokens_at l (length text) [] text)) where
  pub only : (tokens : List Token) → IsText l text tokens → Gives view r (Some tokens)
  only tokens t = subst (Gives view r) (tokens_complete l text tokens t) gives

pub found : {X : Type 0} (l : Language) (view : X → List Token) (r : Result X ReadError) (text : Text) → Gives view r (tokens_at l (length text) [] text) → IfOk r (λ x. IsText l text (view x))
found l view (Ok x) text h = tokens_sound l text (view x) h
found l view (Err e) text h = tt

not_both : {X : Type 0} (view : X → List Token) (r : Result X ReadError) (tokens : List Token) → r ≡ Err Syntax → Gives view r (Some tokens) → ⊥
not_both view (Ok x) tokens e h = cc
not_both view (Err Memory) tokens e h = cc
not_both view (Err Syntax) tokens e h = cc

pub none : {X : Type 0} (l : Language) (view : X → List Token) (r : Result X ReadError) (text : Text) → Gives view r (tokens_at l (length text) [] text)
    → r ≡ Err Syntax → (tokens : List Token) → IsText l text tokens → ⊥
none l view r text h e tokens t = not_both view r tokens e (only l view r text h tokens t)

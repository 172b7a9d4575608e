-- A language's text is that of the language that it is.
use Rattle.std.proofs.Common.{◌≡◌, ◌∙◌, ap, sym}
use Rattle.jpql_trees.specs.declared.tree.Language.{Language}
use Rattle.jpql_trees.specs.tree.Names.{Text}
use Rattle.jpql_text.specs.shapes.Printed.{grammar_text}

pub of_language : (k l : Language) (text : Text) → l ≡ k → text ≡ grammar_text k → text ≡ grammar_text l
of_language k l text is told = told ∙ ap grammar_text (sym is)

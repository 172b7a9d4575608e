-- Sets of bytes, and what a piece of a text is as tokens.
use Rattle.std.specs.Prelude.{ℕ, ◌==◌, Bool, not, List, [], ◌∷◌, Option, Some, None}
use Rattle.std.specs.Char.{is_ascii_digit}
use Rattle.jpql_trees.specs.declared.tree.Language.{Language}
use Rattle.jpql_grammar.specs.declared.grammar.token.Token.{Token}
use Rattle.jpql_trees.specs.tree.Names.{Text}
use Rattle.jpql_trees.specs.tree.Steps.{◌>>=◌}
use Rattle.jpql_grammar.specs.grammar.Text.{is_in_word, Piece, piece_tokens}
use Rattle.jpql_grammar.specs.declared.lexer.cut.Class.{Class}
use Rattle.jpql_grammar.specs.declared.lexer.cut.Class.TheVariants as class

-- whether a byte is of a class
abbrev pub is_in : Class → ℕ → Bool
is_in class.Word b = is_in_word b
is_in class.Digit b = is_ascii_digit b
is_in class.Unquoted b = not (b == 39)

-- a piece as its tokens in a language, and the text after it
abbrev pub as_tokens : Language → Option (Piece × Text) → Option (List Token × Text)
as_tokens l cut = cut >>= λ x. Some (piece_tokens l x.0, x.1)

-- a token as a list, or the empty list
abbrev pub one_if_any : Option Token → List Token
one_if_any None = []
one_if_any (Some t) = t ∷ []

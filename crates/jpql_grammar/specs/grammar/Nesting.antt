-- How parentheses close one another in tokens.
use Rattle.std.specs.Prelude.{ℕ, zero, suc, List, [], ◌∷◌}
use Rattle.jpql_grammar.specs.declared.grammar.token.Mark.TheVariants as m
use Rattle.jpql_grammar.specs.declared.grammar.token.Token.{Token}
use Rattle.jpql_grammar.specs.declared.grammar.token.Token.TheVariants as t

-- the tokens behind the parenthesis that closes, where so many more are open
unfoldable pub past_close : ℕ → List Token → List Token
past_close d [] = []
past_close d (t.Mark m.Open ∷ rest) = past_close (suc d) rest
past_close zero (t.Mark m.Close ∷ rest) = rest
past_close (suc d) (t.Mark m.Close ∷ rest) = past_close d rest
past_close d (x ∷ rest) = past_close d rest

-- Tests of values: their words, and what they are as conditions and as values of CASE.
use Rattle.std.specs.Prelude.{Bool, true, false, List, [], ◌∷◌, Option, Some, None}
use Rattle.jpql_grammar.specs.declared.grammar.tested.Tested.{Tested}
use Rattle.jpql_grammar.specs.declared.grammar.tested.Tested.TheVariants as test
use Rattle.jpql_grammar.specs.declared.grammar.token.Keyword.{Keyword}
use Rattle.jpql_grammar.specs.declared.grammar.token.Keyword.TheVariants as k
use Rattle.jpql_grammar.specs.declared.grammar.token.Mark.{Mark}
use Rattle.jpql_grammar.specs.declared.grammar.token.Mark.TheVariants as m
use Rattle.jpql_grammar.specs.declared.grammar.token.Token.{Token}
use Rattle.jpql_grammar.specs.declared.grammar.token.Token.TheVariants as t
use Rattle.jpql_trees.specs.declared.tree.Function.TheVariants as f
use Rattle.jpql_trees.specs.declared.tree.Comparison.{Comparison}
use Rattle.jpql_trees.specs.declared.tree.Comparison.TheVariants as c
use Rattle.jpql_trees.specs.declared.tree.Value.{Value}
use Rattle.jpql_trees.specs.declared.tree.Value.TheVariants as v
use Rattle.jpql_trees.specs.declared.tree.Condition.{Condition}
use Rattle.jpql_trees.specs.declared.tree.Condition.TheVariants as is
use Rattle.jpql_trees.specs.tree.Names.{Text}

-- ---- words

-- a word that may be left out, with how it is written where it isn't
abbrev pub Written : Type 0
Written = Option Text

-- a word that may be left out
abbrev pub write_word : Keyword → Written → List Token → List Token
write_word k None rest = rest
write_word k (Some w) rest = t.Key k w ∷ rest

-- whether the word is written
abbrev pub is_written : Written → Bool
is_written None = false
is_written (Some w) = true

-- op = "=" | "<>" | "<" | "<=" | ">" | ">="
abbrev pub comparison_mark : Comparison → Mark
comparison_mark c.Equal = m.Equal
comparison_mark c.Different = m.Different
comparison_mark c.Less = m.Less
comparison_mark c.AtMost = m.AtMost
comparison_mark c.Greater = m.Greater
comparison_mark c.AtLeast = m.AtLeast

-- ESCAPE text, with how the word is written
abbrev pub write_escape : Option (Text × Text) → List Token → List Token
write_escape None rest = rest
write_escape (Some e) rest = t.Key k.Escape e.0 ∷ t.Quoted e.1 ∷ rest

-- the text behind ESCAPE, where it is written
abbrev pub escape_text : Option (Text × Text) → Option Text
escape_text None = None
escape_text (Some e) = Some e.1

-- ---- as conditions

-- a NOT inside a test
abbrev pub negated_if : Bool → Condition → Condition
negated_if true a = is.Not a
negated_if false a = a

-- a test of values as a condition (chapters 4.6.7 to 4.6.11)
abbrev pub condition_of : Tested → Condition
condition_of (test.Compare op a b) = is.Compare op a b
condition_of (test.Between negated a b c) = negated_if negated (is.Between a b c)
condition_of (test.In negated a all) = negated_if negated (is.In a all)
condition_of (test.Like negated a b e) = negated_if negated (is.Like a b e)
condition_of (test.IsNull negated a) = negated_if negated (is.IsNull a)

-- ---- as values

-- a NOT of a truth
abbrev pub denied_if : Bool → Value → Value
denied_if true a = v.Call f.Not (a ∷ [])
denied_if false a = a

-- what stands behind ESCAPE, as a value
abbrev pub escape_values : Option Text → List Value
escape_values None = []
escape_values (Some e) = v.Text e ∷ []

-- a test of values as a value of CASE (chapter 4.7.4)
abbrev pub value_of : Tested → Value
value_of (test.Compare op a b) = v.Call (f.Test op) (a ∷ b ∷ [])
value_of (test.Between negated a b c) = denied_if negated (v.Call f.IsBetween (a ∷ b ∷ c ∷ []))
value_of (test.In negated a all) = denied_if negated (v.Call f.IsAmong (a ∷ all))
value_of (test.Like negated a b e) = denied_if negated (v.Call f.IsLike (a ∷ b ∷ escape_values e))
value_of (test.IsNull negated a) = denied_if negated (v.Call f.IsNull (a ∷ []))

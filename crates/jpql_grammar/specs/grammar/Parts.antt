-- Parts of values and tests: names, paths, the words of aggregates and quantifiers, what TRIM takes
-- off, and what is sorted by.
use Rattle.std.specs.Prelude.{List, [], ◌∷◌, map, Option, Some, None}
use Rattle.jpql_grammar.specs.declared.grammar.token.Keyword.{Keyword}
use Rattle.jpql_grammar.specs.declared.grammar.token.Keyword.TheVariants as k
use Rattle.jpql_grammar.specs.declared.grammar.token.Mark.TheVariants as m
use Rattle.jpql_grammar.specs.declared.grammar.token.Token.{Token}
use Rattle.jpql_grammar.specs.declared.grammar.token.Token.TheVariants as t
use Rattle.jpql_trees.specs.declared.tree.Function.TheVariants as f
use Rattle.jpql_trees.specs.declared.tree.Trimmed.{Trimmed}
use Rattle.jpql_trees.specs.declared.tree.Trimmed.TheVariants as side
use Rattle.jpql_trees.specs.declared.tree.Aggregate.{Aggregate}
use Rattle.jpql_trees.specs.declared.tree.Aggregate.TheVariants as g
use Rattle.jpql_trees.specs.declared.tree.Against.{Against}
use Rattle.jpql_trees.specs.declared.tree.Against.TheVariants as against
use Rattle.jpql_trees.specs.declared.tree.Comparison.{Comparison}
use Rattle.jpql_trees.specs.declared.tree.Comparison.TheVariants as c
use Rattle.jpql_trees.specs.declared.tree.Path.{Path}
use Rattle.jpql_trees.specs.declared.tree.Value.{Value}
use Rattle.jpql_trees.specs.declared.tree.Value.TheVariants as v
use Rattle.jpql_trees.specs.declared.tree.Sorted.{Sorted}
use Rattle.jpql_trees.specs.declared.tree.Sorted.TheVariants as by
use Rattle.jpql_trees.specs.tree.Names.{Text}

-- a word that stands for a name whether or not it is one of the grammar's
pub data Name : Type 0 where
  plain : Text → Name
  word : Keyword → Text → Name

-- the token of a name
abbrev pub name_token : Name → Token
name_token (plain w) = t.Word w
name_token (word k w) = t.Key k w

-- a name as it is written
abbrev pub name_text : Name → Text
name_text (plain w) = w
name_text (word k w) = w

-- path = var {"." name}
pub record Steps : Type 0 where
  pub variable : Text
  pub names : List Name

-- {"." name}
abbrev pub write_names : List Name → List Token → List Token
write_names [] rest = rest
write_names (n ∷ ns) rest = t.Mark m.Dot ∷ name_token n ∷ write_names ns rest

-- var {"." name} (chapter 4.4.4)
abbrev pub write_path : Steps → List Token → List Token
write_path p rest = t.Word p.variable ∷ write_names p.names rest

-- a path: its variable and its names
abbrev pub path_tree : Steps → Path
path_tree p = record { variable = p.variable; names = map name_text p.names }

-- the words that an aggregate is written by
abbrev pub aggregate_word : Aggregate → Keyword
aggregate_word g.Count = k.Count
aggregate_word g.Sum = k.Sum
aggregate_word g.Min = k.Min
aggregate_word g.Max = k.Max

-- ALL, ANY or SOME (chapter 4.6.15)
pub data Quantifier° : Type 0 where
  every : Text → Quantifier°
  any : Text → Quantifier°
  some : Text → Quantifier°

-- the tokens of a quantifier
abbrev pub write_quantifier : Quantifier° → List Token → List Token
write_quantifier (every w) rest = t.Key k.All w ∷ rest
write_quantifier (any w) rest = t.Key k.Any w ∷ rest
write_quantifier (some w) rest = t.Key k.Some w ∷ rest

-- which of the rows a quantifier means; SOME is ANY
abbrev pub quantifier_tree : Quantifier° → Against
quantifier_tree (every w) = against.All
quantifier_tree (any w) = against.Any
quantifier_tree (some w) = against.Any

-- a comparison, where its sides are turned round
abbrev pub turned : Comparison → Comparison
turned c.Equal = c.Equal
turned c.Different = c.Different
turned c.Less = c.Greater
turned c.AtMost = c.AtLeast
turned c.Greater = c.Less
turned c.AtLeast = c.AtMost

-- what TRIM takes off: a text or a parameter (chapter 4.7.2)
pub data Taken° : Type 0 where
  taken_text : Text → Taken°
  taken_parameter : Text → Taken°

-- what stands before the value that TRIM trims: nothing, side [t] FROM, or t FROM (chapter 4.7.2)
pub data Trimming° : Type 0 where
  unwritten_trimming : Trimming°
  sided : Trimmed → Text → Option Taken° → Text → Trimming°
  unsided : Taken° → Text → Trimming°

-- the word that a side is written by
abbrev pub side_word : Trimmed → Keyword
side_word side.Leading = k.Leading
side_word side.Trailing = k.Trailing
side_word side.Both = k.Both

-- the token of what TRIM takes off
abbrev pub taken_token : Taken° → Token
taken_token (taken_text w) = t.Quoted w
taken_token (taken_parameter w) = t.Parameter w

-- what TRIM takes off, where it is written
abbrev pub write_taken : Option Taken° → List Token → List Token
write_taken None rest = rest
write_taken (Some x) rest = taken_token x ∷ rest

-- the tokens before the value that TRIM trims
abbrev pub write_trimming : Trimming° → List Token → List Token
write_trimming unwritten_trimming rest = rest
write_trimming (sided h w x u) rest = t.Key (side_word h) w ∷ write_taken x (t.Key k.From u ∷ rest)
write_trimming (unsided x u) rest = taken_token x ∷ t.Key k.From u ∷ rest

-- the tree of what TRIM takes off
abbrev pub taken_tree : Taken° → Value
taken_tree (taken_text w) = v.Text w
taken_tree (taken_parameter w) = v.Parameter w

-- the tree of what TRIM takes off, where it is written
abbrev pub optional_taken : Option Taken° → Option Value
optional_taken None = None
optional_taken (Some x) = Some (taken_tree x)

-- what TRIM takes off, and the side: both, where none is written
abbrev pub trimming_tree : Trimming° → Trimmed × Option Value
trimming_tree unwritten_trimming = (side.Both, None)
trimming_tree (sided h w x u) = (h, optional_taken x)
trimming_tree (unsided x u) = (side.Both, Some (taken_tree x))

-- TRIM: the text that is trimmed comes first, then what is taken off where it is written
abbrev pub trimmed_value : Trimmed × Option Value → Value → Value
trimmed_value (h, None) a = v.Call (f.Trim h) (a ∷ [])
trimmed_value (h, Some x) a = v.Call (f.Trim h) (a ∷ x ∷ [])

-- what a key of ORDER BY sorts by, from its value and the path that this is, if it is one: a path of no
-- names is a result variable (chapter 4.10)
abbrev pub sorted_by : Option Path → Value → Sorted
sorted_by None a = by.Value a
sorted_by (Some p) a = of_names p.names
  where
    of_names : List Text → Sorted
    of_names [] = by.Name p.variable
    of_names (n ∷ ns) = by.Path p

-- What names no variable around it: none of the first n (chapter 4.6.16: a subquery that isn't
-- correlated).
use Rattle.std.specs.Prelude.{ℕ, Bool, true, false, ◌&&◌, nat_le, Option, Some, None}
use Rattle.std.specs.List.{list_all}
use Rattle.jpql_trees.specs.declared.typed.typed.TypedValue.{TypedValue, TypedValue-F, fold-TypedValue}
use Rattle.jpql_trees.specs.declared.typed.typed.TypedValue.TheOpen as part
use Rattle.jpql_trees.specs.declared.typed.typed.TypedOrigin.{TypedOrigin}
use Rattle.jpql_trees.specs.declared.typed.typed.TypedCondition.{TypedCondition, TypedCondition-F, fold-TypedCondition}
use Rattle.jpql_trees.specs.declared.typed.typed.TypedCondition.TheOpen as test
use Rattle.jpql_trees.specs.declared.typed.typed.TypedCondition.TheOpen.{TypedBlock-F, TypedJoin-F, TypedSource-F}
use Rattle.jpql_trees.specs.declared.typed.typed.TypedBlock.{TypedBlock, fold-TypedBlock}
use Rattle.jpql_trees.specs.declared.typed.typed.TypedJoin.{TypedJoin, fold-TypedJoin}
use Rattle.jpql_trees.specs.declared.typed.typed.TypedSource.{TypedSource, fold-TypedSource}

-- whether a condition is, where there is one
abbrev pub is_any_alone : Option Bool → Bool
is_any_alone None = true
is_any_alone (Some c) = c

module _ (n : ℕ) where
  -- a value, from whether its parts are
  abbrev pub value_step : TypedValue-F Bool → Bool
  value_step (part.Integer i) = true
  value_step (part.Text t) = true
  value_step (part.Parameter place) = true
  value_step (part.Path p) = nat_le n p.variable
  value_step (part.Signed sign a) = a
  value_step (part.Arithmetic op a b) = a && b
  value_step (part.Call f all) = list_all (λ a. a) all
  value_step (part.Size p) = nat_le n p.variable
  value_step (part.Aggregate g distinct a) = a

  -- whether a value names no variable around it
  abbrev pub is_alone_value : TypedValue → Bool
  is_alone_value = fold-TypedValue Bool value_step

  -- a condition, from whether its parts are
  abbrev pub condition_step : TypedCondition-F Bool Bool Bool Bool → Bool
  condition_step (test.Or a b) = a && b
  condition_step (test.And a b) = a && b
  condition_step (test.Not a) = a
  condition_step (test.Compare op a b) = is_alone_value a && is_alone_value b
  condition_step (test.Between a low high) = is_alone_value a && (is_alone_value low && is_alone_value high)
  condition_step (test.In a all) = is_alone_value a && list_all is_alone_value all
  condition_step (test.Like a pattern escape) = is_alone_value a && is_alone_value pattern
  condition_step (test.IsNull a) = is_alone_value a
  condition_step (test.IsEmpty p) = nat_le n p.variable
  condition_step (test.Member a p) = is_alone_value a && nat_le n p.variable
  condition_step (test.Exists b) = b
  condition_step (test.Rows against op a b) = is_alone_value a && b
  condition_step (test.«Type» place classes) = nat_le n place

  -- a nested SELECT: its item, its FROM and its WHERE
  abbrev pub block_step : TypedBlock-F Bool Bool Bool Bool → Bool
  block_step b = is_alone_value b.item && (list_all (λ a. a) b.sources && is_any_alone b.filter)

  -- a join: the variable that it goes from, and its ON
  abbrev pub join_step : TypedJoin-F Bool Bool Bool Bool → Bool
  join_step j = nat_le n j.of && is_any_alone j.on

  -- where a range's objects come from
  abbrev pub is_alone_origin : TypedOrigin → Bool
  is_alone_origin (TypedOrigin.Entity class) = true
  is_alone_origin (TypedOrigin.Related of step) = nat_le n of

  -- a range and its joins
  abbrev pub source_step : TypedSource-F Bool Bool Bool Bool → Bool
  source_step x = is_alone_origin x.origin && list_all (λ a. a) x.joins

  -- whether a condition names no variable around it
  abbrev pub is_alone : TypedCondition → Bool
  is_alone = fold-TypedCondition Bool Bool Bool Bool condition_step block_step join_step source_step

  -- whether a nested SELECT names no variable around it
  abbrev pub is_alone_block : TypedBlock → Bool
  is_alone_block = fold-TypedBlock Bool Bool Bool Bool condition_step block_step join_step source_step

  -- whether a join names no variable around it
  abbrev pub is_alone_join : TypedJoin → Bool
  is_alone_join = fold-TypedJoin Bool Bool Bool Bool condition_step block_step join_step source_step

  -- whether a range and its joins name no variable around it
  abbrev pub is_alone_source : TypedSource → Bool
  is_alone_source = fold-TypedSource Bool Bool Bool Bool condition_step block_step join_step source_step

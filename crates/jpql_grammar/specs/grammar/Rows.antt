-- Whether a statement compares a value with the rows of a subquery (chapters 4.6.9, 4.6.15 and 4.6.16).
use Rattle.std.specs.Prelude.{Bool, true, false, ◌||◌, List, [], ◌∷◌, map, Option, Some, None}
use Rattle.jpql_trees.specs.declared.tree.Condition.{Condition, Condition-F, fold-Condition}
use Rattle.jpql_trees.specs.declared.tree.Condition.TheOpen as layer
use Rattle.jpql_trees.specs.declared.tree.Condition.TheOpen.{Block-F, Join-F, Source-F}
use Rattle.jpql_trees.specs.declared.tree.Block.{Block, fold-Block}
use Rattle.jpql_trees.specs.declared.tree.Join.{Join, fold-Join}
use Rattle.jpql_trees.specs.declared.tree.Source.{Source, fold-Source}
use Rattle.jpql_trees.specs.declared.tree.Query.{Query}
use Rattle.jpql_trees.specs.declared.tree.Query.TheVariants as q

-- whether one of these is so
abbrev pub any_so : List Bool → Bool
any_so [] = false
any_so (b ∷ bs) = b || any_so bs

-- whether there is one, and it is so
abbrev pub if_so : Option Bool → Bool
if_so None = false
if_so (Some b) = b

-- a condition has rows, or one of its parts does
abbrev pub condition_step : Condition-F Bool Bool Bool Bool → Bool
condition_step (layer.Or a b) = a || b
condition_step (layer.And a b) = a || b
condition_step (layer.Not a) = a
condition_step (layer.Compare op a b) = false
condition_step (layer.Between a b c) = false
condition_step (layer.In a all) = false
condition_step (layer.Like a b escape) = false
condition_step (layer.IsNull a) = false
condition_step (layer.IsEmpty p) = false
condition_step (layer.Member a p) = false
condition_step (layer.Exists b) = b
condition_step (layer.Rows against op a b) = true
condition_step (layer.«Type» x names) = false

-- a nested SELECT: its FROM and its WHERE
abbrev pub block_step : Block-F Bool Bool Bool Bool → Bool
block_step b = any_so b.sources || if_so b.filter

-- a join: its ON
abbrev pub join_step : Join-F Bool Bool Bool Bool → Bool
join_step j = if_so j.on

-- a range: its joins
abbrev pub source_step : Source-F Bool Bool Bool Bool → Bool
source_step s = any_so s.joins

-- whether a value is compared with rows in a condition
abbrev pub has_rows : Condition → Bool
has_rows = fold-Condition Bool Bool Bool Bool condition_step block_step join_step source_step

-- the same in a nested SELECT
abbrev pub block_has_rows : Block → Bool
block_has_rows = fold-Block Bool Bool Bool Bool condition_step block_step join_step source_step

-- the same in a join
abbrev pub join_has_rows : Join → Bool
join_has_rows = fold-Join Bool Bool Bool Bool condition_step block_step join_step source_step

-- the same in a range and its joins
abbrev pub source_has_rows : Source → Bool
source_has_rows = fold-Source Bool Bool Bool Bool condition_step block_step join_step source_step

-- the same in a condition, where there is one
abbrev pub filter_has_rows : Option Condition → Bool
filter_has_rows None = false
filter_has_rows (Some c) = has_rows c

-- the same in a statement
abbrev pub query_has_rows : Query → Bool
query_has_rows (q.Select s) =
    any_so (map source_has_rows s.sources) || filter_has_rows s.filter || filter_has_rows s.having
query_has_rows (q.Update entity variable assignments filter) = filter_has_rows filter
query_has_rows (q.Delete entity variable filter) = filter_has_rows filter

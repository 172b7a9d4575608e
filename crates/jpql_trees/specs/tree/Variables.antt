-- How many variables a query declares: one for each variable of FROM and of a join, in nested
-- SELECTs too, and that of an UPDATE or a DELETE. The same name declared twice counts twice.
use Rattle.std.specs.Prelude.{ℕ, ◌+◌, map, sum, Option, Some, None}
use Rattle.jpql_trees.specs.declared.tree.Condition.{Condition, Condition-F, fold-Condition}
use Rattle.jpql_trees.specs.declared.tree.Condition.TheOpen as layer
use Rattle.jpql_trees.specs.declared.tree.Condition.TheOpen.{Block-F, Join-F, Source-F}
use Rattle.jpql_trees.specs.declared.tree.Block.{Block, fold-Block}
use Rattle.jpql_trees.specs.declared.tree.Join.{Join, fold-Join}
use Rattle.jpql_trees.specs.declared.tree.Source.{Source, fold-Source}
use Rattle.jpql_trees.specs.declared.tree.Query.{Query}
use Rattle.jpql_trees.specs.declared.tree.Query.TheVariants as q
use Rattle.jpql_trees.specs.tree.Names.{Text}

-- a number, or 0 where there is none
abbrev pub if_any : Option ℕ → ℕ
if_any None = 0
if_any (Some n) = n

-- the variables in a condition: those in its parts
abbrev pub condition_step : Condition-F ℕ ℕ ℕ ℕ → ℕ
condition_step (layer.Or a b) = a + b
condition_step (layer.And a b) = a + b
condition_step (layer.Not a) = a
condition_step (layer.Compare op a b) = 0
condition_step (layer.Between a b c) = 0
condition_step (layer.In a all) = 0
condition_step (layer.Like a b escape) = 0
condition_step (layer.IsNull a) = 0
condition_step (layer.IsEmpty p) = 0
condition_step (layer.Member a p) = 0
condition_step (layer.Exists b) = b
condition_step (layer.Rows against op a b) = b
condition_step (layer.«Type» x names) = 0

-- the variables in a nested SELECT: those of its FROM and its WHERE
abbrev pub block_step : Block-F ℕ ℕ ℕ ℕ → ℕ
block_step b = sum b.sources + if_any b.filter

-- a join's variable, and those in its ON
abbrev pub join_step : Join-F ℕ ℕ ℕ ℕ → ℕ
join_step j = 1 + if_any j.on

-- a range's variable, and those of its joins
abbrev pub source_step : Source-F ℕ ℕ ℕ ℕ → ℕ
source_step s = 1 + sum s.joins

-- how many variables a condition declares
abbrev pub in_condition : Condition → ℕ
in_condition = fold-Condition ℕ ℕ ℕ ℕ condition_step block_step join_step source_step

-- how many variables a nested SELECT declares
abbrev pub in_block : Block → ℕ
in_block = fold-Block ℕ ℕ ℕ ℕ condition_step block_step join_step source_step

-- how many variables a join declares
abbrev pub in_join : Join → ℕ
in_join = fold-Join ℕ ℕ ℕ ℕ condition_step block_step join_step source_step

-- how many variables a range and its joins declare
abbrev pub in_source : Source → ℕ
in_source = fold-Source ℕ ℕ ℕ ℕ condition_step block_step join_step source_step

-- how many variables a condition declares, where there is one
abbrev pub in_filter : Option Condition → ℕ
in_filter None = 0
in_filter (Some c) = in_condition c

-- 1 where there is a variable, else 0
abbrev pub one_if_any : Option Text → ℕ
one_if_any None = 0
one_if_any (Some x) = 1

-- how many variables a statement declares (chapter 4.4.2)
abbrev pub declared_variables : Query → ℕ
declared_variables (q.Select s) = sum (map in_source s.sources) + in_filter s.filter + in_filter s.having
declared_variables (q.Update entity variable assignments filter) = 1 + in_filter filter
declared_variables (q.Delete entity variable filter) = one_if_any variable + in_filter filter

-- The names that stand in a statement: its variables, those of its items, its parameters.
use Rattle.std.specs.Prelude.{List, [], ◌∷◌, ◌++◌, Option, Some, None}
use Rattle.std.specs.List.{flat_map}
use Rattle.jpql_trees.specs.declared.tree.Value.{Value, Value-F, fold-Value}
use Rattle.jpql_trees.specs.declared.tree.Value.TheOpen as part
use Rattle.jpql_trees.specs.declared.tree.Item.{Item}
use Rattle.jpql_trees.specs.declared.tree.Assignment.{Assignment}
use Rattle.jpql_trees.specs.declared.tree.Condition.{Condition, Condition-F, fold-Condition}
use Rattle.jpql_trees.specs.declared.tree.Condition.TheOpen as test
use Rattle.jpql_trees.specs.declared.tree.Condition.TheOpen.{Block-F, Join-F, Source-F}
use Rattle.jpql_trees.specs.declared.tree.Block.{Block, fold-Block}
use Rattle.jpql_trees.specs.declared.tree.Join.{Join, fold-Join}
use Rattle.jpql_trees.specs.declared.tree.Source.{Source, fold-Source}
use Rattle.jpql_trees.specs.declared.tree.Sorted.{Sorted}
use Rattle.jpql_trees.specs.declared.tree.SortKey.{SortKey}
use Rattle.jpql_trees.specs.declared.tree.Query.{Query}
use Rattle.jpql_trees.specs.tree.Names.{Text}
use Rattle.jpql_types.specs.declared.names.Names.{Names}

-- the names that are there, or none
abbrev pub or_nothing : Option (List Text) → List Text
or_nothing None = []
or_nothing (Some names) = names

-- lists, one behind the other, as one
abbrev pub joined_lists : List (List Text) → List Text
joined_lists = flat_map (λ names. names)

-- the parameters of a value, from those of its parts (chapter 4.6.4)
abbrev pub parameters_step : Value-F (List Text) → List Text
parameters_step (part.Integer n) = []
parameters_step (part.Text t) = []
parameters_step (part.Parameter name) = name ∷ []
parameters_step (part.Path p) = []
parameters_step (part.Signed s a) = a
parameters_step (part.Arithmetic op a b) = a ++ b
parameters_step (part.Call f all) = joined_lists all
parameters_step (part.Size p) = []
parameters_step (part.Aggregate g distinct a) = a

-- the parameters in a value where parameters are asked for, else nothing
abbrev pub in_value : Names → Value → List Text
in_value Names.Parameters value = fold-Value (List Text) parameters_step value
in_value _ value = []

-- an identification variable where variables are asked for, else nothing (chapter 4.4.2)
abbrev pub of_variable : Names → Text → List Text
of_variable Names.Variables x = x ∷ []
of_variable _ x = []

-- the result variable of an item where those of items are asked for, else nothing (chapter 4.9)
abbrev pub of_name : Names → Option Text → List Text
of_name Names.Items (Some name) = name ∷ []
of_name _ _ = []

-- the names in an item of SELECT: those in its value, then its own
abbrev pub in_item : Names → Item → List Text
in_item which i = in_value which i.value ++ of_name which i.name

-- ---- conditions and blocks

module _ (which : Names) where
  -- the names in a condition, from those in its parts
  abbrev pub condition_step : Condition-F (List Text) (List Text) (List Text) (List Text) → List Text
  condition_step (test.Or a b) = a ++ b
  condition_step (test.And a b) = a ++ b
  condition_step (test.Not a) = a
  condition_step (test.Compare op a b) = in_value which a ++ in_value which b
  condition_step (test.Between a b c) = in_value which a ++ in_value which b ++ in_value which c
  condition_step (test.In a all) = in_value which a ++ flat_map (in_value which) all
  condition_step (test.Like a b escape) = in_value which a ++ in_value which b
  condition_step (test.IsNull a) = in_value which a
  condition_step (test.IsEmpty p) = []
  condition_step (test.Member a p) = in_value which a
  condition_step (test.Exists b) = b
  condition_step (test.Rows against op a b) = in_value which a ++ b
  condition_step (test.«Type» x names) = []

  -- the names in a nested SELECT: in its item, its FROM and its WHERE
  abbrev pub block_step : Block-F (List Text) (List Text) (List Text) (List Text) → List Text
  block_step b = in_item which b.item ++ joined_lists b.sources ++ or_nothing b.filter

  -- a join's variable, then the names in its ON (chapter 4.4.5)
  abbrev pub join_step : Join-F (List Text) (List Text) (List Text) (List Text) → List Text
  join_step j = of_variable which j.variable ++ or_nothing j.on

  -- a range's variable, then the names in its joins (chapter 4.4.3)
  abbrev pub source_step : Source-F (List Text) (List Text) (List Text) (List Text) → List Text
  source_step s = of_variable which s.variable ++ joined_lists s.joins

  -- the names in a condition (chapter 4.6)
  abbrev pub in_condition : Condition → List Text
  in_condition = fold-Condition (List Text) (List Text) (List Text) (List Text) condition_step block_step join_step
      source_step

  -- the names in a nested SELECT (chapter 4.6.16)
  abbrev pub in_block : Block → List Text
  in_block = fold-Block (List Text) (List Text) (List Text) (List Text) condition_step block_step join_step source_step

  -- the names in a join (chapter 4.4.5)
  abbrev pub in_join : Join → List Text
  in_join = fold-Join (List Text) (List Text) (List Text) (List Text) condition_step block_step join_step source_step

  -- the names in a range and its joins (chapter 4.4.3)
  abbrev pub in_source : Source → List Text
  in_source = fold-Source (List Text) (List Text) (List Text) (List Text) condition_step block_step join_step
      source_step

  -- the names in a condition, where there is one
  abbrev pub in_filter : Option Condition → List Text
  in_filter None = []
  in_filter (Some c) = in_condition c

  -- ---- statements

  -- the names in the value that is assigned; NULL has none (chapter 4.11)
  abbrev pub in_assignment : Assignment → List Text
  in_assignment a = of a.value
    where
      of : Option Value → List Text
      of None = []
      of (Some value) = in_value which value

  -- the names in a key of ORDER BY that is a value; any other has none (chapter 4.10)
  abbrev pub in_key : SortKey → List Text
  in_key key = in_sorted key.by
    where
      in_sorted : Sorted → List Text
      in_sorted (Sorted.Name name) = []
      in_sorted (Sorted.Path p) = []
      in_sorted (Sorted.Value value) = in_value which value

  -- the variable of a DELETE, where one is written
  abbrev pub in_variable : Option Text → List Text
  in_variable None = []
  in_variable (Some x) = of_variable which x

  -- the names of the asked sort in a statement
  abbrev pub names_in : Query → List Text
  names_in (Query.Select s) =
      flat_map (in_item which) s.items ++ flat_map in_source s.sources ++ in_filter s.filter ++ in_filter s.having
      ++ flat_map in_key s.order
  names_in (Query.Update entity x assignments filter) =
      of_variable which x ++ flat_map in_assignment assignments ++ in_filter filter
  names_in (Query.Delete entity x filter) = in_variable x ++ in_filter filter

-- What the one object of a statement tells by its row: no path goes on from it to another object, and none names
-- a collection or an inverse side of a relation.
use Rattle.std.specs.Prelude.{ℕ, zero, suc, Bool, true, false, not, ◌&&◌, ◌||◌, List, [], ◌∷◌, length, Option, Some}
use Rattle.std.specs.Prelude.{None, option_map}
use Rattle.std.specs.List.{list_all}
use Rattle.jpa_model.specs.declared.unit.Member.{Member}
use Rattle.jpa_model.specs.declared.unit.PersistenceUnit.{PersistenceUnit}
use Rattle.jpa_model.specs.declared.unit.Side.{Side}
use Rattle.jpa_model.specs.Chains.{is_held_by, relation_at}
use Rattle.jpql_trees.specs.declared.typed.path.Step.{Step}
use Rattle.jpql_trees.specs.declared.typed.path.TypedPath.{TypedPath}
use Rattle.jpql_trees.specs.declared.typed.typed.TypedValue.{TypedValue, TypedValue-F, fold-TypedValue}
use Rattle.jpql_trees.specs.declared.typed.typed.TypedValue.TheOpen as part
use Rattle.jpql_trees.specs.declared.typed.typed.TypedCondition.{TypedCondition, TypedCondition-F, fold-TypedCondition}
use Rattle.jpql_trees.specs.declared.typed.typed.TypedCondition.TheOpen as test
use Rattle.jpql_trees.specs.declared.typed.typed.TypedCondition.TheOpen.{TypedBlock-F, TypedJoin-F, TypedSource-F}
use Rattle.jpql_trees.specs.declared.typed.typed.TypedKey.{TypedKey}
use Rattle.jpql_trees.specs.declared.typed.typed.TypedSelect.{TypedSelect}
use Rattle.jpql_trees.specs.declared.typed.typed.TypedSorted.{TypedSorted}

-- whether a side is the owning one of a relation to one object, whose link stands in the owner's row (chapter 2.10)
abbrev pub is_single_side : Side → Bool
is_single_side (Side.ManyToOne c) = true
is_single_side (Side.OneToOne c) = true
is_single_side (Side.OneToOneInverse owner) = false
is_single_side (Side.OneToMany owner) = false
is_single_side (Side.ManyToMany table) = false
is_single_side (Side.ManyToManyInverse owner) = false

-- it holds of all numbers below this one
abbrev pub all_below : (ℕ → Bool) → ℕ → Bool
all_below p zero = true
all_below p (suc n) = p n && all_below p n

module _ (m : PersistenceUnit) where
  -- objects of the class that hold the relation own it, and it leads to one object
  abbrev pub is_single_if_held : ℕ → ℕ → ℕ → Bool
  is_single_if_held class r kind = not (is_held_by m class r kind) || is_single_side (relation_at m kind r).side

  -- whether objects of a class tell a member by their rows: it is no collection and no inverse side (chapter 2.10)
  abbrev pub is_own_member : ℕ → Member → Bool
  is_own_member class (Member.KeyPart i) = true
  is_own_member class Member.Version = true
  is_own_member class (Member.Attribute i) = true
  is_own_member class (Member.Relation r) = all_below (is_single_if_held class r) (length m.entities)

  -- whether steps are none, or one to a member that the object tells by itself (chapter 4.4.4)
  abbrev pub are_own_steps : List Step → Bool
  are_own_steps [] = true
  are_own_steps (step ∷ []) = is_own_member step.class step.member
  are_own_steps (step ∷ after ∷ steps) = false

  -- whether a path is a variable, or one step to what its object tells by itself (chapter 4.4.4)
  abbrev pub is_own_path : TypedPath → Bool
  is_own_path p = are_own_steps p.steps

  -- ---- values

  -- whether the object tells a value by itself, from its parts, and never SIZE (chapter 4.7)
  abbrev pub value_step : TypedValue-F Bool → Bool
  value_step (part.Integer n) = true
  value_step (part.Text t) = true
  value_step (part.Parameter place) = true
  value_step (part.Path p) = is_own_path p
  value_step (part.Signed sign a) = a
  value_step (part.Arithmetic op a b) = a && b
  value_step (part.Call f all) = list_all (λ a. a) all
  value_step (part.Size p) = false
  value_step (part.Aggregate g distinct a) = a

  -- whether the object tells a value by itself: all its paths, and no SIZE (chapter 4.7)
  abbrev pub is_own_value : TypedValue → Bool
  is_own_value = fold-TypedValue Bool value_step

  -- ---- conditions

  -- whether the object tells a condition by itself, from its parts, without a collection or a
  -- nested SELECT (chapter 4.6)
  abbrev pub condition_step : TypedCondition-F Bool Bool Bool Bool → Bool
  condition_step (test.Or a b) = a && b
  condition_step (test.And a b) = a && b
  condition_step (test.Not a) = a
  condition_step (test.Compare op a b) = is_own_value a && is_own_value b
  condition_step (test.Between a low high) = is_own_value a && (is_own_value low && is_own_value high)
  condition_step (test.In a all) = is_own_value a && list_all is_own_value all
  condition_step (test.Like a pattern escape) = is_own_value a && is_own_value pattern
  condition_step (test.IsNull a) = is_own_value a
  condition_step (test.IsEmpty p) = false
  condition_step (test.Member a p) = false
  condition_step (test.Exists b) = false
  condition_step (test.Rows against op a b) = false
  condition_step (test.«Type» place classes) = true

  -- the object never tells a nested SELECT by itself (chapter 4.6.16)
  abbrev pub block_step : TypedBlock-F Bool Bool Bool Bool → Bool
  block_step b = false

  -- the object never tells a join by itself (chapter 4.4.5)
  abbrev pub join_step : TypedJoin-F Bool Bool Bool Bool → Bool
  join_step j = false

  -- the object never tells a range by itself (chapter 4.4.3)
  abbrev pub source_step : TypedSource-F Bool Bool Bool Bool → Bool
  source_step x = false

  -- whether the object tells a condition by itself: its values, no collection and no nested SELECT
  -- (chapter 4.6)
  abbrev pub is_own_condition : TypedCondition → Bool
  is_own_condition = fold-TypedCondition Bool Bool Bool Bool condition_step block_step join_step source_step

  -- what is known of a condition, and true where there is none
  abbrev pub is_any : Option Bool → Bool
  is_any None = true
  is_any (Some own) = own

  -- whether the object tells a WHERE or HAVING by itself, if there is one (chapters 4.5 and 4.8)
  abbrev pub is_any_own : Option TypedCondition → Bool
  is_any_own c = is_any (option_map is_own_condition c)

  -- ---- statements, but for FROM

  -- whether ORDER BY goes by an item, or by a path or value that the object tells by itself (chapter 4.10)
  abbrev pub is_own_sorted : TypedSorted → Bool
  is_own_sorted (TypedSorted.Item n) = true
  is_own_sorted (TypedSorted.Path p) = is_own_path p
  is_own_sorted (TypedSorted.Value v) = is_own_value v

  -- whether a key of ORDER BY goes by an item, or by such a path or value (chapter 4.10)
  abbrev pub is_own_key : TypedKey → Bool
  is_own_key key = is_own_sorted key.by

  -- whether the object tells all of a SELECT by itself, but its FROM (chapter 4.2.1)
  abbrev pub is_own_select : TypedSelect → Bool
  is_own_select q =
      list_all is_own_value q.items
      && (is_any_own q.filter
      && (list_all is_own_path q.groups && (is_any_own q.having && list_all is_own_key q.order)))

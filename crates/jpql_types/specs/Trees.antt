-- The trees of well-typed statements: those that are written, with places for names. A name that
-- means nothing, which no well-typed statement has, stands at place 0.
use Rattle.std.specs.Prelude.{ℕ, Bool, List, [], ◌∷◌, map, is_some, Option, option_map, unwrap_or}
use Rattle.std.specs.List.{position_from}
use Rattle.jpa_model.specs.Chains.{same_name, class_of}
use Rattle.jpa_model.specs.WellFormed.{is_some_that}
use Rattle.jpa_model.specs.declared.unit.PersistenceUnit.{PersistenceUnit}
use Rattle.jpa_model.specs.declared.unit.Member.{Member}
use Rattle.jpql_trees.specs.declared.tree.Path.{Path}
use Rattle.jpql_trees.specs.declared.tree.Origin.{Origin}
use Rattle.jpql_trees.specs.declared.tree.Value.{Value, Value-F, fold-Value}
use Rattle.jpql_trees.specs.declared.tree.Value.TheOpen as part
use Rattle.jpql_trees.specs.declared.tree.Item.{Item}
use Rattle.jpql_trees.specs.declared.tree.Condition.{Condition, Condition-F, fold-Condition}
use Rattle.jpql_trees.specs.declared.tree.Condition.TheOpen as test
use Rattle.jpql_trees.specs.declared.tree.Condition.TheOpen.{Block-F, Join-F, Source-F}
use Rattle.jpql_trees.specs.declared.tree.Block.{Block, fold-Block}
use Rattle.jpql_trees.specs.declared.tree.Join.{Join, fold-Join}
use Rattle.jpql_trees.specs.declared.tree.Source.{Source, fold-Source}
use Rattle.jpql_trees.specs.declared.tree.Sorted.{Sorted}
use Rattle.jpql_trees.specs.declared.tree.SortKey.{SortKey}
use Rattle.jpql_trees.specs.declared.tree.Select.{Select}
use Rattle.jpql_trees.specs.declared.tree.Assignment.{Assignment}
use Rattle.jpql_trees.specs.declared.tree.Query.{Query}
use Rattle.jpql_trees.specs.tree.Names.{Text}
use Rattle.jpql_trees.specs.declared.typed.path.Step.{Step}
use Rattle.jpql_trees.specs.declared.typed.path.TypedPath.{TypedPath}
use Rattle.jpql_types.specs.declared.sort.Sort.{Sort}
use Rattle.jpql_trees.specs.declared.typed.typed.TypedValue.{TypedValue}
use Rattle.jpql_trees.specs.declared.typed.typed.TypedValue.TheVariants as v
use Rattle.jpql_trees.specs.declared.typed.typed.TypedOrigin.{TypedOrigin}
use Rattle.jpql_trees.specs.declared.typed.typed.TypedCondition.{TypedCondition}
use Rattle.jpql_trees.specs.declared.typed.typed.TypedCondition.TheVariants as is
use Rattle.jpql_trees.specs.declared.typed.typed.TypedSource.{TypedSource, roll-TypedSource}
use Rattle.jpql_trees.specs.declared.typed.typed.TypedJoin.{TypedJoin, roll-TypedJoin}
use Rattle.jpql_trees.specs.declared.typed.typed.TypedBlock.{TypedBlock, roll-TypedBlock}
use Rattle.jpql_trees.specs.declared.typed.typed.TypedSorted.{TypedSorted}
use Rattle.jpql_trees.specs.declared.typed.typed.TypedKey.{TypedKey}
use Rattle.jpql_trees.specs.declared.typed.typed.TypedSelect.{TypedSelect}
use Rattle.jpql_trees.specs.declared.typed.typed.TypedAssignment.{TypedAssignment}
use Rattle.jpql_trees.specs.declared.typed.typed.Typed.{Typed}
use Rattle.jpql_types.specs.Scope.{Scope, place_of, path_of, step_from, target}
use Rattle.jpql_types.specs.Typing.{with_variable, scope_of}

-- the step of a name that means nothing
abbrev pub no_step : ℕ × Step
no_step = (0, record { class = 0; member = Member.Version })

-- the path of names that mean nothing
abbrev pub no_path : TypedPath
no_path = record { variable = 0; class = 0; steps = [] }

-- a place, or 0 where there is none
abbrev pub place : Option ℕ → ℕ
place p = unwrap_or p 0

-- the place of a parameter among those that are given
abbrev pub place_of_parameter : List (Text × Sort) → Text → ℕ
place_of_parameter parameters name = place (position_from (λ p. same_name p.0 name) 0 parameters)

-- in turn, each in the scope that those before it leave
abbrev pub in_scope : {A : Type 0} → List (Scope → A × Scope) → Scope → List A × Scope
in_scope [] scope = ([], scope)
in_scope (one ∷ more) scope = let first = one scope in let rest = in_scope more first.1 in (first.0 ∷ rest.0, rest.1)

-- whether an item has this name
abbrev pub is_named : Text → Item → Bool
is_named name i = is_some_that (same_name name) i.name

module _ (m : PersistenceUnit) (parameters : List (Text × Sort)) where
  -- a path, with places for its names
  abbrev pub typed_path : Scope → Path → TypedPath
  typed_path scope p = unwrap_or (path_of m scope p) no_path

  -- a step from a variable to a member: the variable's place, and the step
  abbrev pub typed_step : Scope → Text → Text → ℕ × Step
  typed_step scope x name = unwrap_or (step_from m scope x name) no_step

  -- the place of the entity of a name
  abbrev pub class_named : Text → ℕ
  class_named name = place (class_of m name)

  -- the tree of a value, from its parts as they are written and places for their names
  abbrev pub value_step : Scope → Value-F TypedValue → TypedValue
  value_step scope (part.Integer n) = v.Integer n
  value_step scope (part.Text t) = v.Text t
  value_step scope (part.Parameter name) = v.Parameter (place_of_parameter parameters name)
  value_step scope (part.Path p) = v.Path (typed_path scope p)
  value_step scope (part.Signed s a) = v.Signed s a
  value_step scope (part.Arithmetic op a b) = v.Arithmetic op a b
  value_step scope (part.Call f all) = v.Call f all
  value_step scope (part.Size p) = v.Size (typed_path scope p)
  value_step scope (part.Aggregate g distinct a) = v.Aggregate g distinct a

  -- the tree of a value in a scope
  abbrev pub typed_value : Scope → Value → TypedValue
  typed_value scope = fold-Value TypedValue (value_step scope)

  -- ---- conditions and FROM

  -- the tree of a condition, by the scope that it stands in
  abbrev pub Condition-in : Type 0
  Condition-in = Scope → TypedCondition

  -- the tree of a nested SELECT, by the scope around it
  abbrev pub Block-in : Type 0
  Block-in = Scope → TypedBlock

  -- the tree of a join and the scope behind it, by the scope before it
  abbrev pub Join-in : Type 0
  Join-in = Scope → TypedJoin × Scope

  -- the tree of a range and the scope behind it, by the scope before it
  abbrev pub Source-in : Type 0
  Source-in = Scope → TypedSource × Scope

  -- the tree of a condition, from those of its parts in the same scope
  abbrev pub test_step : Condition-F Condition-in Block-in Join-in Source-in → Condition-in
  test_step (test.Or a b) scope = is.Or (a scope) (b scope)
  test_step (test.And a b) scope = is.And (a scope) (b scope)
  test_step (test.Not a) scope = is.Not (a scope)
  test_step (test.Compare op a b) scope = is.Compare op (typed_value scope a) (typed_value scope b)
  test_step (test.Between a b c) scope = is.Between (typed_value scope a) (typed_value scope b) (typed_value scope c)
  test_step (test.In a all) scope = is.In (typed_value scope a) (map (typed_value scope) all)
  test_step (test.Like a b escape) scope = is.Like (typed_value scope a) (typed_value scope b) escape
  test_step (test.IsNull a) scope = is.IsNull (typed_value scope a)
  test_step (test.IsEmpty p) scope = is.IsEmpty (typed_path scope p)
  test_step (test.Member a p) scope = is.Member (typed_value scope a) (typed_path scope p)
  test_step (test.Exists b) scope = is.Exists (b scope)
  test_step (test.Rows against op a b) scope = is.Rows against op (typed_value scope a) (b scope)
  test_step (test.«Type» x names) scope = is.«Type» (place (place_of scope x)) (map class_named names)

  -- the tree of a nested SELECT: its item and its WHERE stand in the scope behind its FROM
  abbrev pub block_step : Block-F Condition-in Block-in Join-in Source-in → Block-in
  block_step b outer =
      let from = in_scope b.sources outer in
      roll-TypedBlock (record {
        item = typed_value from.1 (b.item).value;
        sources = from.0;
        filter = option_map (λ c. c from.1) b.filter;
      })

  -- the tree of a join, whose ON may name the join's own variable (chapter 4.4.5)
  abbrev pub join_step : Join-F Condition-in Block-in Join-in Source-in → Join-in
  join_step j scope =
      let related = typed_step scope j.of j.relation in
      let wider = with_variable scope j.variable (place (target m related.1)) in (
        roll-TypedJoin (record {
          is_left = j.is_left;
          of = related.0;
          step = related.1;
          on = option_map (λ c. c wider) j.on;
        }),
        wider,
      )

  -- the tree of what a range ranges over, and the class of its objects (chapter 4.4.3)
  abbrev pub typed_origin : Scope → Origin → TypedOrigin × ℕ
  typed_origin scope (Origin.Entity name) = let class = class_named name in (TypedOrigin.Entity class, class)
  typed_origin scope (Origin.Related x name) =
      let related = typed_step scope x name in (TypedOrigin.Related related.0 related.1, place (target m related.1))

  -- the tree of a range, with its joins in turn (chapter 4.4.3)
  abbrev pub source_step : Source-F Condition-in Block-in Join-in Source-in → Source-in
  source_step s scope =
      let origin = typed_origin scope s.origin in
      let joins = in_scope s.joins (with_variable scope s.variable origin.1) in
      (roll-TypedSource (record { origin = origin.0; joins = joins.0 }), joins.1)

  -- the tree of a condition
  abbrev pub typed_condition : Condition → Condition-in
  typed_condition = fold-Condition Condition-in Block-in Join-in Source-in test_step block_step join_step source_step

  -- the tree of a range
  abbrev pub typed_source : Source → Source-in
  typed_source = fold-Source Condition-in Block-in Join-in Source-in test_step block_step join_step source_step

  -- the tree of a nested SELECT
  abbrev pub typed_block : Block → Block-in
  typed_block = fold-Block Condition-in Block-in Join-in Source-in test_step block_step join_step source_step

  -- the tree of a join
  abbrev pub typed_join : Join → Join-in
  typed_join = fold-Join Condition-in Block-in Join-in Source-in test_step block_step join_step source_step

  -- the tree of a condition in a scope, where there is one
  abbrev pub typed_filter : Scope → Option Condition → Option TypedCondition
  typed_filter scope filter = option_map (λ c. typed_condition c scope) filter

  -- ---- statements

  -- the tree of a key of ORDER BY: the place of an item, a path or another value (chapter 4.10)
  abbrev pub typed_key : Scope → List Item → SortKey → TypedKey
  typed_key scope items key = record { by = by key.by; is_descending = key.is_descending }
    where
      by : Sorted → TypedSorted
      by (Sorted.Name name) = TypedSorted.Item (place (position_from (is_named name) 0 items))
      by (Sorted.Path p) = TypedSorted.Path (typed_path scope p)
      by (Sorted.Value value) = TypedSorted.Value (typed_value scope value)

  -- a SELECT in the scope that its FROM makes
  abbrev pub typed_select_in : Select → Scope → List TypedSource → TypedSelect
  typed_select_in q scope sources = record {
    is_distinct = q.is_distinct;
    items = map (λ i. typed_value scope i.value) q.items;
    sources = sources;
    filter = typed_filter scope q.filter;
    groups = map (typed_path scope) q.groups;
    having = typed_filter scope q.having;
    order = map (typed_key scope q.items) q.order;
  }

  -- the tree of a SELECT, whose FROM begins without variables (chapter 4.2.1)
  abbrev pub typed_select : Select → TypedSelect
  typed_select q = let from = in_scope (map typed_source q.sources) [] in typed_select_in q from.1 from.0

  -- the tree of an assignment: its member, and its value if that isn't NULL (chapter 4.11)
  abbrev pub typed_assignment : Scope → Assignment → TypedAssignment
  typed_assignment scope a =
      record { member = (typed_step scope a.variable a.name).1.member; value = option_map (typed_value scope) a.value }

  -- the tree of a statement (chapter 4.2)
  abbrev pub typed_statement : Query → Typed
  typed_statement (Query.Select q) = Typed.Select (typed_select q)
  typed_statement (Query.Update entity x assignments filter) =
      let class = class_named entity in
      let scope = with_variable [] x class in
      Typed.Update class (map (typed_assignment scope) assignments) (typed_filter scope filter)
  typed_statement (Query.Delete entity x filter) =
      let class = class_named entity in
      Typed.Delete class (is_some x) (typed_filter (scope_of x class) filter)

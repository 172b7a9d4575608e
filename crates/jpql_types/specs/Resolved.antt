-- The trees of statements in which each name of an entity, a variable, a relation, an attribute and an item means
-- something: those of Trees, and none where one means nothing. No place stands in for another here.
use Rattle.std.specs.Prelude.{◌≡◌, ℕ, List, [], ◌∷◌, map, is_some, Option, Some, None, option_map, Ok}
use Rattle.std.specs.List.{position_from}
use Rattle.jpa_model.specs.Chains.{class_of}
use Rattle.jpa_model.specs.declared.unit.PersistenceUnit.{PersistenceUnit}
use Rattle.jpql_trees.specs.declared.tree.Origin.{Origin}
use Rattle.jpql_trees.specs.declared.tree.Value.{Value, Value-F, fold-Value}
use Rattle.jpql_trees.specs.declared.tree.Value.TheOpen as part
use Rattle.jpql_trees.specs.declared.tree.Item.{Item}
use Rattle.jpql_trees.specs.declared.tree.Condition.{Condition, Condition-F, fold-Condition}
use Rattle.jpql_trees.specs.declared.tree.Condition.TheOpen as test
use Rattle.jpql_trees.specs.declared.tree.Condition.TheOpen.{Block-F, Join-F, Source-F}
use Rattle.jpql_trees.specs.declared.tree.Block.{Block, fold-Block}
use Rattle.jpql_trees.specs.declared.tree.Join.{Join, fold-Join}
use Rattle.jpql_trees.specs.declared.tree.Source.{Source, fold-Source}
use Rattle.jpql_trees.specs.declared.tree.Sorted.{Sorted}
use Rattle.jpql_trees.specs.declared.tree.SortKey.{SortKey}
use Rattle.jpql_trees.specs.declared.tree.Select.{Select}
use Rattle.jpql_trees.specs.declared.tree.Assignment.{Assignment}
use Rattle.jpql_trees.specs.declared.tree.Language.{Language}
use Rattle.jpql_trees.specs.declared.tree.Query.{Query}
use Rattle.jpql_trees.specs.tree.Names.{Text}
use Rattle.jpql_trees.specs.tree.Steps.{◌>>=◌}
use Rattle.jpql_types.specs.declared.sort.Sort.{Sort}
use Rattle.jpql_trees.specs.declared.typed.typed.TypedValue.{TypedValue}
use Rattle.jpql_trees.specs.declared.typed.typed.TypedValue.TheVariants as v
use Rattle.jpql_trees.specs.declared.typed.typed.TypedOrigin.{TypedOrigin}
use Rattle.jpql_trees.specs.declared.typed.typed.TypedCondition.{TypedCondition}
use Rattle.jpql_trees.specs.declared.typed.typed.TypedCondition.TheVariants as is
use Rattle.jpql_trees.specs.declared.typed.typed.TypedSource.{TypedSource, roll-TypedSource}
use Rattle.jpql_trees.specs.declared.typed.typed.TypedJoin.{TypedJoin, roll-TypedJoin}
use Rattle.jpql_trees.specs.declared.typed.typed.TypedBlock.{TypedBlock, roll-TypedBlock}
use Rattle.jpql_trees.specs.declared.typed.typed.TypedSorted.{TypedSorted}
use Rattle.jpql_trees.specs.declared.typed.typed.TypedKey.{TypedKey}
use Rattle.jpql_trees.specs.declared.typed.typed.TypedSelect.{TypedSelect}
use Rattle.jpql_trees.specs.declared.typed.typed.TypedAssignment.{TypedAssignment}
use Rattle.jpql_trees.specs.declared.typed.typed.Typed.{Typed}
use Rattle.jpql_types.specs.Scope.{Scope, place_of, path_of, step_from, target}
use Rattle.jpql_types.specs.Typing.{all_some, with_variable, scope_of}
use Rattle.jpql_types.specs.Statements.{checked}
use Rattle.jpql_types.specs.Trees.{place_of_parameter, is_named}

-- what is made of two things where both mean something, else none
abbrev pub both : {A B C : Type 0} → (A → B → C) → Option A → Option B → Option C
both f a b = a >>= λ x. option_map (f x) b

-- nothing is written, or what is written means something
abbrev pub if_written : {A B : Type 0} → (A → Option B) → Option A → Option (Option B)
if_written f None = Some None
if_written f (Some a) = option_map Some (f a)

-- in turn, each in the scope that those before it leave
abbrev pub in_scope : {A : Type 0} → List (Scope → Option (A × Scope)) → Scope → Option (List A × Scope)
in_scope [] scope = Some ([], scope)
in_scope (one ∷ more) scope =
    one scope >>= λ first. option_map (λ rest. (first.0 ∷ rest.0, rest.1)) (in_scope more first.1)

module _ (m : PersistenceUnit) (parameters : List (Text × Sort)) where
  -- ---- values; that the parameters are those that are given, a check asks by itself

  -- the tree of a value from its parts, none where a path in it means nothing (chapter 4.7)
  abbrev pub value_step : Scope → Value-F (Option TypedValue) → Option TypedValue
  value_step scope (part.Integer n) = Some (v.Integer n)
  value_step scope (part.Text t) = Some (v.Text t)
  value_step scope (part.Parameter name) = Some (v.Parameter (place_of_parameter parameters name))
  value_step scope (part.Path p) = option_map v.Path (path_of m scope p)
  value_step scope (part.Signed s a) = option_map (v.Signed s) a
  value_step scope (part.Arithmetic op a b) = both (v.Arithmetic op) a b
  value_step scope (part.Call f all) = option_map (v.Call f) (all_some all)
  value_step scope (part.Size p) = option_map v.Size (path_of m scope p)
  value_step scope (part.Aggregate g distinct a) = option_map (v.Aggregate g distinct) a

  -- the tree of a value in a scope, none where a path in it means nothing (chapter 4.7)
  abbrev pub value : Scope → Value → Option TypedValue
  value scope = fold-Value (Option TypedValue) (value_step scope)

  -- ---- conditions and FROM

  -- the tree of a condition, if its names mean something, by the scope around it (chapter 4.6)
  abbrev pub Condition-in : Type 0
  Condition-in = Scope → Option TypedCondition

  -- a nested SELECT's tree, if its names mean something, by the scope around it (chapter 4.6.16)
  abbrev pub Block-in : Type 0
  Block-in = Scope → Option TypedBlock

  -- a join's tree and the scope behind it, if its names mean something, by the scope before it
  -- (chapter 4.4.5)
  abbrev pub Join-in : Type 0
  Join-in = Scope → Option (TypedJoin × Scope)

  -- a range's tree and the scope behind it, if its names mean something, by the scope before it
  -- (chapter 4.4.3)
  abbrev pub Source-in : Type 0
  Source-in = Scope → Option (TypedSource × Scope)

  -- the tree of a condition from its parts, none where a path, variable or class means nothing
  -- (chapter 4.6)
  abbrev pub test_step : Condition-F Condition-in Block-in Join-in Source-in → Condition-in
  test_step (test.Or a b) scope = both is.Or (a scope) (b scope)
  test_step (test.And a b) scope = both is.And (a scope) (b scope)
  test_step (test.Not a) scope = option_map is.Not (a scope)
  test_step (test.Compare op a b) scope = both (is.Compare op) (value scope a) (value scope b)
  test_step (test.Between a b c) scope = value scope a >>= λ x. both (is.Between x) (value scope b) (value scope c)
  test_step (test.In a all) scope = both is.In (value scope a) (all_some (map (value scope) all))
  test_step (test.Like a b escape) scope = both (λ x y. is.Like x y escape) (value scope a) (value scope b)
  test_step (test.IsNull a) scope = option_map is.IsNull (value scope a)
  test_step (test.IsEmpty p) scope = option_map is.IsEmpty (path_of m scope p)
  test_step (test.Member a p) scope = both is.Member (value scope a) (path_of m scope p)
  test_step (test.Exists b) scope = option_map is.Exists (b scope)
  test_step (test.Rows against op a b) scope = both (is.Rows against op) (value scope a) (b scope)
  test_step (test.«Type» x names) scope = both is.«Type» (place_of scope x) (all_some (map (class_of m) names))

  -- the tree of a nested SELECT, where its FROM, and behind it its item and WHERE, mean something
  -- (chapter 4.6.16)
  abbrev pub block_step : Block-F Condition-in Block-in Join-in Source-in → Block-in
  block_step b outer =
      in_scope b.sources outer >>= λ from.
      both (λ item filter. roll-TypedBlock (record { item = item; sources = from.0; filter = filter }))
      (value from.1 (b.item).value) (if_written (λ c. c from.1) b.filter)

  -- the tree of a join, where its relation and its ON, which may name its variable, mean something
  -- (chapter 4.4.5)
  abbrev pub join_step : Join-F Condition-in Block-in Join-in Source-in → Join-in
  join_step j scope =
      step_from m scope j.of j.relation >>= λ related. target m related.1 >>= λ class.
      let wider = with_variable scope j.variable class in
      option_map (λ on. (
        roll-TypedJoin (record { is_left = j.is_left; of = related.0; step = related.1; on = on }),
        wider,
      )) (if_written (λ c. c wider) j.on)

  -- what a range ranges over, and its class, where the names mean something (chapter 4.4.3)
  abbrev pub origin : Scope → Origin → Option (TypedOrigin × ℕ)
  origin scope (Origin.Entity name) = option_map (λ class. (TypedOrigin.Entity class, class)) (class_of m name)
  origin scope (Origin.Related x name) = step_from m scope x name
      >>= λ related. option_map (λ class. (TypedOrigin.Related related.0 related.1, class)) (target m related.1)

  -- the tree of a range and its joins in turn, where its origin and each join mean something
  -- (chapter 4.4.3)
  abbrev pub source_step : Source-F Condition-in Block-in Join-in Source-in → Source-in
  source_step s scope =
      origin scope s.origin >>= λ from.
      option_map (λ joins. (roll-TypedSource (record { origin = from.0; joins = joins.0 }), joins.1))
      (in_scope s.joins (with_variable scope s.variable from.1))

  -- the tree of a condition in a scope, where its names mean something (chapter 4.6)
  abbrev pub condition : Condition → Condition-in
  condition = fold-Condition Condition-in Block-in Join-in Source-in test_step block_step join_step source_step

  -- the tree of a range with its joins, where their names mean something (chapter 4.4.3)
  abbrev pub source : Source → Source-in
  source = fold-Source Condition-in Block-in Join-in Source-in test_step block_step join_step source_step

  -- the tree of a nested SELECT, where its names mean something (chapter 4.6.16)
  abbrev pub block : Block → Block-in
  block = fold-Block Condition-in Block-in Join-in Source-in test_step block_step join_step source_step

  -- the tree of a join, where its names mean something (chapter 4.4.5)
  abbrev pub join : Join → Join-in
  join = fold-Join Condition-in Block-in Join-in Source-in test_step block_step join_step source_step

  -- the tree of WHERE or HAVING, if written, where its names mean something (chapters 4.5 and 4.8)
  abbrev pub filtered : Scope → Option Condition → Option (Option TypedCondition)
  filtered scope = if_written (λ c. condition c scope)

  -- ---- statements

  -- what a key of ORDER BY sorts by, if it means something: an item, a path or a value (chapter 4.10)
  abbrev pub sorted : Scope → List Item → Sorted → Option TypedSorted
  sorted scope items (Sorted.Name name) = option_map TypedSorted.Item (position_from (is_named name) 0 items)
  sorted scope items (Sorted.Path p) = option_map TypedSorted.Path (path_of m scope p)
  sorted scope items (Sorted.Value a) = option_map TypedSorted.Value (value scope a)

  -- the tree of a key of ORDER BY, where what it names means something (chapter 4.10)
  abbrev pub key_in : Scope → List Item → SortKey → Option TypedKey
  key_in scope items key =
      option_map (λ by. record { by = by; is_descending = key.is_descending }) (sorted scope items key.by)

  -- a SELECT in the scope that its FROM makes
  abbrev pub select_in : Select → Scope → List TypedSource → Option TypedSelect
  select_in q scope sources =
      all_some (map (λ i. value scope i.value) q.items) >>= λ items. filtered scope q.filter
      >>= λ where_. all_some (map (path_of m scope) q.groups) >>= λ groups.
      both (λ having order. record {
        is_distinct = q.is_distinct;
        items = items;
        sources = sources;
        filter = where_;
        groups = groups;
        having = having;
        order = order;
      })
      (filtered scope q.having) (all_some (map (key_in scope q.items) q.order))

  -- an assignment's tree, if its member, and its value unless NULL, mean something (chapter 4.11)
  abbrev pub assignment : Scope → Assignment → Option TypedAssignment
  assignment scope a = step_from m scope a.variable a.name
      >>= λ s. option_map (λ set. record { member = (s.1).member; value = set }) (if_written (value scope) a.value)

  -- the tree of a statement, where each name of an entity, variable, member and item means
  -- something (chapter 4.2)
  abbrev pub statement : Query → Option Typed
  statement (Query.Select q) =
      in_scope (map source q.sources) [] >>= λ from. option_map Typed.Select (select_in q from.1 from.0)
  statement (Query.Update entity x assignments where_) =
      class_of m entity >>= λ class.
      let scope = with_variable [] x class in
      both (Typed.Update class) (all_some (map (assignment scope) assignments)) (filtered scope where_)
  statement (Query.Delete entity x where_) =
      class_of m entity >>= λ class. option_map (Typed.Delete class (is_some x)) (filtered (scope_of x class) where_)

  -- ---- the law: what a check answers is a tree in which each name means something

  -- where a check accepts a statement of a language, its answer is the tree in which each name means
  -- something
  abbrev pub IsResolved : Query → Type 0
  IsResolved q = (l : Language) (typed : Typed) → checked l m q parameters ≡ Ok typed → statement q ≡ Some typed

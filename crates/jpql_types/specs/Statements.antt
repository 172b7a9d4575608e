-- Which statements are well typed, and what a check answers (chapters 4.2 and 4.8 to 4.11).
use Rattle.std.specs.Prelude.{ℕ, ◌==◌, Bool, true, false, not, ◌&&◌, ◌||◌, List, [], ◌∷◌, map, length, find, is_some}
use Rattle.std.specs.Prelude.{Option, None, if◌then◌else◌, Result, Ok, Err}
use Rattle.std.specs.List.{list_any, list_all}
use Rattle.jpa_value.specs.declared.refusal.Argument.{Argument}
use Rattle.jpa_value.specs.declared.refusal.Cause.{Cause}
use Rattle.jpa_model.specs.Chains.{same_name, class_of, column_of}
use Rattle.jpa_model.specs.WellFormed.{is_some_that, if_some}
use Rattle.jpa_model.specs.declared.unit.PersistenceUnit.{PersistenceUnit}
use Rattle.jpa_model.specs.declared.unit.Member.{Member}
use Rattle.jpql_trees.specs.declared.tree.Path.{Path}
use Rattle.jpql_trees.specs.declared.tree.Value.{Value, Value-F, fold-Value}
use Rattle.jpql_trees.specs.declared.tree.Value.TheOpen as part
use Rattle.jpql_trees.specs.declared.tree.Item.{Item}
use Rattle.jpql_trees.specs.declared.tree.Condition.{Condition}
use Rattle.jpql_trees.specs.declared.tree.Sorted.{Sorted}
use Rattle.jpql_trees.specs.declared.tree.SortKey.{SortKey}
use Rattle.jpql_trees.specs.declared.tree.Select.{Select}
use Rattle.jpql_trees.specs.declared.tree.Assignment.{Assignment}
use Rattle.jpql_trees.specs.declared.tree.Language.{Language}
use Rattle.jpql_trees.specs.declared.tree.Query.{Query}
use Rattle.jpql_trees.specs.tree.Names.{Text}
use Rattle.jpql_trees.specs.tree.Steps.{◌>>=◌}
use Rattle.jpql_types.specs.declared.names.Names.{Names}
use Rattle.jpql_types.specs.declared.scope.Clause.{Clause}
use Rattle.jpql_trees.specs.declared.typed.path.Step.{Step}
use Rattle.jpql_types.specs.declared.sort.Sort.{Sort}
use Rattle.jpql_trees.specs.declared.typed.typed.Typed.{Typed}
use Rattle.jpql_types.specs.Scope.{Scope, same_variable, step_from, relation_of, path_of, same_path}
use Rattle.jpql_types.specs.Sorts.{goes_with, is_basic, step_sort}
use Rattle.jpql_types.specs.Names.{names_in}
use Rattle.jpql_types.specs.Typing.{pass_both, sort_of_path, with_variable, scope_of, in_turn, value_sort}
use Rattle.jpql_types.specs.Typing.{is_condition_typed, source_scope}
use Rattle.jpql_types.specs.Trees.{is_named, typed_statement}

-- ---- names: which are distinct

-- whether no two names of a list are the same
abbrev pub are_distinct : (Text → Text → Bool) → List Text → Bool
are_distinct same [] = true
are_distinct same (x ∷ xs) = not (list_any (same x) xs) && are_distinct same xs

-- in the profile no two variables of a statement have one name; in the wide language nested SELECTs
-- may declare it again of which none is around another, as scopes tell (chapter 4.4.2)
abbrev pub are_variables_distinct : Language → List Text → Bool
are_variables_distinct Language.Profile variables = are_distinct same_variable variables
are_variables_distinct Language.Wide variables = true

-- variables are distinct as the language asks, no item's name stands twice, and no item has a
-- variable's name (chapters 4.4.2 and 4.9)
abbrev pub has_distinct_names : Language → Query → Bool
has_distinct_names l q =
    let variables = names_in Names.Variables q in
    let items = names_in Names.Items q in
    are_variables_distinct l variables && are_distinct same_name items
    && list_all (λ name. not (list_any (same_variable name) variables)) items

-- ---- groups

-- whether an aggregate stands in a value, from whether one stands in its parts
abbrev pub has_aggregate_step : Value-F Bool → Bool
has_aggregate_step (part.Integer n) = false
has_aggregate_step (part.Text t) = false
has_aggregate_step (part.Parameter name) = false
has_aggregate_step (part.Path p) = false
has_aggregate_step (part.Signed s a) = a
has_aggregate_step (part.Arithmetic op a b) = a || b
has_aggregate_step (part.Call f all) = list_any (λ a. a) all
has_aggregate_step (part.Size p) = false
has_aggregate_step (part.Aggregate g distinct a) = true

-- whether an aggregate stands in a value (chapter 4.9.5)
abbrev pub has_aggregate : Value → Bool
has_aggregate = fold-Value Bool has_aggregate_step

-- whether an aggregate stands in what ORDER BY sorts by (chapter 4.10)
abbrev pub sorts_by_aggregate : Sorted → Bool
sorts_by_aggregate (Sorted.Name name) = false
sorts_by_aggregate (Sorted.Path p) = false
sorts_by_aggregate (Sorted.Value value) = has_aggregate value

-- whether a value names a variable, from whether its parts do
abbrev pub names_variable_step : Value-F Bool → Bool
names_variable_step (part.Integer n) = false
names_variable_step (part.Text t) = false
names_variable_step (part.Parameter name) = false
names_variable_step (part.Path p) = true
names_variable_step (part.Signed s a) = a
names_variable_step (part.Arithmetic op a b) = a || b
names_variable_step (part.Call f all) = list_any (λ a. a) all
names_variable_step (part.Size p) = true
names_variable_step (part.Aggregate g distinct a) = a

-- whether a value names a variable: one that doesn't is the same for each row
abbrev pub names_variable : Value → Bool
names_variable = fold-Value Bool names_variable_step

-- whether a list has an element
abbrev pub is_any : {A : Type 0} → List A → Bool
is_any [] = false
is_any (x ∷ xs) = true

-- whether a SELECT makes groups: by GROUP BY, HAVING or an aggregate in an item or a key (chapter 4.8)
abbrev pub is_grouping : Select → Bool
is_grouping q = is_any q.groups || is_some q.having || list_any (λ i. has_aggregate i.value) q.items
    || list_any (λ key. sorts_by_aggregate key.by) q.order

-- the clause of the items, and of ORDER BY
abbrev pub select_clause : Select → Clause
select_clause q = if is_grouping q then Clause.Grouped else Clause.Select

-- ---- ORDER BY (chapter 4.10)

-- what the item of a name is of
abbrev pub sort_named : (Item → Option Sort) → List Item → Text → Option Sort
sort_named sort items name = find (is_named name) items >>= sort

-- a path that begins at the variable that another one is
abbrev pub is_from : Path → Path → Bool
is_from x p = same_path x (record p { names = [] })

-- a path, of so many steps, that is a value or one step from it
abbrev pub is_kept_by : Path → ℕ → Value → Bool
is_kept_by p steps (Value.Path x) = same_path x p || is_from x p && steps == 1
is_kept_by p steps _ = false

-- ---- what SET may set (chapter 4.11)

-- attributes, the version and owned relations to one object
abbrev pub is_settable : PersistenceUnit → Step → Bool
is_settable m s = may_set s.member
  where
    may_set : Member → Bool
    may_set (Member.KeyPart i) = false
    may_set Member.Version = true
    may_set (Member.Attribute i) = true
    may_set (Member.Relation r) = is_some_that (λ relation. is_some (column_of relation.side)) (relation_of m s)

-- whether a value is an input parameter
abbrev pub is_parameter : Value → Bool
is_parameter (Value.Parameter name) = true
is_parameter _ = false

-- a version isn't set to NULL; an entity is a parameter
abbrev pub allows_value : Member → Option Value → Bool
allows_value Member.Version value = is_some value
allows_value (Member.Relation r) value = if_some is_parameter value
allows_value _ value = true

module _ (m : PersistenceUnit) (parameters : List (Text × Sort)) where
  -- ---- SELECT

  -- the sort of an item of SELECT, where that is well typed
  abbrev pub item_sort : Select → Scope → Item → Option Sort
  item_sort q scope i = value_sort m parameters q.groups scope (select_clause q) i.value

  -- the sort of what ORDER BY sorts by: an item's, a path's, or that of a value, which names a variable
  abbrev pub sorted_sort : Select → Scope → Sorted → Option Sort
  sorted_sort q scope (Sorted.Name name) = sort_named (item_sort q scope) q.items name
  sorted_sort q scope (Sorted.Path p) = sort_of_path m q.groups scope (select_clause q) p
  sorted_sort q scope (Sorted.Value value) = if names_variable value
      then value_sort m parameters q.groups scope (select_clause q) value else None

  -- DISTINCT keeps the items, and what is one step from a variable that is an item; no other value
  abbrev pub is_kept : Select → Scope → Sorted → Bool
  is_kept q scope (Sorted.Name name) = true
  is_kept q scope (Sorted.Path p) =
      is_some_that (λ path. list_any (λ i. is_kept_by p (length path.steps) i.value) q.items) (path_of m scope p)
  is_kept q scope (Sorted.Value value) = false

  -- a key of ORDER BY is of a basic sort, and under DISTINCT it is kept (chapter 4.10)
  abbrev pub is_key_typed : Select → Scope → SortKey → Bool
  is_key_typed q scope key =
      is_some_that is_basic (sorted_sort q scope key.by) && (not q.is_distinct || is_kept q scope key.by)

  -- a path of GROUP BY has a sort, by the rules of WHERE (chapter 4.8)
  abbrev pub is_group_typed : Select → Scope → Path → Bool
  is_group_typed q scope p = is_some (sort_of_path m q.groups scope Clause.Where p)

  -- where there is a condition, it is well typed in its clause
  abbrev pub is_filter_typed : List Path → Scope → Clause → Option Condition → Bool
  is_filter_typed groups scope clause filter = if_some (is_condition_typed m parameters groups scope clause) filter

  -- all clauses of a SELECT are well typed in the scope that its FROM makes (chapter 4.2.1)
  abbrev pub is_select_typed_in : Select → Scope → Bool
  is_select_typed_in q scope =
      list_all (λ i. is_some (item_sort q scope i)) q.items && is_filter_typed q.groups scope Clause.Where q.filter
      && list_all (is_group_typed q scope) q.groups && is_filter_typed q.groups scope Clause.Having q.having
      && list_all (is_key_typed q scope) q.order

  -- the FROM of a SELECT is well typed, and its other clauses are in the scope behind it
  abbrev pub is_select_typed : Select → Bool
  is_select_typed q = is_some_that (is_select_typed_in q)
      (in_turn (map (source_scope m parameters q.groups) q.sources) [])

  -- ---- SET

  -- a value has a sort, which goes with the wanted one
  abbrev pub is_value_of : Scope → Option Sort → Value → Bool
  is_value_of scope sort value = pass_both goes_with sort (value_sort m parameters [] scope Clause.Where value)

  -- a step, and what it is set to
  abbrev pub is_set_typed : Scope → Option Value → Step → Bool
  is_set_typed scope value s =
      is_settable m s && allows_value s.member value && if_some (is_value_of scope (step_sort m s)) value

  -- an assignment names a member, and sets it as its sort allows (chapter 4.11)
  abbrev pub is_assignment_typed : Scope → Assignment → Bool
  is_assignment_typed scope a = is_some_that (λ s. is_set_typed scope a.value s.1) (step_from m scope a.variable a.name)

  -- an UPDATE's assignments and condition are well typed, and no name is set twice (chapter 4.11)
  abbrev pub is_update_typed : List Assignment → Option Condition → Scope → Bool
  is_update_typed assignments filter scope =
      list_all (is_assignment_typed scope) assignments && are_distinct same_name (map (λ a. a.name) assignments)
      && is_filter_typed [] scope Clause.Where filter

  -- ---- statements

  -- the clauses of a statement are well typed, over an entity that there is (chapter 4.2)
  abbrev pub is_statement_typed : Query → Bool
  is_statement_typed (Query.Select q) = is_select_typed q
  is_statement_typed (Query.Update entity x assignments filter) =
      is_some_that (λ class. is_update_typed assignments filter (with_variable [] x class)) (class_of m entity)
  is_statement_typed (Query.Delete entity x filter) =
      is_some_that (λ class. is_filter_typed [] (scope_of x class) Clause.Where filter) (class_of m entity)

  -- a statement of a language is well typed: its names are distinct, and its clauses well typed
  -- (chapter 4.2)
  abbrev pub is_typed : Language → Query → Bool
  is_typed l q = has_distinct_names l q && is_statement_typed q

-- every parameter of the statement is given, and no other
abbrev pub are_given : List (Text × Sort) → Query → Bool
are_given parameters q =
    let used = names_in Names.Parameters q in
    list_all (λ name. list_any (λ p. same_name p.0 name) parameters) used
    && list_all (λ p. list_any (same_name p.0) used) parameters

-- what a check answers where there is memory
abbrev pub checked : Language → PersistenceUnit → Query → List (Text × Sort) → Result Typed Cause
checked l m q parameters =
    if not (is_typed m parameters l q) then Err (Cause.IllegalArgument Argument.Typing)
    else if not (are_given parameters q) then Err (Cause.IllegalArgument Argument.Parameter)
    else Ok (typed_statement m parameters q)

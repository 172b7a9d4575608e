-- Which values, conditions and nested SELECTs are well typed: by folds over their trees (chapters
-- 4.4 to 4.7, 4.9.5).
use Rattle.std.specs.Prelude.{ℕ, ◌==◌, Bool, true, false, not, ◌&&◌, List, [], ◌∷◌, ◌++◌, map, length, filter, find}
use Rattle.std.specs.Prelude.{is_some, Option, Some, None, if◌then◌else◌, nat_le, nat_lt}
use Rattle.std.specs.List.{list_all}
use Rattle.jpa_model.specs.Chains.{same_name, class_of, root_class}
use Rattle.jpa_model.specs.WellFormed.{is_some_that, if_some}
use Rattle.jpa_model.specs.declared.unit.PersistenceUnit.{PersistenceUnit}
use Rattle.jpql_trees.specs.declared.tree.Path.{Path}
use Rattle.jpql_trees.specs.declared.tree.Origin.{Origin}
use Rattle.jpql_trees.specs.declared.tree.Value.{Value, Value-F, fold-Value}
use Rattle.jpql_trees.specs.declared.tree.Value.TheOpen as part
use Rattle.jpql_trees.specs.declared.tree.Condition.{Condition, Condition-F, fold-Condition}
use Rattle.jpql_trees.specs.declared.tree.Condition.TheOpen as test
use Rattle.jpql_trees.specs.declared.tree.Condition.TheOpen.{Block-F, Join-F, Source-F}
use Rattle.jpql_trees.specs.declared.tree.Block.{Block, fold-Block}
use Rattle.jpql_trees.specs.declared.tree.Join.{Join, fold-Join}
use Rattle.jpql_trees.specs.declared.tree.Source.{Source, fold-Source}
use Rattle.jpql_trees.specs.tree.Names.{Text}
use Rattle.jpql_trees.specs.tree.Steps.{◌>>=◌}
use Rattle.jpql_types.specs.declared.scope.Clause.{Clause}
use Rattle.jpql_trees.specs.declared.typed.path.TypedPath.{TypedPath}
use Rattle.jpql_types.specs.declared.sort.Sort.{Sort}
use Rattle.jpql_types.specs.Scope.{Scope, when, is_new, step_from, target, resolved}
use Rattle.jpql_types.specs.Sorts.{integer, text, goes_with, joined, joined_basic, call_sort, aggregate_sort}
use Rattle.jpql_types.specs.Sorts.{sort_against, arithmetic_sort, are_comparable, path_sort, collection_class}

-- the elements of a list, where none is missing
abbrev pub all_some : {A : Type 0} → List (Option A) → Option (List A)
all_some [] = Some []
all_some (None ∷ all) = None
all_some (Some a ∷ all) = all_some all >>= λ more. Some (a ∷ more)

-- whether two elements are there and pass a test together
abbrev pub pass_both : {A B : Type 0} → (A → B → Bool) → Option A → Option B → Bool
pass_both test a b = is_some_that (λ x. is_some_that (test x) b) a

-- ---- parameters

-- a parameter that is missing is of all sorts
abbrev pub parameter_sort : List (Text × Sort) → Text → Sort
parameter_sort parameters name = of (find (λ p. same_name p.0 name) parameters)
  where
    of : Option (Text × Sort) → Sort
    of None = Sort.Null
    of (Some p) = p.1

-- ---- paths in a clause

module _ (m : PersistenceUnit) (groups : List Path) (scope : Scope) (clause : Clause) where
  -- the sort of a path, where the clause allows the path
  abbrev pub sort_of_path : Path → Option Sort
  sort_of_path p = resolved m groups scope clause p >>= λ path. path_sort m path

  -- the class of the collection that a path leads to
  abbrev pub collection : Path → Option ℕ
  collection p = resolved m groups scope clause p >>= λ path. collection_class m path

-- ---- what a clause allows

-- no aggregate may stand in ON and in WHERE
abbrev pub allows_aggregates : Clause → Bool
allows_aggregates Clause.On = false
allows_aggregates Clause.Where = false
allows_aggregates _ = true

-- no EXISTS and no rows may stand in HAVING
abbrev pub allows_exists : Clause → Bool
allows_exists Clause.Having = false
allows_exists _ = true

-- ---- tests

-- a character begins with a byte that doesn't continue one
abbrev pub continues : ℕ → Bool
continues b = nat_le 128 b && nat_lt b 192

-- whether a text is one character, as ESCAPE takes it (chapter 4.6.10)
abbrev pub is_one_character : Text → Bool
is_one_character t = length (filter (λ b. not (continues b)) t) == 1

-- whether a name is that of an entity of the class's hierarchy
abbrev pub is_of_hierarchy : PersistenceUnit → ℕ → Text → Bool
is_of_hierarchy m class name = is_some_that (λ c. root_class m c == root_class m class) (class_of m name)

-- the path that is a variable alone
abbrev pub variable_path : Text → Path
variable_path x = record { variable = x; names = [] }

-- ---- FROM

-- a scope with one more variable, at its end
abbrev pub with_variable : Scope → Text → ℕ → Scope
with_variable scope x class = scope ++ record { name = x; class = class } ∷ []

-- the class of a variable that is declared in a scope: none where one of its name is there, in this
-- SELECT or in one around it
unfoldable pub when_new : Scope → Text → Option ℕ → Option ℕ
when_new scope x class = if is_new scope x then class else None

-- the scope of a DELETE, which may leave its variable out
abbrev pub scope_of : Option Text → ℕ → Scope
scope_of None class = []
scope_of (Some x) class = with_variable [] x class

-- one element of FROM after the other
abbrev pub in_turn : List (Scope → Option Scope) → Scope → Option Scope
in_turn [] scope = Some scope
in_turn (adds ∷ more) scope = adds scope >>= λ wider. in_turn more wider

-- the class that a relation of a variable leads to
abbrev pub related_class : PersistenceUnit → Scope → Text → Text → Option ℕ
related_class m scope x name = step_from m scope x name >>= λ s. target m s.1

-- the class that a range ranges over: an entity's, or the target of a relation
abbrev pub origin_class : PersistenceUnit → Scope → Origin → Option ℕ
origin_class m scope (Origin.Entity name) = class_of m name
origin_class m scope (Origin.Related x name) = related_class m scope x name

-- ---- well typed, in a persistence unit, with parameters of these sorts and these grouping paths

module _ (m : PersistenceUnit) (parameters : List (Text × Sort)) (groups : List Path) where
  -- the sort of a value in a clause, from those of its parts
  abbrev pub sort_step : Scope → Value-F (Clause → Option Sort) → Clause → Option Sort
  sort_step scope (part.Integer n) clause = Some integer
  sort_step scope (part.Text t) clause = Some text
  sort_step scope (part.Parameter name) clause = Some (parameter_sort parameters name)
  sort_step scope (part.Path p) clause = sort_of_path m groups scope clause p
  sort_step scope (part.Signed s a) clause = all_some (a clause ∷ []) >>= λ all. arithmetic_sort all
  sort_step scope (part.Arithmetic op a b) clause = all_some (a clause ∷ b clause ∷ []) >>= λ all. arithmetic_sort all
  sort_step scope (part.Call f all) clause = all_some (map (λ a. a clause) all) >>= λ sorts. call_sort f sorts
  sort_step scope (part.Size p) clause = collection m groups scope clause p >>= λ class. Some integer
  sort_step scope (part.Aggregate g distinct a) clause =
      if allows_aggregates clause then (a Clause.Where >>= λ s. aggregate_sort g s) else None

  -- what a value is of, where it is well typed
  abbrev pub value_sort : Scope → Clause → Value → Option Sort
  value_sort scope clause value = fold-Value (Clause → Option Sort) (sort_step scope) value clause

  -- the sorts of values, where each is well typed
  abbrev pub sorts_of : Scope → Clause → List Value → Option (List Sort)
  sorts_of scope clause values = all_some (map (value_sort scope clause) values)

  -- an entity of the collection's hierarchy
  abbrev pub is_member_typed : Option ℕ → Option Sort → Bool
  is_member_typed = pass_both (λ class s. goes_with (Sort.Entity (root_class m class)) s)

  -- whether a condition is well typed, by its scope and its clause
  abbrev pub Judges : Type 0
  Judges = Scope → Clause → Bool

  -- the scope behind an element of FROM, by the one before it, where the element is well typed
  abbrev pub Adds : Type 0
  Adds = Scope → Option Scope

  -- the sort of a nested SELECT's item, by the scope around it, where that is well typed
  abbrev pub Rows : Type 0
  Rows = Scope → Option Sort

  -- whether a condition is well typed, from whether its parts are (chapter 4.6)
  abbrev pub condition_step : Condition-F Judges Rows Adds Adds → Judges
  condition_step (test.Or a b) scope clause = a scope clause && b scope clause
  condition_step (test.And a b) scope clause = a scope clause && b scope clause
  condition_step (test.Not a) scope clause = a scope clause
  condition_step (test.Compare op a b) scope clause =
      pass_both (are_comparable op) (value_sort scope clause a) (value_sort scope clause b)
  condition_step (test.Between a b c) scope clause =
      is_some (sorts_of scope clause (a ∷ b ∷ c ∷ []) >>= λ all. joined_basic all)
  condition_step (test.In a all) scope clause = is_some (sorts_of scope clause (a ∷ all) >>= λ sorts. joined sorts)
  condition_step (test.Like a b escape) scope clause =
      is_some_that (list_all (goes_with text)) (sorts_of scope clause (a ∷ b ∷ [])) && if_some is_one_character escape
  condition_step (test.IsNull a) scope clause = is_some (value_sort scope clause a)
  condition_step (test.IsEmpty p) scope clause = is_some (collection m groups scope clause p)
  condition_step (test.Member a p) scope clause =
      is_member_typed (collection m groups scope clause p) (value_sort scope clause a)
  condition_step (test.Exists b) scope clause = allows_exists clause && is_some (b scope)
  condition_step (test.Rows against op a b) scope clause = allows_exists clause
      && pass_both (are_comparable op) (value_sort scope clause a) (b scope >>= λ s. sort_against against s)
  condition_step (test.«Type» x names) scope clause =
      is_some_that (λ (path : TypedPath). list_all (is_of_hierarchy m path.class) names)
      (resolved m groups scope clause (variable_path x))

  -- a nested SELECT is of its item's sort, where its FROM, and behind it its WHERE and its item, are
  -- well typed
  abbrev pub block_step : Block-F Judges Rows Adds Adds → Rows
  block_step b outer =
      in_turn b.sources outer >>= λ scope.
      if if_some (λ c. c scope Clause.Where) b.filter then value_sort scope Clause.Where (b.item).value else None

  -- the scope behind a join, whose ON is well typed with the join's own variable (chapter 4.4.5)
  abbrev pub join_step : Join-F Judges Rows Adds Adds → Adds
  join_step j scope = when_new scope j.variable (related_class m scope j.of j.relation)
      >>= λ class. let wider = with_variable scope j.variable class in
      when (if_some (λ c. c wider Clause.On) j.on) wider

  -- the scope behind a range and its joins, where each is well typed (chapter 4.4.3)
  abbrev pub source_step : Source-F Judges Rows Adds Adds → Adds
  source_step s scope =
      when_new scope s.variable (origin_class m scope s.origin)
      >>= λ class. in_turn s.joins (with_variable scope s.variable class)

  -- whether a condition is well typed in a scope and a clause (chapter 4.6)
  abbrev pub is_condition_typed : Scope → Clause → Condition → Bool
  is_condition_typed scope clause c =
      fold-Condition Judges Rows Adds Adds condition_step block_step join_step source_step c scope clause

  -- the scope behind a range, where that is well typed
  abbrev pub source_scope : Source → Scope → Option Scope
  source_scope = fold-Source Judges Rows Adds Adds condition_step block_step join_step source_step

  -- the sort of a nested SELECT's item, where that SELECT is well typed in the scope around it (chapter
  -- 4.6.16)
  abbrev pub block_sort : Block → Scope → Option Sort
  block_sort = fold-Block Judges Rows Adds Adds condition_step block_step join_step source_step

  -- whether a nested SELECT is well typed in the scope around it (chapter 4.6.16)
  abbrev pub is_block_typed : Block → Scope → Bool
  is_block_typed b scope = is_some (block_sort b scope)

  -- the scope behind a join, where that is well typed
  abbrev pub join_scope : Join → Scope → Option Scope
  join_scope = fold-Join Judges Rows Adds Adds condition_step block_step join_step source_step

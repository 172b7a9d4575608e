-- In a statement that is well typed each name means something.
use Rattle.std.proofs.Common.{◌≡◌, ◌∙◌, refl, ap, sym, subst, ℕ, Bool, true, false, List, [], ◌∷◌, map, is_some, Option, Some, None, option_map}
use Rattle.std.specs.Prelude.{◌+◌, ◌&&◌, ◌||◌, not, find, unwrap_or, if◌then◌else◌, cond, Ok, Err}
use Rattle.std.specs.List.{list_all, position_from}
use Rattle.std.proofs.lemmas.Bool.{and_parts, false≢true}
use Rattle.jpa_value.specs.declared.refusal.Cause.{Cause}
use Rattle.jpa_value.specs.declared.refusal.Argument.{Argument}
use Rattle.jpa_model.specs.Chains.{class_of, same_name}
use Rattle.jpa_model.specs.WellFormed.{is_some_that, if_some}
use Rattle.jpa_model.specs.declared.unit.PersistenceUnit.{PersistenceUnit}
use Rattle.jpql_trees.specs.declared.tree.Path.{Path}
use Rattle.jpql_trees.specs.declared.tree.Value.{Value}
use Rattle.jpql_trees.specs.declared.tree.Item.{Item}
use Rattle.jpql_trees.specs.declared.tree.Condition.{Condition}
use Rattle.jpql_trees.specs.declared.tree.Sorted.{Sorted}
use Rattle.jpql_trees.specs.declared.tree.SortKey.{SortKey}
use Rattle.jpql_trees.specs.declared.tree.Select.{Select}
use Rattle.jpql_trees.specs.declared.tree.Assignment.{Assignment}
use Rattle.jpql_trees.specs.declared.tree.Language.{Language}
use Rattle.jpql_trees.specs.declared.tree.Query.{Query}
use Rattle.jpql_trees.specs.tree.Names.{Text}
use Rattle.jpql_trees.specs.tree.Steps.{◌>>=◌}
use Rattle.jpql_trees.specs.declared.typed.path.Step.{Step}
use Rattle.jpql_trees.specs.declared.typed.path.TypedPath.{TypedPath}
use Rattle.jpql_types.specs.declared.sort.Sort.{Sort}
use Rattle.jpql_trees.specs.declared.typed.typed.Typed.{Typed}
use Rattle.jpql_trees.specs.declared.typed.typed.TypedSorted.{TypedSorted}
use Rattle.jpql_trees.specs.declared.typed.typed.TypedKey.{TypedKey}
use Rattle.jpql_trees.specs.declared.typed.typed.TypedSource.{TypedSource}
use Rattle.jpql_trees.specs.declared.typed.typed.TypedValue.{TypedValue}
use Rattle.jpql_trees.specs.declared.typed.typed.TypedCondition.{TypedCondition}
use Rattle.jpql_trees.specs.declared.typed.typed.TypedSelect.{TypedSelect}
use Rattle.jpql_trees.specs.declared.typed.typed.TypedAssignment.{TypedAssignment}
use Rattle.jpql_types.specs.Scope.{Scope, path_of, step_from}
use Rattle.jpql_types.specs.Sorts.{goes_with, is_basic, step_sort}
use Rattle.jpql_types.specs.Typing.{all_some, value_sort, is_condition_typed, in_turn, source_scope, with_variable, scope_of}
use Rattle.jpql_types.specs.Statements.{select_clause, item_sort, names_variable, sorted_sort, is_kept, is_key_typed, is_group_typed, is_filter_typed, is_select_typed_in, is_select_typed, is_settable, allows_value, is_value_of, is_set_typed, is_assignment_typed, is_update_typed, are_distinct, is_statement_typed, is_typed, has_distinct_names, are_given}
use Rattle.jpql_types.specs.Trees as trees
use Rattle.jpql_types.specs.Trees.{place, no_step, is_named}
use Rattle.jpql_types.specs.Resolved as names
use Rattle.jpql_types.specs.Resolved.{both, if_written}
use Rattle.jpql_types.proofs.Options.{IsThere, there, there_before, there_if, there_that, there_both, that_at, both_of, each_of, each_tested, each_holds, written_of}
use Rattle.jpql_types.proofs.Turns.{turns}
use Rattle.jpql_types.proofs.ResolvedValues.{value_resolved, sorted_path}
use Rattle.jpql_types.proofs.ResolvedConditions.{S, condition_resolved, source_resolved}

-- what is found has a place
found_by : {A : Type 0} (p : A → Bool) (x : A) (xs : List A) (n : ℕ) (b : Bool) → (IsThere (find p xs) → IsThere (position_from p (n + 1) xs)) → IsThere (cond b (Some x) (find p xs)) → IsThere (cond b (Some n) (position_from p (n + 1) xs))
found_by p x xs n true later h = refl
found_by p x xs n false later h = later h

found_at : {A : Type 0} (p : A → Bool) (xs : List A) (n : ℕ) → IsThere (find p xs) → IsThere (position_from p n xs)
found_at p [] n h = absurd (false≢true h)
found_at p (x ∷ xs) n h = found_by p x xs n (p x) (found_at p xs (n + 1)) h

module _ (m : PersistenceUnit) (ps : List (Text × Sort)) where
  where_resolved : (groups : List Path) (scope : Scope) (clause : _) (o : Option Condition) → is_filter_typed m ps groups scope clause o ≡ true
      → names.filtered m ps scope o ≡ Some (trees.typed_filter m ps scope o)
  where_resolved groups scope clause o h =
      written_of (is_condition_typed m ps groups scope clause) (λ c. names.condition m ps c scope) (λ c. trees.typed_condition m ps c scope) (λ c k. condition_resolved m ps groups c scope clause k) o h

  -- ---- SELECT

  module _ (q : Select) (scope : Scope) where
    key_by : (by : Sorted) (is_descending : Bool) → IsThere (sorted_sort m ps q scope by)
        → names.key_in m ps scope q.items (record { by = by; is_descending = is_descending }) ≡ Some (trees.typed_key m ps scope q.items (record { by = by; is_descending = is_descending }))
    key_by (Sorted.Name name) is_descending h =
        ap (λ o. option_map (λ b. record { by = b; is_descending = is_descending }) (option_map TypedSorted.Item o))
        (there 0 (position_from (is_named name) 0 q.items) (found_at (is_named name) q.items 0 (there_before (find (is_named name) q.items) (item_sort m ps q scope) h)))
    key_by (Sorted.Path p) is_descending h =
        ap (λ o. option_map (λ b. record { by = b; is_descending = is_descending }) (option_map TypedSorted.Path o)) (sorted_path m ps q.groups scope (select_clause q) p h)
    key_by (Sorted.Value a) is_descending h =
        ap (λ o. option_map (λ b. record { by = b; is_descending = is_descending }) (option_map TypedSorted.Value o))
        (value_resolved m ps q.groups scope a (select_clause q) (there_if (names_variable a) (value_sort m ps q.groups scope (select_clause q) a) h))

    key_resolved : (key : SortKey) → is_key_typed m ps q scope key ≡ true → names.key_in m ps scope q.items key ≡ Some (trees.typed_key m ps scope q.items key)
    key_resolved key h = key_by key.by key.is_descending (there_that is_basic (sorted_sort m ps q scope key.by) (and_parts (is_some_that is_basic (sorted_sort m ps q scope key.by)) (not q.is_distinct || is_kept m ps q scope key.by) h).0)

    abbrev made : List TypedSource → List TypedValue → Option TypedCondition → List TypedPath → Option TypedCondition → List TypedKey → TypedSelect
    made sources items where_ groups having order = record { is_distinct = q.is_distinct; items = items; sources = sources; filter = where_; groups = groups; having = having; order = order }

    abbrev value_of : Item → Option TypedValue
    value_of i = names.value m ps scope i.value

    select_resolved : (sources : List TypedSource) → is_select_typed_in m ps q scope ≡ true → names.select_in m ps q scope sources ≡ Some (trees.typed_select_in m ps q scope sources)
    select_resolved sources h =
        let d = and_parts _ (list_all (is_key_typed m ps q scope) q.order) h in
        let c = and_parts _ (is_filter_typed m ps q.groups scope _ q.having) d.0 in
        let b = and_parts _ (list_all (is_group_typed m ps q scope) q.groups) c.0 in
        let a = and_parts (list_all (λ i. is_some (item_sort m ps q scope i)) q.items) (is_filter_typed m ps q.groups scope _ q.filter) b.0 in
        let items = each_of (λ (i : Item). names.value m ps scope i.value) (λ i. trees.typed_value m ps scope i.value) q.items
        (each_tested (λ i. is_some (item_sort m ps q scope i)) (λ i. names.value m ps scope i.value ≡ Some (trees.typed_value m ps scope i.value)) (λ i k. value_resolved m ps q.groups scope i.value (select_clause q) k) q.items a.0) in
        let groups = each_of (path_of m scope) (trees.typed_path m ps scope) q.groups
        (each_tested (is_group_typed m ps q scope) (λ p. path_of m scope p ≡ Some (trees.typed_path m ps scope p)) (λ p k. there trees.no_path (path_of m scope p) (there_before (path_of m scope p) _ (there_before (path_of m scope p >>= _) _ k))) q.groups b.1) in
        let order = each_of (names.key_in m ps scope q.items) (trees.typed_key m ps scope q.items) q.order
        (each_tested (is_key_typed m ps q scope) (λ key. names.key_in m ps scope q.items key ≡ Some (trees.typed_key m ps scope q.items key)) key_resolved q.order d.1) in
        let where_ = where_resolved q.groups scope _ q.filter a.1 in
        let having = where_resolved q.groups scope _ q.having c.1 in
        ap (λ o. o >>= λ xs. names.filtered m ps scope q.filter >>= λ w. all_some (map (path_of m scope) q.groups) >>= λ gs. both (made sources xs w gs) (names.filtered m ps scope q.having) (all_some (map (names.key_in m ps scope q.items) q.order))) items
        ∙ ap (λ o. o >>= λ w. all_some (map (path_of m scope) q.groups) >>= λ gs. both (made sources (map (λ i. trees.typed_value m ps scope i.value) q.items) w gs) (names.filtered m ps scope q.having) (all_some (map (names.key_in m ps scope q.items) q.order))) where_
        ∙ ap (λ o. o >>= λ gs. both (made sources (map (λ i. trees.typed_value m ps scope i.value) q.items) (trees.typed_filter m ps scope q.filter) gs) (names.filtered m ps scope q.having) (all_some (map (names.key_in m ps scope q.items) q.order))) groups
        ∙ both_of (made sources (map (λ i. trees.typed_value m ps scope i.value) q.items) (trees.typed_filter m ps scope q.filter) (map (trees.typed_path m ps scope) q.groups)) (names.filtered m ps scope q.having) (all_some (map (names.key_in m ps scope q.items) q.order))
        (trees.typed_filter m ps scope q.having) (map (trees.typed_key m ps scope q.items) q.order) having order

  query_resolved : (q : Select) → is_select_typed m ps q ≡ true → names.statement m ps (Query.Select q) ≡ Some (trees.typed_statement m ps (Query.Select q))
  query_resolved q h =
      let wider = that_at (is_select_typed_in m ps q) (in_turn (map (source_scope m ps q.groups) q.sources) []) h in
      let t = turns (source_scope m ps q.groups) (names.source m ps) (trees.typed_source m ps) q.sources (each_holds (S m ps q.groups) (source_resolved m ps q.groups) q.sources) [] wider.0 wider.1 in
      let from = trees.in_scope (map (trees.typed_source m ps) q.sources) [] in
      ap (λ o. o >>= λ f. option_map Typed.Select (names.select_in m ps q f.1 f.0)) t.0
      ∙ ap (option_map Typed.Select) (select_resolved q from.1 from.0 (subst (λ s. is_select_typed_in m ps q s ≡ true) (sym t.1) wider.2))

  -- ---- UPDATE and DELETE

  abbrev assignment_as : ℕ × Step → Option TypedValue → TypedAssignment
  assignment_as s value = record { member = (s.1).member; value = value }

  assignment_by : (scope : Scope) (value : Option Value) (o : Option (ℕ × Step)) → is_some_that (λ s. is_set_typed m ps scope value s.1) o ≡ true
      → (o >>= λ s. option_map (assignment_as s) (if_written (names.value m ps scope) value)) ≡ Some (assignment_as (unwrap_or o no_step) (option_map (trees.typed_value m ps scope) value))
  assignment_by scope value None h = absurd (false≢true h)
  assignment_by scope value (Some s) h =
      let k = (and_parts (is_settable m s.1 && allows_value (s.1).member value) (if_some (is_value_of m ps scope (step_sort m s.1)) value) h).1 in
      ap (option_map (assignment_as s))
      (written_of (is_value_of m ps scope (step_sort m s.1)) (names.value m ps scope) (trees.typed_value m ps scope)
      (λ a e. value_resolved m ps [] scope a _ (there_both goes_with (step_sort m s.1) (value_sort m ps [] scope _ a) e).1) value k)

  assignment_resolved : (scope : Scope) (a : Assignment) → is_assignment_typed m ps scope a ≡ true → names.assignment m ps scope a ≡ Some (trees.typed_assignment m ps scope a)
  assignment_resolved scope a h = assignment_by scope a.value (step_from m scope a.variable a.name) h

  update_by : (x : Text) (assignments : List Assignment) (where_ : Option Condition) (o : Option ℕ) → is_some_that (λ class. is_update_typed m ps assignments where_ (with_variable [] x class)) o ≡ true
      → (o >>= λ class. both (Typed.Update class) (all_some (map (names.assignment m ps (with_variable [] x class)) assignments)) (names.filtered m ps (with_variable [] x class) where_))
      ≡ Some (Typed.Update (place o) (map (trees.typed_assignment m ps (with_variable [] x (place o))) assignments) (trees.typed_filter m ps (with_variable [] x (place o)) where_))
  update_by x assignments where_ None h = absurd (false≢true h)
  update_by x assignments where_ (Some class) h =
      let scope = with_variable [] x class in
      let distinct = are_distinct same_name (map (λ (a : Assignment). a.name) assignments) in
      let k = and_parts (list_all (is_assignment_typed m ps scope) assignments && distinct) (is_filter_typed m ps [] scope _ where_) h in
      let p = and_parts (list_all (is_assignment_typed m ps scope) assignments) distinct k.0 in
      both_of (Typed.Update class) (all_some (map (names.assignment m ps scope) assignments)) (names.filtered m ps scope where_)
      (map (trees.typed_assignment m ps scope) assignments) (trees.typed_filter m ps scope where_)
      (each_of (names.assignment m ps scope) (trees.typed_assignment m ps scope) assignments
      (each_tested (is_assignment_typed m ps scope) (λ a. names.assignment m ps scope a ≡ Some (trees.typed_assignment m ps scope a)) (assignment_resolved scope) assignments p.0))
      (where_resolved [] scope _ where_ k.1)

  delete_by : (clause : _) (x : Option Text) (where_ : Option Condition) (o : Option ℕ) → is_some_that (λ class. is_filter_typed m ps [] (scope_of x class) clause where_) o ≡ true
      → (o >>= λ class. option_map (Typed.Delete class (is_some x)) (names.filtered m ps (scope_of x class) where_)) ≡ Some (Typed.Delete (place o) (is_some x) (trees.typed_filter m ps (scope_of x (place o)) where_))
  delete_by clause x where_ None h = absurd (false≢true h)
  delete_by clause x where_ (Some class) h = ap (option_map (Typed.Delete class (is_some x))) (where_resolved [] (scope_of x class) clause where_ h)

  typed_resolved : (q : Query) → is_statement_typed m ps q ≡ true → names.statement m ps q ≡ Some (trees.typed_statement m ps q)
  typed_resolved (Query.Select q) h = query_resolved q h
  typed_resolved (Query.Update entity x assignments where_) h = update_by x assignments where_ (class_of m entity) h
  typed_resolved (Query.Delete entity x where_) h = delete_by _ x where_ (class_of m entity) h

  -- ---- a statement that was checked

  checked_by : (l : Language) (q : Query) (typed : Typed) (a b : Bool) → is_typed m ps l q ≡ a
      → (if not a then Err (Cause.IllegalArgument Argument.Typing) else if not b then Err (Cause.IllegalArgument Argument.Parameter) else Ok (trees.typed_statement m ps q)) ≡ Ok typed
      → names.statement m ps q ≡ Some typed
  checked_by l q typed false b ae e = absurd cc
  checked_by l q typed true false ae e = absurd cc
  checked_by l q typed true true ae e =
      let same : trees.typed_statement m ps q ≡ typed = cc in
      typed_resolved q (and_parts (has_distinct_names l q) (is_statement_typed m ps q) ae).1 ∙ ap Some same

  pub statement_resolved : (q : Query) → names.IsResolved m ps q
  statement_resolved q l typed e = checked_by l q typed (is_typed m ps l q) (are_given ps q) refl e

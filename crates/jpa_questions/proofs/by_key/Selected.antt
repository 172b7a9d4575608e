-- What a SELECT gives of its tuples, where its one object tells it by its row, is the same over every set, and of the tuples
-- without pairs.
use Rattle.std.proofs.Common.{◌≡◌, ◌∙◌, refl, ap, sym, Bool, true, false, cond, List, [], ◌∷◌, map, option_map}
use Rattle.std.specs.Prelude.{◌&&◌, ◌||◌}
use Rattle.std.specs.List.{AllByRecursion, list_all}
use Rattle.std.proofs.lemmas.Bool.{and_parts}
use Rattle.jpa_model.specs.declared.unit.PersistenceUnit.{PersistenceUnit}
use Rattle.jpa_stored.specs.objects.Sets.{StoredSet}
use Rattle.jpql_trees.specs.declared.typed.path.TypedPath.{TypedPath}
use Rattle.jpql_trees.specs.declared.typed.typed.TypedKey.{TypedKey}
use Rattle.jpql_trees.specs.declared.typed.typed.TypedSelect.{TypedSelect}
use Rattle.jpql_trees.specs.declared.typed.typed.TypedSorted.{TypedSorted}
use Rattle.jpql_meaning.specs.declared.eval.datum.Datum.{Datum}
use Rattle.jpql_meaning.specs.eval.Answers.{gives, ◌>>=◌, under, every}
use Rattle.jpql_meaning.specs.plan.Paths.{Tuple, is_broken, path_datum}
use Rattle.jpql_meaning.specs.plan.Meaning.{Case, alone, condition, kept, truth_of_any, value}
use Rattle.jpql_meaning.specs.plan.Selection.{Row, case_of, cases_of, distinct, group_key, groups_of, in_order, is_grouping, key_breaks, key_datum, put_tuples, row_of, rows_of, select_drops}
use Rattle.jpql_run.proofs.CalmValues.{each_tested}
use Rattle.jpql_run.proofs.Told.{all_weaker}
use Rattle.jpa_questions.specs.by_key.Own.{is_any_own, is_own_key, is_own_path, is_own_select, is_own_sorted, is_own_value}
use Rattle.jpa_questions.proofs.by_key.Members.{broken_same, path_same}
use Rattle.jpa_questions.proofs.by_key.Pairless.{alone_pairless, cases_pairless, kept_made, one_case, pairless_case, pairless_tuple, puts_made, under_then}
use Rattle.jpa_questions.proofs.by_key.Same.{IsSame, map_same, same_value}
use Rattle.jpa_questions.proofs.by_key.Conditions.{any_same, dropped_same, drops_if_any, truth_if_any}

-- the parts of a statement that its object tells
pub record AreOwn (m : PersistenceUnit) (q : TypedSelect) : Type 0 where
  pub items : list_all (is_own_value m) q.items ≡ true
  pub filter : is_any_own m q.filter ≡ true
  pub groups : list_all (is_own_path m) q.groups ≡ true
  pub having : is_any_own m q.having ≡ true
  pub order : list_all (is_own_key m) q.order ≡ true

pub own_parts : (m : PersistenceUnit) (q : TypedSelect) → is_own_select m q ≡ true → AreOwn m q
own_parts m q h =
    let items = list_all (is_own_value m) q.items in
    let groups = list_all (is_own_path m) q.groups in
    let order = list_all (is_own_key m) q.order in
    let a = and_parts items (is_any_own m q.filter && (groups && (is_any_own m q.having && order))) h in
    let b = and_parts (is_any_own m q.filter) (groups && (is_any_own m q.having && order)) a.1 in
    let c = and_parts groups (is_any_own m q.having && order) b.1 in
    let d = and_parts (is_any_own m q.having) order c.1 in
    record { items = a.0; filter = b.0; groups = c.0; having = d.0; order = d.1 }

module _ (m : PersistenceUnit) (s s' : StoredSet) (ps : List Datum) where
  breaks_same : (key : TypedKey) → is_own_key m key ≡ true → (t : Tuple) → key_breaks m s ps t key ≡ key_breaks m s' ps (pairless_tuple m t) key
  breaks_same key h t = of key.by h
    where
      of : (by : TypedSorted) → is_own_sorted m by ≡ true → key_breaks m s ps t (record key { by = by }) ≡ key_breaks m s' ps (pairless_tuple m t) (record key { by = by })
      of (TypedSorted.Item n) h = refl
      of (TypedSorted.Path p) h = broken_same m s s' p h t
      of (TypedSorted.Value v) h = λ i. (same_value m s s' ps v h).1 i t

  datum_same : (items : List Datum) (at : Case) (key : TypedKey) → is_own_key m key ≡ true → key_datum m s ps items at key ≡ key_datum m s' ps items (pairless_case m at) key
  datum_same items at key h = of key.by h
    where
      of : (by : TypedSorted) → is_own_sorted m by ≡ true → key_datum m s ps items at (record key { by = by }) ≡ key_datum m s' ps items (pairless_case m at) (record key { by = by })
      of (TypedSorted.Item n) h = refl
      of (TypedSorted.Path p) h = ap gives (path_same m s s' p h at.tuple)
      of (TypedSorted.Value v) h = λ i. (same_value m s s' ps v h).0 i at

  group_same : (paths : List TypedPath) → list_all (is_own_path m) paths ≡ true → group_key m s ps paths ≡ (λ t. group_key m s' ps paths (pairless_tuple m t))
  group_same paths h = λ i t.
      map_same (path_datum m s t) (path_datum m s' (pairless_tuple m t)) paths
      (each_tested (is_own_path m) (λ p. path_datum m s t p ≡ path_datum m s' (pairless_tuple m t) p) (λ p k. path_same m s s' p k t) paths h) i

  groups_same : (paths : List TypedPath) → list_all (is_own_path m) paths ≡ true → (all : List Tuple) → groups_of m s' ps paths (map (pairless_tuple m) all) ≡ map (pairless_case m) (groups_of m s ps paths all)
  groups_same [] h all = one_case m all
  groups_same (p ∷ paths) h all =
      ap (map case_of) (puts_made (pairless_tuple m) (group_key m s' ps (p ∷ paths)) [] all)
      ∙ ap (λ key. map case_of (map (map (pairless_tuple m)) (put_tuples key [] all))) (sym (group_same (p ∷ paths) h))
      ∙ cases_pairless m (put_tuples (group_key m s ps (p ∷ paths)) [] all)

  module _ (q : TypedSelect) (own : AreOwn m q) where
    items_there : AllByRecursion (IsSame m s s' ps) q.items
    items_there = each_tested (is_own_value m) (IsSame m s s' ps) (same_value m s s' ps) q.items own.items

    pub drops_same : (t : Tuple) → select_drops m s ps q t ≡ select_drops m s' ps q (pairless_tuple m t)
    drops_same t = λ i.
        dropped_same m s s' ps q.items items_there t i
        || drops_if_any m s s' ps q.filter own.filter t i
        || any_same (is_broken m s t) (is_broken m s' (pairless_tuple m t)) q.groups
        (each_tested (is_own_path m) (λ p. is_broken m s t p ≡ is_broken m s' (pairless_tuple m t) p) (λ p k. broken_same m s s' p k t) q.groups own.groups) i
        || drops_if_any m s s' ps q.having own.having t i
        || any_same (key_breaks m s ps t) (key_breaks m s' ps (pairless_tuple m t)) q.order
        (each_tested (is_own_key m) (λ k. key_breaks m s ps t k ≡ key_breaks m s' ps (pairless_tuple m t) k) (λ k h. breaks_same k h t) q.order own.order) i

    cases_same : (all : List Tuple) → cases_of m s' ps q (map (pairless_tuple m) all) ≡ map (pairless_case m) (cases_of m s ps q all)
    cases_same all = by (is_grouping q)
      where
        by : (b : Bool) → cond b (groups_of m s' ps q.groups (map (pairless_tuple m) all)) (map alone (map (pairless_tuple m) all)) ≡ map (pairless_case m) (cond b (groups_of m s ps q.groups all) (map alone all))
        by true = groups_same q.groups own.groups all
        by false = alone_pairless m all

    items_same : (at : Case) → map (λ v. value m s ps v at) q.items ≡ map (λ v. value m s' ps v (pairless_case m at)) q.items
    items_same at =
        map_same (λ v. value m s ps v at) (λ v. value m s' ps v (pairless_case m at)) q.items
        (all_weaker (IsSame m s s' ps) (λ v. value m s ps v at ≡ value m s' ps v (pairless_case m at)) (λ v k i. k.0 i at) q.items items_there)

    keys_same : (items : List Datum) (at : Case) → map (key_datum m s ps items at) q.order ≡ map (key_datum m s' ps items (pairless_case m at)) q.order
    keys_same items at =
        map_same (key_datum m s ps items at) (key_datum m s' ps items (pairless_case m at)) q.order
        (each_tested (is_own_key m) (λ k. key_datum m s ps items at k ≡ key_datum m s' ps items (pairless_case m at) k) (λ k h. datum_same items at k h) q.order own.order)

    row_same : (at : Case) → row_of m s ps q at ≡ row_of m s' ps q (pairless_case m at)
    row_same at = λ i. every (items_same at i) >>= λ items. under (λ keys. record { items = items; keys = keys }) (every (keys_same items at i))

    each_row : (cases : List Case) → map (row_of m s' ps q) (map (pairless_case m) cases) ≡ map (row_of m s ps q) cases
    each_row [] = refl
    each_row (at ∷ cases) = λ i. sym (row_same at) i ∷ each_row cases i

    rows_same : (cases : List Case) → rows_of m s' ps q (map (pairless_case m) cases) ≡ rows_of m s ps q cases
    rows_same cases =
        let having = truth_of_any (option_map (condition m s' ps) q.having) in
        ap (λ left. left >>= λ all. every (map (row_of m s' ps q) all)) (kept_made (pairless_case m) having cases)
        ∙ under_then (map (pairless_case m)) (λ all. every (map (row_of m s' ps q) all)) (kept (λ at. having (pairless_case m at)) cases)
        ∙ (λ i. kept (λ at. sym (truth_if_any m s s' ps q.having own.having at) i) cases >>= λ left. every (each_row left i))

    -- what is made of tuples
    pub made_same : (all : List Tuple)
        → under (λ rows. map (λ (r : Row). r.items) (in_order q.order (distinct m s ps q.is_distinct rows))) (rows_of m s ps q (cases_of m s ps q all))
        ≡ under (λ rows. map (λ (r : Row). r.items) (in_order q.order (distinct m s' ps q.is_distinct rows))) (rows_of m s' ps q (cases_of m s' ps q (map (pairless_tuple m) all)))
    made_same all =
        ap (under (λ rows. map (λ (r : Row). r.items) (in_order q.order (distinct m s ps q.is_distinct rows))))
        (sym (ap (rows_of m s' ps q) (cases_same all) ∙ rows_same (cases_of m s ps q all)))

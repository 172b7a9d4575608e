-- What a condition means that one object tells by its row is the same over every set, and without its pairs: by induction
-- over the typed tree.
use Rattle.std.proofs.Common.{◌≡◌, ◌∙◌, refl, ap, sym, subst, Bool, true, false, List, [], ◌∷◌, map, Option, Some, None, option_map}
use Rattle.std.specs.Prelude.{◌&&◌, ◌||◌}
use Rattle.std.specs.List.{AllByRecursion, list_all, list_any}
use Rattle.std.proofs.lemmas.Bool.{and_parts, false≢true}
use Rattle.jpa_model.specs.declared.unit.PersistenceUnit.{PersistenceUnit}
use Rattle.jpa_stored.specs.objects.Sets.{StoredSet}
use Rattle.jpql_trees.specs.declared.typed.typed.TypedValue.{TypedValue}
use Rattle.jpql_trees.specs.declared.typed.typed.TypedCondition.{TypedCondition, TypedCondition-F}
use Rattle.jpql_trees.specs.declared.typed.typed.TypedCondition.TheOpen as test
use Rattle.jpql_trees.specs.declared.typed.typed.TypedCondition.TheFolds as folds
use Rattle.jpql_trees.specs.declared.typed.typed.TypedCondition.TheViews.{roll-TypedCondition}
use Rattle.jpql_trees.specs.declared.typed.typed.TypedBlock.{TypedBlock, fold-TypedBlock}
use Rattle.jpql_trees.specs.declared.typed.typed.TypedJoin.{TypedJoin, fold-TypedJoin}
use Rattle.jpql_trees.specs.declared.typed.typed.TypedSource.{TypedSource, fold-TypedSource}
use Rattle.jpql_meaning.specs.declared.eval.datum.Datum.{Datum}
use Rattle.jpql_meaning.specs.eval.Answers.{gives, ◌>>=◌, under, both}
use Rattle.jpql_meaning.specs.eval.Calls.{like}
use Rattle.jpql_meaning.specs.eval.Data.{is_nothing, compared, between}
use Rattle.jpql_meaning.specs.eval.Truths.{truth_of}
use Rattle.jpql_meaning.specs.plan.Paths.{Tuple}
use Rattle.jpql_meaning.specs.plan.Meaning.{Case, Extends, Meant, Nested, among_all, drops_any, truth_of_any, value, value_drops, condition, join, rows, source, test_step, block_step, join_step, source_step}
use Rattle.jpql_run.proofs.CalmValues.{each_tested}
use Rattle.jpql_run.proofs.Told.{all_weaker}
use Rattle.jpa_questions.specs.by_key.Own as own
use Rattle.jpa_questions.specs.by_key.Own.{is_any_own, is_own_condition, is_own_value}
use Rattle.jpa_questions.proofs.by_key.Pairless.{pairless_case, pairless_tuple, type_pairless}
use Rattle.jpa_questions.proofs.by_key.Same.{IsSame, map_same, same_value}

pub any_same : {A : Type 0} (f g : A → Bool) (xs : List A) → AllByRecursion (λ x. f x ≡ g x) xs → list_any f xs ≡ list_any g xs
any_same f g [] h = refl
any_same f g (x ∷ xs) h = λ i. h.0 i || any_same f g xs h.1 i

module _ (m : PersistenceUnit) where
  abbrev own_block : TypedBlock → Bool
  own_block = fold-TypedBlock Bool Bool Bool Bool (own.condition_step m) (own.block_step m) (own.join_step m) (own.source_step m)

  abbrev own_join : TypedJoin → Bool
  own_join = fold-TypedJoin Bool Bool Bool Bool (own.condition_step m) (own.block_step m) (own.join_step m) (own.source_step m)

  abbrev own_source : TypedSource → Bool
  own_source = fold-TypedSource Bool Bool Bool Bool (own.condition_step m) (own.block_step m) (own.join_step m) (own.source_step m)

  own_at : (w : TypedCondition-F TypedCondition TypedBlock TypedJoin TypedSource)
      → is_own_condition m (roll-TypedCondition w) ≡ own.condition_step m (folds.map-TypedCondition TypedCondition TypedBlock TypedJoin TypedSource Bool Bool Bool Bool (is_own_condition m) own_block own_join own_source w)
  own_at w = folds.fold-roll-TypedCondition Bool Bool Bool Bool (own.condition_step m) (own.block_step m) (own.join_step m) (own.source_step m) w

module _ (m : PersistenceUnit) (s : StoredSet) (ps : List Datum) where
  abbrev layer_of : TypedCondition-F TypedCondition TypedBlock TypedJoin TypedSource → Meant
  layer_of w = test_step m s ps (folds.map-TypedCondition TypedCondition TypedBlock TypedJoin TypedSource Meant Nested Extends Extends (condition m s ps) (rows m s ps) (join m s ps) (source m s ps) w)

  condition_at : (w : TypedCondition-F TypedCondition TypedBlock TypedJoin TypedSource) → condition m s ps (roll-TypedCondition w) ≡ layer_of w
  condition_at w = folds.fold-roll-TypedCondition Meant Nested Extends Extends (test_step m s ps) (block_step m s ps) (join_step m s ps) (source_step m s ps) w

module _ (m : PersistenceUnit) (s s' : StoredSet) (ps : List Datum) where
  -- what a condition means of tuples without pairs
  abbrev of_pairless : Meant → Meant
  of_pairless c = record { drops = λ t. c.drops (pairless_tuple m t); truth = λ at. c.truth (pairless_case m at) }

  abbrev C : TypedCondition → Type 0
  C c = is_own_condition m c ≡ true → condition m s ps c ≡ of_pairless (condition m s' ps c)

  abbrev B : TypedBlock → Type 0
  B b = Unit {0}

  abbrev J : TypedJoin → Type 0
  J j = Unit {0}

  abbrev S : TypedSource → Type 0
  S x = Unit {0}

  by_layer : (w : TypedCondition-F TypedCondition TypedBlock TypedJoin TypedSource) → layer_of m s ps w ≡ of_pairless (layer_of m s' ps w)
      → condition m s ps (roll-TypedCondition w) ≡ of_pairless (condition m s' ps (roll-TypedCondition w))
  by_layer w e = condition_at m s ps w ∙ e ∙ ap of_pairless (sym (condition_at m s' ps w))

  values_at : (all : List TypedValue) → list_all (is_own_value m) all ≡ true → AllByRecursion (IsSame m s s' ps) all
  values_at all h = each_tested (is_own_value m) (IsSame m s s' ps) (same_value m s s' ps) all h

  among_same : (all : List TypedValue) → AllByRecursion (IsSame m s s' ps) all → (at : Case) → map (λ b. value m s ps b at) all ≡ map (λ b. value m s' ps b (pairless_case m at)) all
  among_same all h at =
      map_same (λ b. value m s ps b at) (λ b. value m s' ps b (pairless_case m at)) all
      (all_weaker (IsSame m s s' ps) (λ b. value m s ps b at ≡ value m s' ps b (pairless_case m at)) (λ b k i. k.0 i at) all h)

  pub dropped_same : (all : List TypedValue) → AllByRecursion (IsSame m s s' ps) all → (t : Tuple) → list_any (λ b. value_drops m s ps b t) all ≡ list_any (λ b. value_drops m s' ps b (pairless_tuple m t)) all
  dropped_same all h t =
      any_same (λ b. value_drops m s ps b t) (λ b. value_drops m s' ps b (pairless_tuple m t)) all
      (all_weaker (IsSame m s s' ps) (λ b. value_drops m s ps b t ≡ value_drops m s' ps b (pairless_tuple m t)) (λ b k i. k.1 i t) all h)

  layer : (y : TypedCondition-F ((c : TypedCondition) × C c) ((b : TypedBlock) × B b) ((j : TypedJoin) × J j) ((x : TypedSource) × S x))
      → C (roll-TypedCondition (folds.map-TypedCondition ((c : TypedCondition) × C c) ((b : TypedBlock) × B b) ((j : TypedJoin) × J j) ((x : TypedSource) × S x) TypedCondition TypedBlock TypedJoin TypedSource (λ z. z.0) (λ z. z.0) (λ z. z.0) (λ z. z.0) y))
  layer (test.Or a b) h =
      let p = and_parts (is_own_condition m a.0) (is_own_condition m b.0) (sym (own_at m (test.Or a.0 b.0)) ∙ h) in
      let k = a.1 p.0 in
      let l = b.1 p.1 in
      by_layer (test.Or a.0 b.0) (λ i. test_step m s ps (test.Or (k i) (l i)))
  layer (test.And a b) h =
      let p = and_parts (is_own_condition m a.0) (is_own_condition m b.0) (sym (own_at m (test.And a.0 b.0)) ∙ h) in
      let k = a.1 p.0 in
      let l = b.1 p.1 in
      by_layer (test.And a.0 b.0) (λ i. test_step m s ps (test.And (k i) (l i)))
  layer (test.Not a) h =
      let k = a.1 (sym (own_at m (test.Not a.0)) ∙ h) in
      by_layer (test.Not a.0) (λ i. test_step m s ps (test.Not (k i)))
  layer (test.Compare op a b) h =
      let p = and_parts (is_own_value m a) (is_own_value m b) (sym (own_at m (test.Compare op a b)) ∙ h) in
      let k = same_value m s s' ps a p.0 in
      let l = same_value m s s' ps b p.1 in
      by_layer (test.Compare op a b) (λ i. record { drops = λ t. k.1 i t || l.1 i t; truth = λ at. both (compared op) (k.0 i at) (l.0 i at) })
  layer (test.Between a low high) h =
      let p = and_parts (is_own_value m a) (is_own_value m low && is_own_value m high) (sym (own_at m (test.Between a low high)) ∙ h) in
      let q = and_parts (is_own_value m low) (is_own_value m high) p.1 in
      let k = same_value m s s' ps a p.0 in
      let l = same_value m s s' ps low q.0 in
      let n = same_value m s s' ps high q.1 in
      by_layer (test.Between a low high) (λ i. record { drops = λ t. k.1 i t || l.1 i t || n.1 i t; truth = λ at. k.0 i at >>= λ x. both (between x) (l.0 i at) (n.0 i at) })
  layer (test.In a all) h =
      let p = and_parts (is_own_value m a) (list_all (is_own_value m) all) (sym (own_at m (test.In a all)) ∙ h) in
      let k = same_value m s s' ps a p.0 in
      let ls = values_at all p.1 in
      by_layer (test.In a all) (λ i. record { drops = λ t. k.1 i t || dropped_same all ls t i; truth = λ at. k.0 i at >>= λ x. among_all x (among_same all ls at i) })
  layer (test.Like a pattern escape) h =
      let p = and_parts (is_own_value m a) (is_own_value m pattern) (sym (own_at m (test.Like a pattern escape)) ∙ h) in
      let k = same_value m s s' ps a p.0 in
      let l = same_value m s s' ps pattern p.1 in
      by_layer (test.Like a pattern escape) (λ i. record { drops = λ t. k.1 i t || l.1 i t; truth = λ at. both (like escape) (k.0 i at) (l.0 i at) })
  layer (test.IsNull a) h =
      let k = same_value m s s' ps a (sym (own_at m (test.IsNull a)) ∙ h) in
      by_layer (test.IsNull a) (λ i. record { drops = k.1 i; truth = λ at. under (λ x. truth_of (is_nothing x)) (k.0 i at) })
  layer (test.IsEmpty p) h = absurd (false≢true (sym (own_at m (test.IsEmpty p)) ∙ h))
  layer (test.Member a p) h = absurd (false≢true (sym (own_at m (test.Member a p)) ∙ h))
  layer (test.Exists b) h = absurd (false≢true (sym (own_at m (test.Exists b.0)) ∙ h))
  layer (test.Rows against op a b) h = absurd (false≢true (sym (own_at m (test.Rows against op a b.0)) ∙ h))
  layer (test.«Type» place classes) h = by_layer (test.«Type» place classes) (λ i. record { drops = λ t. false; truth = λ at. gives (type_pairless m classes at.tuple place i) })

  same_condition : (c : TypedCondition) → is_own_condition m c ≡ true → condition m s ps c ≡ of_pairless (condition m s' ps c)
  same_condition = folds.ind-TypedCondition C B J S
      (λ w y is. subst (λ z. C (roll-TypedCondition z)) is (layer y)) (λ w y is. tt) (λ w y is. tt) (λ w y is. tt)

  -- and so is what WHERE or HAVING drops, and its truth
  pub drops_if_any : (c : Option TypedCondition) → is_any_own m c ≡ true → (t : Tuple) → drops_any (option_map (condition m s ps) c) t ≡ drops_any (option_map (condition m s' ps) c) (pairless_tuple m t)
  drops_if_any None h t = refl
  drops_if_any (Some c) h t = ap (λ (meant : Meant). meant.drops t) (same_condition c h)

  pub truth_if_any : (c : Option TypedCondition) → is_any_own m c ≡ true → (at : Case) → truth_of_any (option_map (condition m s ps) c) at ≡ truth_of_any (option_map (condition m s' ps) c) (pairless_case m at)
  truth_if_any None h at = refl
  truth_if_any (Some c) h at = ap (λ (meant : Meant). meant.truth at) (same_condition c h)

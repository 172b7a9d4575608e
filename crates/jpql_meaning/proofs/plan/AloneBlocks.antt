-- A nested SELECT that names no variable around it gives the same rows behind each tuple of that length.
use Rattle.std.proofs.Common.{◌≡◌, ◌∙◌, refl, ap, sym, subst, ℕ, zero, suc, ◌+◌, ◌≤◌, arith, Bool, true, false, not, List, [], ◌∷◌, map, length, nat_le, Option, Some, None, option_map}
use Rattle.std.specs.Prelude.{◌||◌, ◌&&◌}
use Rattle.std.specs.List.{AllByRecursion, list_all, list_any, filter}
use Rattle.std.proofs.lemmas.Bool.{and_parts}
use Rattle.std.proofs.lemmas.List.{append-nil}
use Rattle.jpa_model.specs.declared.unit.PersistenceUnit.{PersistenceUnit}
use Rattle.jpa_stored.specs.objects.Sets.{StoredSet}
use Rattle.jpql_trees.specs.declared.typed.typed.TypedOrigin.{TypedOrigin}
use Rattle.jpql_trees.specs.declared.typed.typed.TypedValue.{TypedValue}
use Rattle.jpql_trees.specs.declared.typed.typed.TypedCondition.{TypedCondition, TypedCondition-F}
use Rattle.jpql_trees.specs.declared.typed.typed.TypedCondition.TheOpen as test
use Rattle.jpql_trees.specs.declared.typed.typed.TypedCondition.TheOpen.{TypedBlock-F, TypedJoin-F, TypedSource-F}
use Rattle.jpql_trees.specs.declared.typed.typed.TypedCondition.TheFolds as folds
use Rattle.jpql_trees.specs.declared.typed.typed.TypedCondition.TheViews.{roll-TypedCondition}
use Rattle.jpql_trees.specs.declared.typed.typed.TypedBlock.{TypedBlock, roll-TypedBlock}
use Rattle.jpql_trees.specs.declared.typed.typed.TypedJoin.{TypedJoin, roll-TypedJoin}
use Rattle.jpql_trees.specs.declared.typed.typed.TypedSource.{TypedSource, roll-TypedSource}
use Rattle.jpql_trees.specs.declared.typed.path.Step.{Step}
use Rattle.jpql_meaning.specs.declared.eval.datum.Datum.{Datum}
use Rattle.jpql_meaning.specs.declared.eval.datum.Truth.{Truth}
use Rattle.jpql_meaning.specs.eval.Answers.{Answer, gives, overflows, ◌>>=◌, under, both, every, each}
use Rattle.jpql_meaning.specs.eval.Calls.{like}
use Rattle.jpql_meaning.specs.eval.Data.{is_nothing, compared, between}
use Rattle.jpql_meaning.specs.eval.Judged.{judged}
use Rattle.jpql_meaning.specs.eval.Truths.{truth_of, not3, and3, or3}
use Rattle.jpql_meaning.specs.plan.Paths.{Entry, Tuple, object_at, with_object, objects, related_objects, breaks, gathered}
use Rattle.jpql_meaning.specs.plan.Meaning.{Case, Extends, Nested, Meant, alone, in_turn, kept, or_null, is_any, emptiness, membership, is_type_among, drops_any, truth_of_any, tuples_where, among_all, value, value_drops, condition, rows, join, source, test_step, block_step, join_step, source_step, origin_objects}
use Rattle.jpql_meaning.specs.plan.Alone as spec
use Rattle.jpql_meaning.specs.plan.Alone.{is_alone_value, is_alone, is_alone_block, is_alone_join, is_alone_source, is_alone_origin}
use Rattle.jpql_meaning.proofs.plan.Alone.{after, wider, IsAlone, AreAlone, each_alone, in_turn_alone, kept_alone, where_alone}
use Rattle.jpql_meaning.proofs.plan.AloneValues.{IsSame, same_value, object_same, each_tested, each_passes}

blank : ℕ → Tuple
blank zero = []
blank (suc n) = None ∷ blank n

blank_long : (n : ℕ) → length (blank n) ≡ n
unfolding blank
blank_long zero = refl
blank_long (suc n) = ap suc (blank_long n)

among_same : (f g : TypedValue → Answer Datum) (all : List TypedValue) → AllByRecursion (λ a. f a ≡ g a) all → map f all ≡ map g all
among_same f g [] h = refl
among_same f g (a ∷ all) h = λ i. h.0 i ∷ among_same f g all h.1 i

any_same : (f g : TypedValue → Bool) (all : List TypedValue) → AllByRecursion (λ a. f a ≡ g a) all → list_any f all ≡ list_any g all
any_same f g [] h = refl
any_same f g (a ∷ all) h = λ i. h.0 i || any_same f g all h.1 i

weaker : {A : Type 0} (P Q : A → Type 0) → ((a : A) → P a → Q a) → (xs : List A) → AllByRecursion P xs → AllByRecursion Q xs
weaker P Q k [] h = tt
weaker P Q k (x ∷ xs) h = (k x h.0, weaker P Q k xs h.1)

every_same : (f g : Tuple → Answer Datum) → ((e : Tuple) → f e ≡ g e) → (es : List Tuple) → every (map f es) ≡ every (map g es)
every_same f g h es = ap (λ (k : Tuple → Answer Datum). every (map k es)) (λ i e. h e i)

map_after : {B : Type 0} (f : Tuple → B) (p : Tuple) (es : List Tuple) → map f (map (after p) es) ≡ map (λ e. f (after p e)) es
map_after f p [] = refl
map_after f p (e ∷ es) = ap (λ xs. f (after p e) ∷ xs) (map_after f p es)

widened : (p e : Tuple) (ys : List Entry) → map (λ y. with_object (after p e) (Some y)) ys ≡ map (after p) (map (λ y. with_object e (Some y)) ys)
widened p e [] = refl
widened p e (y ∷ ys) = λ i. wider p e (Some y) i ∷ widened p e ys i

or_null_after : (b : Bool) (p e : Tuple) (a : Answer (List Tuple)) → under (or_null b (after p e)) (under (map (after p)) a) ≡ under (map (after p)) (under (or_null b e) a)
or_null_after true p e (gives []) = ap (λ x. gives (x ∷ [])) (wider p e None)
or_null_after true p e (gives (x ∷ xs)) = refl
or_null_after false p e (gives []) = refl
or_null_after false p e (gives (x ∷ xs)) = refl
or_null_after b p e overflows = refl

module _ (m : PersistenceUnit) (s : StoredSet) (ps : List Datum) (n : ℕ) where
  -- what a condition means behind any two tuples
  abbrev pub SameMeant : Meant → Type 0
  SameMeant c = (p q e : Tuple) → length p ≡ n → length q ≡ n → (c.drops (after p e) ≡ c.drops (after q e)) × (c.truth (alone (after p e)) ≡ c.truth (alone (after q e)))

  abbrev C : TypedCondition → Type 0
  C c = is_alone n c ≡ true → SameMeant (condition m s ps c)

  abbrev pub SameRows : Nested → Type 0
  SameRows f = (p q e : Tuple) → length p ≡ n → length q ≡ n → f (after p e) ≡ f (after q e)

  abbrev B : TypedBlock → Type 0
  B b = is_alone_block n b ≡ true → SameRows (rows m s ps b)

  abbrev HasAlone : Extends → Type 0
  HasAlone f = (g : Extends) × IsAlone n f g

  abbrev J : TypedJoin → Type 0
  J j = is_alone_join n j ≡ true → HasAlone (join m s ps j)

  abbrev S : TypedSource → Type 0
  S x = is_alone_source n x ≡ true → HasAlone (source m s ps x)

  abbrev Conditions : Type 0
  Conditions = TypedCondition-F ((c : TypedCondition) × C c) ((b : TypedBlock) × B b) ((j : TypedJoin) × J j) ((x : TypedSource) × S x)

  abbrev BW : Type 0
  BW = TypedBlock-F ((c : TypedCondition) × C c) ((b : TypedBlock) × B b) ((j : TypedJoin) × J j) ((x : TypedSource) × S x)

  abbrev JW : Type 0
  JW = TypedJoin-F ((c : TypedCondition) × C c) ((b : TypedBlock) × B b) ((j : TypedJoin) × J j) ((x : TypedSource) × S x)

  abbrev SW : Type 0
  SW = TypedSource-F ((c : TypedCondition) × C c) ((b : TypedBlock) × B b) ((j : TypedJoin) × J j) ((x : TypedSource) × S x)

  -- the equations of each layer
  abbrev meant : TypedCondition-F TypedCondition TypedBlock TypedJoin TypedSource → Meant
  meant w = test_step m s ps (folds.map-TypedCondition TypedCondition TypedBlock TypedJoin TypedSource Meant Nested Extends Extends (condition m s ps) (rows m s ps) (join m s ps) (source m s ps) w)

  meant_at : (w : TypedCondition-F TypedCondition TypedBlock TypedJoin TypedSource) → condition m s ps (roll-TypedCondition w) ≡ meant w
  meant_at w = folds.fold-roll-TypedCondition Meant Nested Extends Extends (test_step m s ps) (block_step m s ps) (join_step m s ps) (source_step m s ps) w

  abbrev rowed : TypedBlock-F TypedCondition TypedBlock TypedJoin TypedSource → Nested
  rowed w = block_step m s ps (folds.map-TypedBlock TypedCondition TypedBlock TypedJoin TypedSource Meant Nested Extends Extends (condition m s ps) (rows m s ps) (join m s ps) (source m s ps) w)

  rows_at : (w : TypedBlock-F TypedCondition TypedBlock TypedJoin TypedSource) → rows m s ps (roll-TypedBlock w) ≡ rowed w
  rows_at w = folds.fold-roll-TypedBlock Meant Nested Extends Extends (test_step m s ps) (block_step m s ps) (join_step m s ps) (source_step m s ps) w

  abbrev joins : TypedJoin-F TypedCondition TypedBlock TypedJoin TypedSource → Extends
  joins w = join_step m s ps (folds.map-TypedJoin TypedCondition TypedBlock TypedJoin TypedSource Meant Nested Extends Extends (condition m s ps) (rows m s ps) (join m s ps) (source m s ps) w)

  joins_at : (w : TypedJoin-F TypedCondition TypedBlock TypedJoin TypedSource) → join m s ps (roll-TypedJoin w) ≡ joins w
  joins_at w = folds.fold-roll-TypedJoin Meant Nested Extends Extends (test_step m s ps) (block_step m s ps) (join_step m s ps) (source_step m s ps) w

  abbrev ranges : TypedSource-F TypedCondition TypedBlock TypedJoin TypedSource → Extends
  ranges w = source_step m s ps (folds.map-TypedSource TypedCondition TypedBlock TypedJoin TypedSource Meant Nested Extends Extends (condition m s ps) (rows m s ps) (join m s ps) (source m s ps) w)

  ranges_at : (w : TypedSource-F TypedCondition TypedBlock TypedJoin TypedSource) → source m s ps (roll-TypedSource w) ≡ ranges w
  ranges_at w = folds.fold-roll-TypedSource Meant Nested Extends Extends (test_step m s ps) (block_step m s ps) (join_step m s ps) (source_step m s ps) w

  alone_at : (w : TypedCondition-F TypedCondition TypedBlock TypedJoin TypedSource)
      → is_alone n (roll-TypedCondition w) ≡ spec.condition_step n (folds.map-TypedCondition TypedCondition TypedBlock TypedJoin TypedSource Bool Bool Bool Bool (is_alone n) (is_alone_block n) (is_alone_join n) (is_alone_source n) w)
  alone_at w = folds.fold-roll-TypedCondition Bool Bool Bool Bool (spec.condition_step n) (spec.block_step n) (spec.join_step n) (spec.source_step n) w

  block_at : (w : TypedBlock-F TypedCondition TypedBlock TypedJoin TypedSource)
      → is_alone_block n (roll-TypedBlock w) ≡ spec.block_step n (folds.map-TypedBlock TypedCondition TypedBlock TypedJoin TypedSource Bool Bool Bool Bool (is_alone n) (is_alone_block n) (is_alone_join n) (is_alone_source n) w)
  block_at w = folds.fold-roll-TypedBlock Bool Bool Bool Bool (spec.condition_step n) (spec.block_step n) (spec.join_step n) (spec.source_step n) w

  join_at : (w : TypedJoin-F TypedCondition TypedBlock TypedJoin TypedSource)
      → is_alone_join n (roll-TypedJoin w) ≡ spec.join_step n (folds.map-TypedJoin TypedCondition TypedBlock TypedJoin TypedSource Bool Bool Bool Bool (is_alone n) (is_alone_block n) (is_alone_join n) (is_alone_source n) w)
  join_at w = folds.fold-roll-TypedJoin Bool Bool Bool Bool (spec.condition_step n) (spec.block_step n) (spec.join_step n) (spec.source_step n) w

  source_at : (w : TypedSource-F TypedCondition TypedBlock TypedJoin TypedSource)
      → is_alone_source n (roll-TypedSource w) ≡ spec.source_step n (folds.map-TypedSource TypedCondition TypedBlock TypedJoin TypedSource Bool Bool Bool Bool (is_alone n) (is_alone_block n) (is_alone_join n) (is_alone_source n) w)
  source_at w = folds.fold-roll-TypedSource Bool Bool Bool Bool (spec.condition_step n) (spec.block_step n) (spec.join_step n) (spec.source_step n) w

  of_value : (a : TypedValue) → is_alone_value n a ≡ true → (p q e : Tuple) (lp : length p ≡ n) (lq : length q ≡ n) → IsSame m s ps n p q e lp lq a
  of_value a h p q e lp lq = same_value m s ps n p q e lp lq a h

  of_values : (all : List TypedValue) → list_all (is_alone_value n) all ≡ true → (p q e : Tuple) (lp : length p ≡ n) (lq : length q ≡ n) → AllByRecursion (IsSame m s ps n p q e lp lq) all
  of_values all h p q e lp lq = each_tested (is_alone_value n) (IsSame m s ps n p q e lp lq) (same_value m s ps n p q e lp lq) all h

  by_layer : (w : TypedCondition-F TypedCondition TypedBlock TypedJoin TypedSource) → SameMeant (meant w) → SameMeant (condition m s ps (roll-TypedCondition w))
  by_layer w h = subst SameMeant (sym (meant_at w)) h

  layer : (y : Conditions) → C (roll-TypedCondition (folds.map-TypedCondition ((c : TypedCondition) × C c) ((b : TypedBlock) × B b) ((j : TypedJoin) × J j) ((x : TypedSource) × S x) TypedCondition TypedBlock TypedJoin TypedSource (λ z. z.0) (λ z. z.0) (λ z. z.0) (λ z. z.0) y))
  layer (test.Or a b) h =
      let k = and_parts (is_alone n a.0) (is_alone n b.0) (sym (alone_at (test.Or a.0 b.0)) ∙ h) in
      by_layer (test.Or a.0 b.0) (λ p q e lp lq. let x = a.1 k.0 p q e lp lq in let y = b.1 k.1 p q e lp lq in ((λ i. x.0 i || y.0 i), (λ i. both or3 (x.1 i) (y.1 i))))
  layer (test.And a b) h =
      let k = and_parts (is_alone n a.0) (is_alone n b.0) (sym (alone_at (test.And a.0 b.0)) ∙ h) in
      by_layer (test.And a.0 b.0) (λ p q e lp lq. let x = a.1 k.0 p q e lp lq in let y = b.1 k.1 p q e lp lq in ((λ i. x.0 i || y.0 i), (λ i. both and3 (x.1 i) (y.1 i))))
  layer (test.Not a) h =
      by_layer (test.Not a.0) (λ p q e lp lq. let x = a.1 (sym (alone_at (test.Not a.0)) ∙ h) p q e lp lq in (x.0, ap (under not3) x.1))
  layer (test.Compare op a b) h =
      let k = and_parts (is_alone_value n a) (is_alone_value n b) (sym (alone_at (test.Compare op a b)) ∙ h) in
      by_layer (test.Compare op a b) (λ p q e lp lq. let x = of_value a k.0 p q e lp lq in let y = of_value b k.1 p q e lp lq in ((λ i. x.1 i || y.1 i), (λ i. both (compared op) (x.0 i) (y.0 i))))
  layer (test.Between a low high) h =
      let k = and_parts (is_alone_value n a) (is_alone_value n low && is_alone_value n high) (sym (alone_at (test.Between a low high)) ∙ h) in
      let l = and_parts (is_alone_value n low) (is_alone_value n high) k.1 in
      by_layer (test.Between a low high) (λ p q e lp lq. let x = of_value a k.0 p q e lp lq in let y = of_value low l.0 p q e lp lq in let z = of_value high l.1 p q e lp lq in
      ((λ i. x.1 i || y.1 i || z.1 i), (λ i. x.0 i >>= λ d. both (between d) (y.0 i) (z.0 i))))
  layer (test.In a all) h =
      let k = and_parts (is_alone_value n a) (list_all (is_alone_value n) all) (sym (alone_at (test.In a all)) ∙ h) in
      by_layer (test.In a all) (λ p q e lp lq. let x = of_value a k.0 p q e lp lq in let ys = of_values all k.1 p q e lp lq in
      let vs = among_same (λ b. value m s ps b (alone (after p e))) (λ b. value m s ps b (alone (after q e))) all (weaker (IsSame m s ps n p q e lp lq) (λ b. value m s ps b (alone (after p e)) ≡ value m s ps b (alone (after q e))) (λ b u. u.0) all ys) in
      let ds = any_same (λ b. value_drops m s ps b (after p e)) (λ b. value_drops m s ps b (after q e)) all (weaker (IsSame m s ps n p q e lp lq) (λ b. value_drops m s ps b (after p e) ≡ value_drops m s ps b (after q e)) (λ b u. u.1) all ys) in
      ((λ i. x.1 i || ds i), (λ i. x.0 i >>= λ d. among_all d (vs i))))
  layer (test.Like a pattern escape) h =
      let k = and_parts (is_alone_value n a) (is_alone_value n pattern) (sym (alone_at (test.Like a pattern escape)) ∙ h) in
      by_layer (test.Like a pattern escape) (λ p q e lp lq. let x = of_value a k.0 p q e lp lq in let y = of_value pattern k.1 p q e lp lq in ((λ i. x.1 i || y.1 i), (λ i. both (like escape) (x.0 i) (y.0 i))))
  layer (test.IsNull a) h =
      by_layer (test.IsNull a) (λ p q e lp lq. let x = of_value a (sym (alone_at (test.IsNull a)) ∙ h) p q e lp lq in (x.1, ap (under (λ d. truth_of (is_nothing d))) x.0))
  layer (test.IsEmpty u) h =
      by_layer (test.IsEmpty u) (λ p q e lp lq. let o = object_same n p q e u.variable lp lq (sym (alone_at (test.IsEmpty u)) ∙ h) in
      (ap (λ z. breaks m s z u.steps) o, ap (λ z. gives (emptiness (gathered m s z u.steps))) o))
  layer (test.Member a u) h =
      let k = and_parts (is_alone_value n a) (nat_le n u.variable) (sym (alone_at (test.Member a u)) ∙ h) in
      by_layer (test.Member a u) (λ p q e lp lq. let x = of_value a k.0 p q e lp lq in let o = object_same n p q e u.variable lp lq k.1 in
      ((λ i. x.1 i || breaks m s (o i) u.steps), (λ i. under (λ d. membership d (gathered m s (o i) u.steps)) (x.0 i))))
  layer (test.Exists b) h =
      by_layer (test.Exists b.0) (λ p q e lp lq. (refl, ap (under (λ all. truth_of (is_any all))) (b.1 (sym (alone_at (test.Exists b.0)) ∙ h) p q e lp lq)))
  layer (test.Rows against op a b) h =
      let k = and_parts (is_alone_value n a) (is_alone_block n b.0) (sym (alone_at (test.Rows against op a b.0)) ∙ h) in
      by_layer (test.Rows against op a b.0) (λ p q e lp lq. let x = of_value a k.0 p q e lp lq in let y = b.1 k.1 p q e lp lq in
      (x.1, (λ i. x.0 i >>= λ d. y i >>= judged against op d)))
  layer (test.«Type» place classes) h =
      by_layer (test.«Type» place classes) (λ p q e lp lq. (refl, ap (λ z. gives (is_type_among classes z)) (object_same n p q e place lp lq (sym (alone_at (test.«Type» place classes)) ∙ h))))

  -- ---- FROM

  -- what a condition means behind n objects that are none
  abbrev held : Option TypedCondition → Tuple → Answer Truth
  held c e = truth_of_any (option_map (condition m s ps) c) (alone (after (blank n) e))

  abbrev SameAny : Option TypedCondition → Type 0
  SameAny c = (p q e : Tuple) → length p ≡ n → length q ≡ n → (drops_any (option_map (condition m s ps) c) (after p e) ≡ drops_any (option_map (condition m s ps) c) (after q e))
      × (truth_of_any (option_map (condition m s ps) c) (alone (after p e)) ≡ truth_of_any (option_map (condition m s ps) c) (alone (after q e)))

  any_of : (c : Option ((c : TypedCondition) × C c)) → spec.is_any_alone (option_map (is_alone n) (option_map (λ z. z.0) c)) ≡ true → SameAny (option_map (λ z. z.0) c)
  any_of None h p q e lp lq = (refl, refl)
  any_of (Some c) h p q e lp lq = c.1 h p q e lp lq

  all_alone : {A : Type 0} (P : A → Bool) (f : A → Extends) → (xs : List ((x : A) × (P x ≡ true → HasAlone (f x)))) → list_all (λ b. b) (map P (map (λ z. z.0) xs)) ≡ true
      → (gs : List Extends) × AreAlone n (map f (map (λ z. z.0) xs)) gs
  all_alone P f [] h = ([], tt)
  all_alone P f (x ∷ xs) h =
      let k = and_parts (P x.0) (list_all (λ b. b) (map P (map (λ z. z.0) xs))) h in
      let g = x.1 k.0 in
      let gs = all_alone P f xs k.1 in
      (g.0 ∷ gs.0, (g.1, gs.1))

  joined : (is_left : Bool) (of : ℕ) (step : Step) (on : Option TypedCondition) → nat_le n of ≡ true → SameAny on
      → HasAlone (λ t. under (or_null is_left t) (kept (λ e. truth_of_any (option_map (condition m s ps) on) (alone e)) (map (λ y. with_object t (Some y)) (related_objects m s (object_at t of) step))))
  joined is_left of step on h k = (
    λ e. under (or_null is_left e) (kept (held on) (map (λ y. with_object e (Some y)) (related_objects m s (object_at (after (blank n) e) of) step))),
    λ p e lp.
        let b = blank_long n in
        let o = object_same n p (blank n) e of lp b h in
        let more = related_objects m s (object_at (after (blank n) e) of) step in
        ap (λ z. under (or_null is_left (after p e)) (kept (λ e. truth_of_any (option_map (condition m s ps) on) (alone e)) (map (λ y. with_object (after p e) (Some y)) (related_objects m s z step)))) o
        ∙ ap (λ ts. under (or_null is_left (after p e)) (kept (λ e. truth_of_any (option_map (condition m s ps) on) (alone e)) ts)) (widened p e more)
        ∙ ap (under (or_null is_left (after p e))) (kept_alone n (λ e. truth_of_any (option_map (condition m s ps) on) (alone e)) (held on) (λ p e lp. (k p (blank n) e lp (blank_long n)).1) p lp (map (λ y. with_object e (Some y)) more))
        ∙ or_null_after is_left p e (kept (held on) (map (λ y. with_object e (Some y)) more)),
  )

  bare_join : JW → TypedJoin-F TypedCondition TypedBlock TypedJoin TypedSource
  bare_join y = folds.map-TypedJoin ((c : TypedCondition) × C c) ((b : TypedBlock) × B b) ((j : TypedJoin) × J j) ((x : TypedSource) × S x) TypedCondition TypedBlock TypedJoin TypedSource (λ z. z.0) (λ z. z.0) (λ z. z.0) (λ z. z.0) y

  join_by : (is_left : Bool) (of : ℕ) (step : Step) (on : Option ((c : TypedCondition) × C c)) → J (roll-TypedJoin (bare_join (record { is_left = is_left; of = of; step = step; on = on })))
  unfolding bare_join
  join_by is_left of step None h =
      let w = bare_join (record { is_left = is_left; of = of; step = step; on = None }) in
      let k = and_parts (nat_le n of) true (sym (join_at w) ∙ h) in
      subst HasAlone (sym (joins_at w)) (joined is_left of step None k.0 (any_of None refl))
  join_by is_left of step (Some c) h =
      let w = bare_join (record { is_left = is_left; of = of; step = step; on = Some c }) in
      let k = and_parts (nat_le n of) (is_alone n c.0) (sym (join_at w) ∙ h) in
      subst HasAlone (sym (joins_at w)) (joined is_left of step (Some c.0) k.0 (any_of (Some c) k.1))

  join_layer : (y : JW) → J (roll-TypedJoin (bare_join y))
  join_layer y = join_by y.is_left y.of y.step y.on

  origin_same : (o : TypedOrigin) → is_alone_origin n o ≡ true → (p q e : Tuple) → length p ≡ n → length q ≡ n → origin_objects m s ps o (after p e) ≡ origin_objects m s ps o (after q e)
  origin_same (TypedOrigin.Entity class) h p q e lp lq = refl
  origin_same (TypedOrigin.Related of step) h p q e lp lq = ap (λ z. related_objects m s z step) (object_same n p q e of lp lq h)

  ranged : (o : TypedOrigin) (fs gs : List Extends) → is_alone_origin n o ≡ true → AreAlone n fs gs → HasAlone (λ t. each (in_turn fs) (map (λ y. with_object t (Some y)) (origin_objects m s ps o t)))
  ranged o fs gs h k = (
    λ e. each (in_turn gs) (map (λ y. with_object e (Some y)) (origin_objects m s ps o (after (blank n) e))),
    λ p e lp.
        let more = origin_objects m s ps o (after (blank n) e) in
        ap (λ ys. each (in_turn fs) (map (λ y. with_object (after p e) (Some y)) ys)) (origin_same o h p (blank n) e lp (blank_long n))
        ∙ ap (each (in_turn fs)) (widened p e more)
        ∙ each_alone n (in_turn fs) (in_turn gs) (in_turn_alone n fs gs k) p lp (map (λ y. with_object e (Some y)) more),
  )

  bare_source : SW → TypedSource-F TypedCondition TypedBlock TypedJoin TypedSource
  bare_source y = folds.map-TypedSource ((c : TypedCondition) × C c) ((b : TypedBlock) × B b) ((j : TypedJoin) × J j) ((x : TypedSource) × S x) TypedCondition TypedBlock TypedJoin TypedSource (λ z. z.0) (λ z. z.0) (λ z. z.0) (λ z. z.0) y

  source_layer : (y : SW) → S (roll-TypedSource (bare_source y))
  unfolding bare_source
  source_layer y h =
      let k = and_parts (is_alone_origin n y.origin) (list_all (λ b. b) (map (is_alone_join n) (map (λ z. z.0) y.joins))) (sym (source_at (bare_source y)) ∙ h) in
      let gs = all_alone (is_alone_join n) (join m s ps) y.joins k.1 in
      subst HasAlone (sym (ranges_at (bare_source y))) (ranged y.origin (map (join m s ps) (map (λ z. z.0) y.joins)) gs.0 k.0 gs.1)

  -- ---- blocks

  rows_of : (item : TypedValue) (fs gs : List Extends) (c : Option TypedCondition) → is_alone_value n item ≡ true → AreAlone n fs gs → SameAny c
      → SameRows (λ t. (in_turn fs t >>= λ all. kept (λ e. truth_of_any (option_map (condition m s ps) c) (alone e)) (filter (λ e. not (value_drops m s ps item e || drops_any (option_map (condition m s ps) c) e)) all))
      >>= λ left. every (map (λ e. value m s ps item (alone e)) left))
  rows_of item fs gs c hi hs hc p q e lp lq = at p lp ∙ sym (at q lq)
    where
      d : Tuple → Bool
      d e = not (value_drops m s ps item e || drops_any (option_map (condition m s ps) c) e)

      same_d : (p e : Tuple) → length p ≡ n → d (after p e) ≡ d (after (blank n) e)
      same_d p e lp = let x = of_value item hi p (blank n) e lp (blank_long n) in let y = hc p (blank n) e lp (blank_long n) in (λ i. not (x.1 i || y.0 i))

      items : Answer (List Tuple) → Answer (List Datum)
      items a = a >>= λ left. every (map (λ e. value m s ps item (alone e)) left)

      items_after : (p : Tuple) → length p ≡ n → (a : Answer (List Tuple)) → items (under (map (after p)) a) ≡ (a >>= λ left. every (map (λ e. value m s ps item (alone (after (blank n) e))) left))
      items_after p lp (gives es) = ap every (map_after (λ e. value m s ps item (alone e)) p es)
          ∙ every_same (λ e. value m s ps item (alone (after p e))) (λ e. value m s ps item (alone (after (blank n) e))) (λ e. (of_value item hi p (blank n) e lp (blank_long n)).0) es
      items_after p lp overflows = refl

      at : (p : Tuple) → length p ≡ n → items (in_turn fs (after p e) >>= λ all. kept (λ e. truth_of_any (option_map (condition m s ps) c) (alone e)) (filter d all))
          ≡ ((in_turn gs e >>= λ all. kept (held c) (filter (λ e. d (after (blank n) e)) all)) >>= λ left. every (map (λ e. value m s ps item (alone (after (blank n) e))) left))
      at p lp =
          ap items (where_alone n fs gs d (λ e. d (after (blank n) e)) (λ e. truth_of_any (option_map (condition m s ps) c) (alone e)) (held c) hs same_d (λ p e lp. (hc p (blank n) e lp (blank_long n)).1) p e lp)
          ∙ items_after p lp (in_turn gs e >>= λ all. kept (held c) (filter (λ e. d (after (blank n) e)) all))

  bare_block : BW → TypedBlock-F TypedCondition TypedBlock TypedJoin TypedSource
  bare_block y = folds.map-TypedBlock ((c : TypedCondition) × C c) ((b : TypedBlock) × B b) ((j : TypedJoin) × J j) ((x : TypedSource) × S x) TypedCondition TypedBlock TypedJoin TypedSource (λ z. z.0) (λ z. z.0) (λ z. z.0) (λ z. z.0) y

  block_by : (item : TypedValue) (xs : List ((x : TypedSource) × S x)) (c : Option ((c : TypedCondition) × C c)) → B (roll-TypedBlock (bare_block (record { item = item; sources = xs; filter = c })))
  unfolding bare_block
  block_by item xs None h =
      let w = bare_block (record { item = item; sources = xs; filter = None }) in
      let k = and_parts (is_alone_value n item) (list_all (λ b. b) (map (is_alone_source n) (map (λ z. z.0) xs)) && true) (sym (block_at w) ∙ h) in
      let l = and_parts (list_all (λ b. b) (map (is_alone_source n) (map (λ z. z.0) xs))) true k.1 in
      let gs = all_alone (is_alone_source n) (source m s ps) xs l.0 in
      subst SameRows (sym (rows_at w)) (rows_of item (map (source m s ps) (map (λ z. z.0) xs)) gs.0 None k.0 gs.1 (any_of None refl))
  block_by item xs (Some c) h =
      let w = bare_block (record { item = item; sources = xs; filter = Some c }) in
      let k = and_parts (is_alone_value n item) (list_all (λ b. b) (map (is_alone_source n) (map (λ z. z.0) xs)) && is_alone n c.0) (sym (block_at w) ∙ h) in
      let l = and_parts (list_all (λ b. b) (map (is_alone_source n) (map (λ z. z.0) xs))) (is_alone n c.0) k.1 in
      let gs = all_alone (is_alone_source n) (source m s ps) xs l.0 in
      subst SameRows (sym (rows_at w)) (rows_of item (map (source m s ps) (map (λ z. z.0) xs)) gs.0 (Some c.0) k.0 gs.1 (any_of (Some c) l.1))

  block_layer : (y : BW) → B (roll-TypedBlock (bare_block y))
  block_layer y = block_by y.item y.sources y.filter

  -- a block that is alone gives the same rows for all tuples
  pub block_alone : (b : TypedBlock) → B b
  unfolding bare_block bare_join bare_source
  block_alone = folds.ind-TypedBlock C B J S
      (λ w y is. subst (λ z. C (roll-TypedCondition z)) is (layer y)) (λ w y is. subst (λ z. B (roll-TypedBlock z)) is (block_layer y))
      (λ w y is. subst (λ z. J (roll-TypedJoin z)) is (join_layer y)) (λ w y is. subst (λ z. S (roll-TypedSource z)) is (source_layer y))

  -- and none of its own is there yet
  pub rows_alone : (b : TypedBlock) (p q : Tuple) → is_alone_block n b ≡ true → length p ≡ n → length q ≡ n → rows m s ps b p ≡ rows m s ps b q
  rows_alone b p q h lp lq = ap (rows m s ps b) (sym (append-nil p)) ∙ block_alone b h p q [] lp lq ∙ ap (rows m s ps b) (append-nil q)

-- Names in conditions, nested SELECTs, joins and elements of FROM that are well typed mean something: by induction over their
-- trees.
use Rattle.std.proofs.Common.{◌≡◌, ◌∙◌, refl, ap, sym, subst, ℕ, Bool, true, false, List, [], ◌∷◌, map, is_some, Option, Some, None, option_map}
use Rattle.std.specs.Prelude.{◌&&◌, unwrap_or, if◌then◌else◌}
use Rattle.std.specs.List.{list_all}
use Rattle.std.proofs.lemmas.Bool.{and_parts}
use Rattle.jpa_model.specs.Chains.{class_of}
use Rattle.jpa_model.specs.WellFormed.{is_some_that, if_some}
use Rattle.jpa_model.specs.declared.unit.PersistenceUnit.{PersistenceUnit}
use Rattle.jpql_trees.specs.declared.tree.Path.{Path}
use Rattle.jpql_trees.specs.declared.tree.Origin.{Origin}
use Rattle.jpql_trees.specs.declared.tree.Item.{Item}
use Rattle.jpql_trees.specs.declared.tree.Condition.{Condition, Condition-F, fold-Condition}
use Rattle.jpql_trees.specs.declared.tree.Condition.TheOpen as test
use Rattle.jpql_trees.specs.declared.tree.Condition.TheOpen.{Block-F, Join-F, Source-F}
use Rattle.jpql_trees.specs.declared.tree.Condition.TheFolds as folds
use Rattle.jpql_trees.specs.declared.tree.Condition.TheViews.{roll-Condition, roll-Block, roll-Join, roll-Source}
use Rattle.jpql_trees.specs.declared.tree.Block.{Block}
use Rattle.jpql_trees.specs.declared.tree.Join.{Join}
use Rattle.jpql_trees.specs.declared.tree.Source.{Source}
use Rattle.jpql_trees.specs.declared.tree.Value.{Value}
use Rattle.jpql_trees.specs.tree.Names.{Text}
use Rattle.jpql_trees.specs.tree.Steps.{◌>>=◌}
use Rattle.jpql_trees.specs.declared.typed.path.Step.{Step}
use Rattle.jpql_trees.specs.declared.typed.path.TypedPath.{TypedPath}
use Rattle.jpql_types.specs.declared.scope.Clause.{Clause}
use Rattle.jpql_types.specs.declared.sort.Sort.{Sort}
use Rattle.jpql_trees.specs.declared.typed.typed.TypedValue.{TypedValue}
use Rattle.jpql_trees.specs.declared.typed.typed.TypedCondition.{TypedCondition}
use Rattle.jpql_trees.specs.declared.typed.typed.TypedCondition.TheVariants as is
use Rattle.jpql_trees.specs.declared.typed.typed.TypedOrigin.{TypedOrigin}
use Rattle.jpql_trees.specs.declared.typed.typed.TypedSource.{TypedSource, roll-TypedSource}
use Rattle.jpql_trees.specs.declared.typed.typed.TypedJoin.{TypedJoin, roll-TypedJoin}
use Rattle.jpql_trees.specs.declared.typed.typed.TypedBlock.{TypedBlock, roll-TypedBlock}
use Rattle.jpql_types.specs.Scope.{Scope, when, is_new, place_of, path_of, step_from, target, resolved}
use Rattle.jpql_types.specs.Sorts.{goes_with, text, joined, joined_basic, sort_against, are_comparable}
use Rattle.jpql_types.specs.Typing as typing
use Rattle.jpql_types.specs.Typing.{value_sort, sorts_of, collection, variable_path, is_of_hierarchy, allows_exists, is_one_character, related_class, origin_class, in_turn, with_variable, when_new}
use Rattle.jpql_types.specs.Trees as trees
use Rattle.jpql_types.specs.Trees.{place, no_step}
use Rattle.jpql_types.specs.Resolved as names
use Rattle.jpql_types.specs.Resolved.{both, if_written}
use Rattle.jpql_types.proofs.Options.{IsThere, value_in, none_some, there, there_before, there_at, there_that, there_if, there_both, passed_if, all_there, that_at, then_at, when_there, both_of, each_of, each_tested, each_paired}
use Rattle.jpql_types.proofs.Turns.{Turns, turns}
use Rattle.jpql_types.proofs.ResolvedValues.{value_resolved, values_resolved, collected_path}

-- a variable that is declared is new, and its class is the one that was found
new_one : (scope : Scope) (x : Text) (o : Option ℕ) (f : ℕ → Option Scope) (wider : Scope) → (when_new scope x o >>= f) ≡ Some wider → (o >>= f) ≡ Some wider
unfolding when_new
new_one scope x o f wider h = by (is_new scope x) h
  where
    by : (b : Bool) → ((if b then o else None) >>= f) ≡ Some wider → (o >>= f) ≡ Some wider
    by true h = h
    by false h = absurd (none_some wider h)

module _ (m : PersistenceUnit) (ps : List (Text × Sort)) (groups : List Path) where
  -- ---- what typing says, what names mean, and the tree

  abbrev Judges : Type 0
  Judges = typing.Judges m ps groups

  abbrev Rows : Type 0
  Rows = Scope → Option Sort

  abbrev Adds : Type 0
  Adds = Scope → Option Scope

  abbrev pub judged : Condition → Judges
  judged = fold-Condition Judges Rows Adds Adds (typing.condition_step m ps groups) (typing.block_step m ps groups) (typing.join_step m ps groups) (typing.source_step m ps groups)

  abbrev block_sorted : Block → Rows
  block_sorted = typing.block_sort m ps groups

  abbrev join_adds : Join → Adds
  join_adds = typing.join_scope m ps groups

  abbrev pub source_adds : Source → Adds
  source_adds = typing.source_scope m ps groups

  abbrev Named-in : Type 0
  Named-in = Scope → Option TypedCondition

  abbrev Block-named : Type 0
  Block-named = Scope → Option TypedBlock

  abbrev Join-named : Type 0
  Join-named = Scope → Option (TypedJoin × Scope)

  abbrev Source-named : Type 0
  Source-named = Scope → Option (TypedSource × Scope)

  abbrev Made-in : Type 0
  Made-in = Scope → TypedCondition

  abbrev Block-made : Type 0
  Block-made = Scope → TypedBlock

  abbrev Join-made : Type 0
  Join-made = Scope → TypedJoin × Scope

  abbrev Source-made : Type 0
  Source-made = Scope → TypedSource × Scope

  abbrev name : Condition → Named-in
  name = names.condition m ps

  abbrev tree : Condition → Made-in
  tree = trees.typed_condition m ps

  -- ---- what is proved of each

  abbrev pub C : Condition → Type 0
  C c = (scope : Scope) (clause : _) → judged c scope clause ≡ true → name c scope ≡ Some (tree c scope)

  abbrev B : Block → Type 0
  B b = (scope : Scope) → IsThere (block_sorted b scope) → names.block m ps b scope ≡ Some (trees.typed_block m ps b scope)

  abbrev J : Join → Type 0
  J = Turns join_adds (names.join m ps) (trees.typed_join m ps)

  abbrev pub S : Source → Type 0
  S = Turns source_adds (names.source m ps) (trees.typed_source m ps)

  abbrev Cs : Type 0
  Cs = (c : Condition) × C c

  abbrev Bs : Type 0
  Bs = (b : Block) × B b

  abbrev Js : Type 0
  Js = (j : Join) × J j

  abbrev Ss : Type 0
  Ss = (x : Source) × S x

  -- ---- the equations of each layer

  judged_at : (w : Condition-F Condition Block Join Source)
      → judged (roll-Condition w) ≡ typing.condition_step m ps groups (folds.map-Condition Condition Block Join Source Judges Rows Adds Adds judged block_sorted join_adds source_adds w)
  judged_at w = folds.fold-roll-Condition Judges Rows Adds Adds (typing.condition_step m ps groups) (typing.block_step m ps groups) (typing.join_step m ps groups) (typing.source_step m ps groups) w

  named_at : (w : Condition-F Condition Block Join Source)
      → name (roll-Condition w) ≡ names.test_step m ps (folds.map-Condition Condition Block Join Source Named-in Block-named Join-named Source-named name (names.block m ps) (names.join m ps) (names.source m ps) w)
  named_at w = folds.fold-roll-Condition Named-in Block-named Join-named Source-named (names.test_step m ps) (names.block_step m ps) (names.join_step m ps) (names.source_step m ps) w

  made_at : (w : Condition-F Condition Block Join Source)
      → tree (roll-Condition w) ≡ trees.test_step m ps (folds.map-Condition Condition Block Join Source Made-in Block-made Join-made Source-made tree (trees.typed_block m ps) (trees.typed_join m ps) (trees.typed_source m ps) w)
  made_at w = folds.fold-roll-Condition Made-in Block-made Join-made Source-made (trees.test_step m ps) (trees.block_step m ps) (trees.join_step m ps) (trees.source_step m ps) w

  from_layer : (w : Condition-F Condition Block Join Source)
      → ((scope : Scope) (clause : _)
      → typing.condition_step m ps groups (folds.map-Condition Condition Block Join Source Judges Rows Adds Adds judged block_sorted join_adds source_adds w) scope clause ≡ true
      → names.test_step m ps (folds.map-Condition Condition Block Join Source Named-in Block-named Join-named Source-named name (names.block m ps) (names.join m ps) (names.source m ps) w) scope
      ≡ Some (trees.test_step m ps (folds.map-Condition Condition Block Join Source Made-in Block-made Join-made Source-made tree (trees.typed_block m ps) (trees.typed_join m ps) (trees.typed_source m ps) w) scope))
      → C (roll-Condition w)
  from_layer w k scope clause h =
      ap (λ f. f scope) (named_at w) ∙ k scope clause (subst (λ f. f scope clause ≡ true) (judged_at w) h) ∙ ap (λ f. Some (f scope)) (sym (made_at w))

  -- ---- conditions

  abbrev value_named : Scope → Value → Option TypedValue
  value_named scope a = names.value m ps scope a

  abbrev value_made : Scope → Value → TypedValue
  value_made scope a = trees.typed_value m ps scope a

  two_values : (scope : Scope) (clause : _) (f : TypedValue → TypedValue → TypedCondition) (a b : Value)
      → IsThere (value_sort m ps groups scope clause a) → IsThere (value_sort m ps groups scope clause b) → both f (value_named scope a) (value_named scope b) ≡ Some (f (value_made scope a) (value_made scope b))
  two_values scope clause f a b ah bh =
      both_of f (value_named scope a) (value_named scope b) (value_made scope a) (value_made scope b) (value_resolved m ps groups scope a clause ah) (value_resolved m ps groups scope b clause bh)

  type_resolved : (scope : Scope) (clause : _) (x : Text) (all : List Text) (o : Option TypedPath)
      → resolved m groups scope clause (variable_path x) ≡ o → is_some_that (λ path. list_all (is_of_hierarchy m path.class) all) o ≡ true
      → both is.«Type» (place_of scope x) (typing.all_some (map (class_of m) all)) ≡ Some (is.«Type» (place (place_of scope x)) (map (trees.class_named m ps) all))
  type_resolved scope clause x all o oe h =
      let path = that_at (λ (p : TypedPath). list_all (is_of_hierarchy m p.class) all) o h in
      both_of is.«Type» (place_of scope x) (typing.all_some (map (class_of m) all)) (place (place_of scope x)) (map (trees.class_named m ps) all)
      (there 0 (place_of scope x) (there_before (place_of scope x) _ (there_before (path_of m scope (variable_path x)) _ (subst IsThere (sym (oe ∙ path.1)) refl))))
      (each_of (class_of m) (trees.class_named m ps) all
      (each_tested (is_of_hierarchy m (path.0).class) (λ n. class_of m n ≡ Some (trees.class_named m ps n)) (λ n k. there 0 (class_of m n) (there_that _ (class_of m n) k)) all path.2))

  layer : (y : Condition-F Cs Bs Js Ss) → C (roll-Condition (folds.map-Condition Cs Bs Js Ss Condition Block Join Source (λ z. z.0) (λ z. z.0) (λ z. z.0) (λ z. z.0) y))
  layer (test.Or a b) = from_layer (test.Or a.0 b.0) (λ scope clause h.
      let p = and_parts (judged a.0 scope clause) (judged b.0 scope clause) h in
      both_of is.Or (name a.0 scope) (name b.0 scope) (tree a.0 scope) (tree b.0 scope) (a.1 scope clause p.0) (b.1 scope clause p.1))
  layer (test.And a b) = from_layer (test.And a.0 b.0) (λ scope clause h.
      let p = and_parts (judged a.0 scope clause) (judged b.0 scope clause) h in
      both_of is.And (name a.0 scope) (name b.0 scope) (tree a.0 scope) (tree b.0 scope) (a.1 scope clause p.0) (b.1 scope clause p.1))
  layer (test.Not a) = from_layer (test.Not a.0) (λ scope clause h. ap (option_map is.Not) (a.1 scope clause h))
  layer (test.Compare op a b) = from_layer (test.Compare op a b) (λ scope clause h.
      let p = there_both (are_comparable op) (value_sort m ps groups scope clause a) (value_sort m ps groups scope clause b) h in
      two_values scope clause (is.Compare op) a b p.0 p.1)
  layer (test.Between a b c) = from_layer (test.Between a b c) (λ scope clause h.
      let p = all_there (value_sort m ps groups scope clause a ∷ value_sort m ps groups scope clause b ∷ value_sort m ps groups scope clause c ∷ []) (there_before (sorts_of m ps groups scope clause (a ∷ b ∷ c ∷ [])) (λ all. joined_basic all) h) in
      ap (λ o. o >>= λ x. both (is.Between x) (value_named scope b) (value_named scope c)) (value_resolved m ps groups scope a clause p.0)
      ∙ two_values scope clause (is.Between (value_made scope a)) b c p.1.0 p.1.1.0)
  layer (test.In a all) = from_layer (test.In a all) (λ scope clause h.
      let p = all_there (value_sort m ps groups scope clause a ∷ map (value_sort m ps groups scope clause) all) (there_before (sorts_of m ps groups scope clause (a ∷ all)) (λ sorts. joined sorts) h) in
      both_of is.In (value_named scope a) (typing.all_some (map (value_named scope) all)) (value_made scope a) (map (value_made scope) all)
      (value_resolved m ps groups scope a clause p.0) (values_resolved m ps groups scope clause all p.1))
  layer (test.Like a b escape) = from_layer (test.Like a b escape) (λ scope clause h.
      let p = all_there (value_sort m ps groups scope clause a ∷ value_sort m ps groups scope clause b ∷ []) (there_that (list_all (goes_with text)) (sorts_of m ps groups scope clause (a ∷ b ∷ [])) (and_parts (is_some_that (list_all (goes_with text)) (sorts_of m ps groups scope clause (a ∷ b ∷ []))) (if_some is_one_character escape) h).0) in
      two_values scope clause (λ x y. is.Like x y escape) a b p.0 p.1.0)
  layer (test.IsNull a) = from_layer (test.IsNull a) (λ scope clause h. ap (option_map is.IsNull) (value_resolved m ps groups scope a clause h))
  layer (test.IsEmpty p) = from_layer (test.IsEmpty p) (λ scope clause h. ap (option_map is.IsEmpty) (collected_path m ps groups scope clause p h))
  layer (test.Member a p) = from_layer (test.Member a p) (λ scope clause h.
      let there_ = there_both (λ class s. goes_with (Sort.Entity (Rattle.jpa_model.specs.Chains.root_class m class)) s) (collection m groups scope clause p) (value_sort m ps groups scope clause a) h in
      both_of is.Member (value_named scope a) (path_of m scope p) (value_made scope a) (trees.typed_path m ps scope p) (value_resolved m ps groups scope a clause there_.1) (collected_path m ps groups scope clause p there_.0))
  layer (test.Exists b) = from_layer (test.Exists b.0) (λ scope clause h. ap (option_map is.Exists) (b.1 scope (and_parts (allows_exists clause) (is_some (block_sorted b.0 scope)) h).1))
  layer (test.Rows against op a b) = from_layer (test.Rows against op a b.0) (λ scope clause h.
      let rows = block_sorted b.0 scope >>= λ s. sort_against against s in
      let p = there_both (are_comparable op) (value_sort m ps groups scope clause a) rows (and_parts (allows_exists clause) (typing.pass_both (are_comparable op) (value_sort m ps groups scope clause a) rows) h).1 in
      both_of (is.Rows against op) (value_named scope a) (names.block m ps b.0 scope) (value_made scope a) (trees.typed_block m ps b.0 scope)
      (value_resolved m ps groups scope a clause p.0) (b.1 scope (there_before (block_sorted b.0 scope) (λ s. sort_against against s) p.1)))
  layer (test.«Type» x all) = from_layer (test.«Type» x all) (λ scope clause h. type_resolved scope clause x all (resolved m groups scope clause (variable_path x)) refl h)

  -- ---- joins: what an ON says of a scope, what its names mean there, and its tree

  abbrev join_as : Bool → ℕ × Step → Scope → Option TypedCondition → TypedJoin × Scope
  join_as is_left s wider on = (roll-TypedJoin (record { is_left = is_left; of = s.0; step = s.1; on = on }), wider)

  abbrev AreMeant : (Scope → Bool) → Option Named-in → Option Made-in → Type 0
  AreMeant passes named made = (scope : Scope) → passes scope ≡ true → if_written (λ (c : Named-in). c scope) named ≡ Some (option_map (λ (c : Made-in). c scope) made)

  module _ (is_left : Bool) (x : Text) (passes : Scope → Bool) (named : Option Named-in) (made : Option Made-in) (meant : AreMeant passes named made) (scope wider : Scope) where
    join_to : (s : ℕ × Step) (t : Option ℕ)
        → (t >>= λ class. when (passes (with_variable scope x class)) (with_variable scope x class)) ≡ Some wider
        → ((t >>= λ class. option_map (join_as is_left s (with_variable scope x class)) (if_written (λ (c : Named-in). c (with_variable scope x class)) named))
        ≡ Some (join_as is_left s (with_variable scope x (place t)) (option_map (λ (c : Made-in). c (with_variable scope x (place t))) made)))
        × (with_variable scope x (place t) ≡ wider)
    join_to s None h = absurd (none_some wider h)
    join_to s (Some class) h =
        let w = when_there (passes (with_variable scope x class)) (with_variable scope x class) wider h in
        (ap (option_map (join_as is_left s (with_variable scope x class))) (meant (with_variable scope x class) w.0), w.1)

    join_by : (r : Option (ℕ × Step))
        → ((r >>= λ s. target m s.1) >>= λ class. when (passes (with_variable scope x class)) (with_variable scope x class)) ≡ Some wider
        → ((r >>= λ s. target m s.1 >>= λ class. option_map (join_as is_left s (with_variable scope x class)) (if_written (λ (c : Named-in). c (with_variable scope x class)) named))
        ≡ Some (join_as is_left (unwrap_or r no_step) (with_variable scope x (place (target m (unwrap_or r no_step).1))) (option_map (λ (c : Made-in). c (with_variable scope x (place (target m (unwrap_or r no_step).1)))) made)))
        × (with_variable scope x (place (target m (unwrap_or r no_step).1)) ≡ wider)
    join_by None h = absurd (none_some wider h)
    join_by (Some s) h = join_to s (target m s.1) h

  join_with : (clause : _) (is_left : Bool) (x : Text) (c : Cs) (scope wider : Scope) (r : Option (ℕ × Step))
      → ((r >>= λ s. target m s.1) >>= λ class. when (judged c.0 (with_variable scope x class) clause) (with_variable scope x class)) ≡ Some wider
      → ((r >>= λ s. target m s.1 >>= λ class. option_map (join_as is_left s (with_variable scope x class)) (option_map Some (name c.0 (with_variable scope x class))))
      ≡ Some (join_as is_left (unwrap_or r no_step) (with_variable scope x (place (target m (unwrap_or r no_step).1))) (Some (tree c.0 (with_variable scope x (place (target m (unwrap_or r no_step).1)))))))
      × (with_variable scope x (place (target m (unwrap_or r no_step).1)) ≡ wider)
  join_with clause is_left x c scope wider r h =
      join_by is_left x (λ s. judged c.0 s clause) (Some (name c.0)) (Some (tree c.0)) (λ s e. ap (option_map Some) (c.1 s clause e)) scope wider r h

  abbrev bare_join : Join-F Cs Bs Js Ss → Join-F Condition Block Join Source
  bare_join y = folds.map-Join Cs Bs Js Ss Condition Block Join Source (λ z. z.0) (λ z. z.0) (λ z. z.0) (λ z. z.0) y

  judged_join : (w : Join-F Condition Block Join Source)
      → join_adds (roll-Join w) ≡ typing.join_step m ps groups (folds.map-Join Condition Block Join Source Judges Rows Adds Adds judged block_sorted join_adds source_adds w)
  judged_join w = folds.fold-roll-Join Judges Rows Adds Adds (typing.condition_step m ps groups) (typing.block_step m ps groups) (typing.join_step m ps groups) (typing.source_step m ps groups) w

  named_join : (w : Join-F Condition Block Join Source)
      → names.join m ps (roll-Join w) ≡ names.join_step m ps (folds.map-Join Condition Block Join Source Named-in Block-named Join-named Source-named name (names.block m ps) (names.join m ps) (names.source m ps) w)
  named_join w = folds.fold-roll-Join Named-in Block-named Join-named Source-named (names.test_step m ps) (names.block_step m ps) (names.join_step m ps) (names.source_step m ps) w

  made_join : (w : Join-F Condition Block Join Source)
      → trees.typed_join m ps (roll-Join w) ≡ trees.join_step m ps (folds.map-Join Condition Block Join Source Made-in Block-made Join-made Source-made tree (trees.typed_block m ps) (trees.typed_join m ps) (trees.typed_source m ps) w)
  made_join w = folds.fold-roll-Join Made-in Block-made Join-made Source-made (trees.test_step m ps) (trees.block_step m ps) (trees.join_step m ps) (trees.source_step m ps) w

  join_case : (is_left : Bool) (of relation x : Text) (on : Option Cs) → J (roll-Join (bare_join (record { is_left = is_left; of = of; relation = relation; variable = x; on = on })))
  join_case is_left of relation x None scope wider h =
      let w = bare_join (record { is_left = is_left; of = of; relation = relation; variable = x; on = None }) in
      let it = join_by is_left x (λ s. true) None None (λ s e. refl) scope wider (step_from m scope of relation)
      (new_one scope x (related_class m scope of relation) (λ class. when true (with_variable scope x class)) wider (subst (λ f. f scope ≡ Some wider) (judged_join w) h)) in
      (ap (λ f. f scope) (named_join w) ∙ it.0 ∙ ap (λ f. Some (f scope)) (sym (made_join w)), ap (λ f. (f scope).1) (made_join w) ∙ it.1)
  join_case is_left of relation x (Some c) scope wider h =
      let w = bare_join (record { is_left = is_left; of = of; relation = relation; variable = x; on = Some c }) in
      let it = join_with Clause.On is_left x c scope wider (step_from m scope of relation)
      (new_one scope x (related_class m scope of relation) (λ class. when (judged c.0 (with_variable scope x class) Clause.On) (with_variable scope x class)) wider
      (subst (λ f. f scope ≡ Some wider) (judged_join w) h)) in
      (ap (λ f. f scope) (named_join w) ∙ it.0 ∙ ap (λ f. Some (f scope)) (sym (made_join w)), ap (λ f. (f scope).1) (made_join w) ∙ it.1)

  join_layer : (y : Join-F Cs Bs Js Ss) → J (roll-Join (bare_join y))
  join_layer y = join_case y.is_left y.of y.relation y.variable y.on

  -- ---- elements of FROM

  abbrev entity_as : ℕ → TypedOrigin × ℕ
  entity_as class = (TypedOrigin.Entity class, class)

  abbrev related_as : ℕ × Step → ℕ → TypedOrigin × ℕ
  related_as s class = (TypedOrigin.Related s.0 s.1, class)

  abbrev source_as : TypedOrigin × ℕ → List TypedJoin × Scope → TypedSource × Scope
  source_as from joins = (roll-TypedSource (record { origin = from.0; joins = joins.0 }), joins.1)

  entity_by : (o : Option ℕ) (class : ℕ) → o ≡ Some class → (option_map entity_as o ≡ Some (entity_as (place o))) × (place o ≡ class)
  entity_by None class e = absurd (none_some class e)
  entity_by (Some c) class e = (refl, value_in c class e)

  related_to : (s : ℕ × Step) (t : Option ℕ) (class : ℕ) → t ≡ Some class
      → (option_map (related_as s) t ≡ Some (related_as s (place t))) × (place t ≡ class)
  related_to s None class e = absurd (none_some class e)
  related_to s (Some c) class e = (refl, value_in c class e)

  related_by : (r : Option (ℕ × Step)) (class : ℕ) → (r >>= λ s. target m s.1) ≡ Some class
      → ((r >>= λ s. option_map (related_as s) (target m s.1)) ≡ Some (related_as (unwrap_or r no_step) (place (target m (unwrap_or r no_step).1))))
      × (place (target m (unwrap_or r no_step).1) ≡ class)
  related_by None class e = absurd (none_some class e)
  related_by (Some s) class e = related_to s (target m s.1) class e

  origin_by : (scope : Scope) (o : Origin) (class : ℕ) → origin_class m scope o ≡ Some class → (names.origin m ps scope o ≡ Some (trees.typed_origin m ps scope o)) × ((trees.typed_origin m ps scope o).1 ≡ class)
  origin_by scope (Origin.Entity n) class e = entity_by (class_of m n) class e
  origin_by scope (Origin.Related x n) class e = related_by (step_from m scope x n) class e

  abbrev bare_source : Source-F Cs Bs Js Ss → Source-F Condition Block Join Source
  bare_source y = folds.map-Source Cs Bs Js Ss Condition Block Join Source (λ z. z.0) (λ z. z.0) (λ z. z.0) (λ z. z.0) y

  source_by : (o : Origin) (x : Text) (js : List Js) (scope wider : Scope)
      → (origin_class m scope o >>= λ class. in_turn (map join_adds (map (λ z. z.0) js)) (with_variable scope x class)) ≡ Some wider
      → ((names.origin m ps scope o >>= λ from. option_map (source_as from) (names.in_scope (map (names.join m ps) (map (λ z. z.0) js)) (with_variable scope x from.1)))
      ≡ Some (source_as (trees.typed_origin m ps scope o) (trees.in_scope (map (trees.typed_join m ps) (map (λ z. z.0) js)) (with_variable scope x (trees.typed_origin m ps scope o).1))))
      × ((trees.in_scope (map (trees.typed_join m ps) (map (λ z. z.0) js)) (with_variable scope x (trees.typed_origin m ps scope o).1)).1 ≡ wider)
  source_by o x js scope wider h =
      let class = then_at (origin_class m scope o) (λ c. in_turn (map join_adds (map (λ z. z.0) js)) (with_variable scope x c)) wider h in
      let from = origin_by scope o class.0 class.1 in
      let t = turns join_adds (names.join m ps) (trees.typed_join m ps) (map (λ z. z.0) js) (each_paired J js) (with_variable scope x (trees.typed_origin m ps scope o).1) wider
      (subst (λ c. in_turn (map join_adds (map (λ z. z.0) js)) (with_variable scope x c) ≡ Some wider) (sym from.1) class.2) in (
        ap (λ z. z >>= λ f. option_map (source_as f) (names.in_scope (map (names.join m ps) (map (λ z. z.0) js)) (with_variable scope x f.1))) from.0
            ∙ ap (option_map (source_as (trees.typed_origin m ps scope o))) t.0,
        t.1,
      )

  source_layer : (y : Source-F Cs Bs Js Ss) → S (roll-Source (bare_source y))
  source_layer y scope wider h =
      let w = bare_source y in
      let judged_source = folds.fold-roll-Source Judges Rows Adds Adds (typing.condition_step m ps groups) (typing.block_step m ps groups) (typing.join_step m ps groups) (typing.source_step m ps groups) w in
      let named_source = folds.fold-roll-Source Named-in Block-named Join-named Source-named (names.test_step m ps) (names.block_step m ps) (names.join_step m ps) (names.source_step m ps) w in
      let made_source = folds.fold-roll-Source Made-in Block-made Join-made Source-made (trees.test_step m ps) (trees.block_step m ps) (trees.join_step m ps) (trees.source_step m ps) w in
      let it = source_by y.origin y.variable y.joins scope wider
      (new_one scope y.variable (origin_class m scope y.origin) (λ class. in_turn (map join_adds (map (λ z. z.0) y.joins)) (with_variable scope y.variable class)) wider
      (subst (λ f. f scope ≡ Some wider) judged_source h)) in
      (ap (λ f. f scope) named_source ∙ it.0 ∙ ap (λ f. Some (f scope)) (sym made_source), ap (λ f. (f scope).1) made_source ∙ it.1)

  -- ---- nested SELECTs

  abbrev bare_block : Block-F Cs Bs Js Ss → Block-F Condition Block Join Source
  bare_block y = folds.map-Block Cs Bs Js Ss Condition Block Join Source (λ z. z.0) (λ z. z.0) (λ z. z.0) (λ z. z.0) y

  abbrev block_as : List TypedSource → TypedValue → Option TypedCondition → TypedBlock
  block_as sources item filter = roll-TypedBlock (record { item = item; sources = sources; filter = filter })

  block_by : (item : Value) (xs : List Ss) (sort : Rows) (passes : Scope → Bool) (named : Option Named-in) (made : Option Made-in)
      → ((scope : Scope) → IsThere (sort scope) → value_named scope item ≡ Some (value_made scope item)) → AreMeant passes named made → (outer : Scope)
      → IsThere (in_turn (map source_adds (map (λ z. z.0) xs)) outer >>= λ scope. if passes scope then sort scope else None)
      → (names.in_scope (map (names.source m ps) (map (λ z. z.0) xs)) outer >>= λ from. both (block_as from.0) (value_named from.1 item) (if_written (λ (c : Named-in). c from.1) named))
      ≡ Some (let from = trees.in_scope (map (trees.typed_source m ps) (map (λ z. z.0) xs)) outer in block_as from.0 (value_made from.1 item) (option_map (λ (c : Made-in). c from.1) made))
  block_by item xs sort passes named made sorted meant outer h =
      let wider = there_at (in_turn (map source_adds (map (λ z. z.0) xs)) outer) (λ scope. if passes scope then sort scope else None) h in
      let t = turns source_adds (names.source m ps) (trees.typed_source m ps) (map (λ z. z.0) xs) (each_paired S xs) outer wider.0 wider.1 in
      let from = trees.in_scope (map (trees.typed_source m ps) (map (λ z. z.0) xs)) outer in
      let behind = subst (λ s. IsThere (if passes s then sort s else None)) (sym t.1) wider.2 in
      ap (λ z. z >>= λ f. both (block_as f.0) (value_named f.1 item) (if_written (λ (c : Named-in). c f.1) named)) t.0
      ∙ both_of (block_as from.0) (value_named from.1 item) (if_written (λ (c : Named-in). c from.1) named) (value_made from.1 item) (option_map (λ (c : Made-in). c from.1) made) (sorted from.1 (there_if (passes from.1) (sort from.1) behind)) (meant from.1 (passed_if (passes from.1) (sort from.1) behind))

  sorted_block : (w : Block-F Condition Block Join Source)
      → block_sorted (roll-Block w) ≡ typing.block_step m ps groups (folds.map-Block Condition Block Join Source Judges Rows Adds Adds judged block_sorted join_adds source_adds w)
  sorted_block w = folds.fold-roll-Block Judges Rows Adds Adds (typing.condition_step m ps groups) (typing.block_step m ps groups) (typing.join_step m ps groups) (typing.source_step m ps groups) w

  named_block : (w : Block-F Condition Block Join Source)
      → names.block m ps (roll-Block w) ≡ names.block_step m ps (folds.map-Block Condition Block Join Source Named-in Block-named Join-named Source-named name (names.block m ps) (names.join m ps) (names.source m ps) w)
  named_block w = folds.fold-roll-Block Named-in Block-named Join-named Source-named (names.test_step m ps) (names.block_step m ps) (names.join_step m ps) (names.source_step m ps) w

  made_block : (w : Block-F Condition Block Join Source)
      → trees.typed_block m ps (roll-Block w) ≡ trees.block_step m ps (folds.map-Block Condition Block Join Source Made-in Block-made Join-made Source-made tree (trees.typed_block m ps) (trees.typed_join m ps) (trees.typed_source m ps) w)
  made_block w = folds.fold-roll-Block Made-in Block-made Join-made Source-made (trees.test_step m ps) (trees.block_step m ps) (trees.join_step m ps) (trees.source_step m ps) w

  block_case : (is_distinct : Bool) (item : Item) (xs : List Ss) (where_ : Option Cs) → B (roll-Block (bare_block (record { is_distinct = is_distinct; item = item; sources = xs; filter = where_ })))
  block_case is_distinct item xs None outer h =
      let w = bare_block (record { is_distinct = is_distinct; item = item; sources = xs; filter = None }) in
      ap (λ f. f outer) (named_block w)
      ∙ block_by item.value xs (λ s. value_sort m ps groups s _ item.value) (λ s. true) None None (λ s e. value_resolved m ps groups s item.value _ e) (λ s e. refl) outer (subst (λ f. IsThere (f outer)) (sorted_block w) h)
      ∙ ap (λ f. Some (f outer)) (sym (made_block w))
  block_case is_distinct item xs (Some c) outer h =
      let w = bare_block (record { is_distinct = is_distinct; item = item; sources = xs; filter = Some c }) in
      ap (λ f. f outer) (named_block w)
      ∙ block_by item.value xs (λ s. value_sort m ps groups s _ item.value) (λ s. judged c.0 s _) (Some (name c.0)) (Some (tree c.0))
      (λ s e. value_resolved m ps groups s item.value _ e) (λ s e. ap (option_map Some) (c.1 s _ e)) outer (subst (λ f. IsThere (f outer)) (sorted_block w) h)
      ∙ ap (λ f. Some (f outer)) (sym (made_block w))

  block_layer : (y : Block-F Cs Bs Js Ss) → B (roll-Block (bare_block y))
  block_layer y = block_case y.is_distinct y.item y.sources y.filter

  -- ---- the laws

  pub condition_resolved : (c : Condition) → C c
  condition_resolved = folds.ind-Condition C B J S
      (λ w y is. subst (λ z. C (roll-Condition z)) is (layer y)) (λ w y is. subst (λ z. B (roll-Block z)) is (block_layer y))
      (λ w y is. subst (λ z. J (roll-Join z)) is (join_layer y)) (λ w y is. subst (λ z. S (roll-Source z)) is (source_layer y))

  pub source_resolved : (x : Source) → S x
  source_resolved = folds.ind-Source C B J S
      (λ w y is. subst (λ z. C (roll-Condition z)) is (layer y)) (λ w y is. subst (λ z. B (roll-Block z)) is (block_layer y))
      (λ w y is. subst (λ z. J (roll-Join z)) is (join_layer y)) (λ w y is. subst (λ z. S (roll-Source z)) is (source_layer y))

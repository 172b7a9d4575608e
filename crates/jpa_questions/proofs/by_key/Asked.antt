-- What a statement is that asks one object by its key.
use Rattle.std.proofs.Common.{◌≡◌, ◌∙◌, refl, ap, sym, subst, ℕ, ◌<◌, Bool, true, false, cond, slice_index_or, List, [], ◌∷◌, length, map, Option, Some, None, inl, inr}
use Rattle.std.specs.Prelude.{◌==◌, ◌&&◌, ◌⊎◌, nat_lt, is_some, option_and_then}
use Rattle.std.specs.Option.{unwrap_or}
use Rattle.std.proofs.lemmas.Bool.{and_parts, eqb-true, false≢true, ltb-true}
use Rattle.jpa_value.specs.declared.value.Identity.{Identity}
use Rattle.jpa_value.specs.declared.value.Value.{Value}
use Rattle.jpa_model.specs.declared.unit.Member.{Member}
use Rattle.jpa_model.specs.declared.unit.PersistenceUnit.{PersistenceUnit}
use Rattle.jpa_model.specs.Chains.{is_kind_of, root_of}
use Rattle.jpa_stored.specs.objects.Sets.{StoredSet}
use Rattle.jpql_trees.specs.declared.tree.Comparison.{Comparison}
use Rattle.jpql_trees.specs.declared.typed.path.Step.{Step}
use Rattle.jpql_trees.specs.declared.typed.path.TypedPath.{TypedPath}
use Rattle.jpql_trees.specs.declared.typed.typed.TypedValue.{TypedValue, TypedValue-F}
use Rattle.jpql_trees.specs.declared.typed.typed.TypedValue.TheViews.{roll-TypedValue}
use Rattle.jpql_trees.specs.declared.typed.typed.TypedValue.TheOpen as part
use Rattle.jpql_trees.specs.declared.typed.typed.TypedValue.TheVariants as v
use Rattle.jpql_trees.specs.declared.typed.typed.TypedValue.TheFolds as values
use Rattle.jpql_trees.specs.declared.typed.typed.TypedCondition.{TypedCondition, TypedCondition-F}
use Rattle.jpql_trees.specs.declared.typed.typed.TypedCondition.TheOpen as test
use Rattle.jpql_trees.specs.declared.typed.typed.TypedCondition.TheVariants as is
use Rattle.jpql_trees.specs.declared.typed.typed.TypedCondition.TheFolds as folds
use Rattle.jpql_trees.specs.declared.typed.typed.TypedCondition.TheViews.{out-TypedSource, roll-TypedCondition}
use Rattle.jpql_trees.specs.declared.typed.typed.TypedBlock.{TypedBlock, fold-TypedBlock}
use Rattle.jpql_trees.specs.declared.typed.typed.TypedJoin.{TypedJoin, fold-TypedJoin}
use Rattle.jpql_trees.specs.declared.typed.typed.TypedSource.{TypedSource, fold-TypedSource}
use Rattle.jpql_trees.specs.declared.typed.typed.TypedOrigin.{TypedOrigin}
use Rattle.jpql_trees.specs.declared.typed.typed.TypedSelect.{TypedSelect}
use Rattle.jpql_meaning.specs.declared.eval.datum.Datum.{Datum}
use Rattle.jpql_meaning.specs.eval.Answers.{gives}
use Rattle.jpql_meaning.specs.plan.Meaning.{Case, value}
use Rattle.jpql_run.specs.Calm.{Calmness, is_calm_value}
use Rattle.jpql_run.specs.Equations.{IsPart}
use Rattle.jpql_run.specs.Lookups.{AreKeyedAs}
use Rattle.jpql_run.specs.Refused.{Refuses}
use Rattle.jpql_run.proofs.CalmValues.{layer_of}
use Rattle.jpql_run.proofs.Equations.{turned}
use Rattle.jpa_questions.specs.by_key.Own.{all_below, is_own_select}
use Rattle.jpa_questions.specs.by_key.ByKey as by_key
use Rattle.jpa_questions.specs.by_key.ByKey.{asked, asked_if_any, equated, given, identity_in, identity_with, is_first_part, is_key, is_key_path, is_keyed, key_of, keyed_table, named_step, names_key, plain, range_of, ranged}
use Rattle.jpa_questions.proofs.by_key.Below.{below_at}
use Rattle.jpa_questions.proofs.by_key.Members.{implied}
use Rattle.jpa_questions.proofs.by_key.Same.{value_layer}

none_is : {A : Type 0} (x : A) → None ≡ Some x → ⊥
none_is x e = false≢true (ap is_some e)

some_in : {A : Type 0} (x y : A) → Some x ≡ Some y → x ≡ y
some_in x y e = ap (λ o. unwrap_or o x) e

chosen : {A : Type 0} (b : Bool) (o : Option A) (x : A) → cond b o None ≡ Some x → (b ≡ true) × (o ≡ Some x)
chosen true o x e = (refl, e)
chosen false o x e = absurd (none_is x e)

-- ---- FROM

range_some : (o : TypedOrigin) (js : List TypedJoin) (class : ℕ) → range_of o js ≡ Some class → (o ≡ TypedOrigin.Entity class) × (js ≡ [])
range_some (TypedOrigin.Entity c) [] class e = (ap TypedOrigin.Entity (some_in c class e), refl)
range_some (TypedOrigin.Entity c) (j ∷ js) class e = absurd (none_is class e)
range_some (TypedOrigin.Related of step) js class e = absurd (none_is class e)

pub record IsRange (xs : List TypedSource) (class : ℕ) : Type 0 where
  pub source : TypedSource
  pub only : xs ≡ source ∷ []
  pub origin : (out-TypedSource source).origin ≡ TypedOrigin.Entity class
  pub joins : (out-TypedSource source).joins ≡ []

ranged_some : (xs : List TypedSource) (class : ℕ) → ranged xs ≡ Some class → IsRange xs class
ranged_some [] class e = absurd (none_is class e)
ranged_some (x ∷ []) class e =
    let parts = range_some (out-TypedSource x).origin (out-TypedSource x).joins class e in
    record { source = x; only = refl; origin = parts.0; joins = parts.1 }
ranged_some (x ∷ y ∷ xs) class e = absurd (none_is class e)

-- ---- a value that is the key

pub record IsKeyPath (a : TypedValue) : Type 0 where
  pub path : TypedPath
  pub step : Step
  pub written : a ≡ v.Path path
  pub here : path.variable ≡ 0
  pub single : path.steps ≡ step ∷ []
  pub is_place : step.member ≡ Member.KeyPart 0

first_part : (member : Member) → is_first_part member ≡ true → member ≡ Member.KeyPart 0
first_part (Member.KeyPart i) h = ap Member.KeyPart (eqb-true i 0 h)
first_part Member.Version h = absurd (false≢true h)
first_part (Member.Attribute i) h = absurd (false≢true h)
first_part (Member.Relation r) h = absurd (false≢true h)

key_steps : (steps : List Step) → is_key steps ≡ true → (step : Step) × (steps ≡ step ∷ []) × (step.member ≡ Member.KeyPart 0)
key_steps [] h = absurd (false≢true h)
key_steps (step ∷ []) h = (step, refl, first_part step.member h)
key_steps (step ∷ after ∷ steps) h = absurd (false≢true h)

key_path : (a : TypedValue) (p : TypedPath) → a ≡ v.Path p → is_key_path p ≡ true → IsKeyPath a
key_path a p e h =
    let parts = and_parts (p.variable == 0) (is_key p.steps) h in
    let steps = key_steps p.steps parts.1 in
    record { path = p; step = steps.0; written = e; here = eqb-true p.variable 0 parts.0; single = steps.1; is_place = steps.2 }

abbrev N : TypedValue → Type 0
N a = names_key a ≡ true → IsKeyPath a

named_at : (w : TypedValue-F TypedValue) → names_key (roll-TypedValue w) ≡ named_step (values.map-TypedValue TypedValue Bool names_key w)
named_at w = values.fold-roll-TypedValue Bool named_step w

named_layer : (y : TypedValue-F ((a : TypedValue) × N a)) → N (roll-TypedValue (values.map-TypedValue ((a : TypedValue) × N a) TypedValue (λ z. z.0) y))
named_layer (part.Integer n) h = absurd (false≢true (sym (named_at (part.Integer n)) ∙ h))
named_layer (part.Text t) h = absurd (false≢true (sym (named_at (part.Text t)) ∙ h))
named_layer (part.Parameter place) h = absurd (false≢true (sym (named_at (part.Parameter place)) ∙ h))
named_layer (part.Path p) h = key_path (roll-TypedValue (part.Path p)) p (v.rolls-Path p) (sym (named_at (part.Path p)) ∙ h)
named_layer (part.Signed sign a) h = absurd (false≢true (sym (named_at (part.Signed sign a.0)) ∙ h))
named_layer (part.Arithmetic op a b) h = absurd (false≢true (sym (named_at (part.Arithmetic op a.0 b.0)) ∙ h))
named_layer (part.Call f all) h = absurd (false≢true (sym (named_at (part.Call f (map (λ z. z.0) all))) ∙ h))
named_layer (part.Size p) h = absurd (false≢true (sym (named_at (part.Size p)) ∙ h))
named_layer (part.Aggregate g distinct a) h = absurd (false≢true (sym (named_at (part.Aggregate g distinct a.0)) ∙ h))

key_named : (a : TypedValue) → names_key a ≡ true → IsKeyPath a
key_named = values.ind-TypedValue N (λ w y is. subst (λ z. N (roll-TypedValue z)) is (named_layer y))

-- ---- a value that is given, whatever the set and the tuple

module _ (ps : List Datum) where
  abbrev pub AlwaysGives : TypedValue → Value → Type 0
  AlwaysGives a x = (m : PersistenceUnit) (s : StoredSet) (at : Case) → value m s ps a at ≡ gives (Datum.Plain x)

  abbrev G : TypedValue → Type 0
  G a = (x : Value) → given ps a ≡ Some x → AlwaysGives a x

  plain_is : (d : Datum) (x : Value) → plain d ≡ Some x → d ≡ Datum.Plain x
  plain_is (Datum.Plain y) x e = ap Datum.Plain (some_in y x e)
  plain_is (Datum.Entity id) x e = absurd (none_is x e)

  given_at : (w : TypedValue-F TypedValue) → given ps (roll-TypedValue w) ≡ by_key.given_step ps (values.map-TypedValue TypedValue (Option Value) (given ps) w)
  given_at w = values.fold-roll-TypedValue (Option Value) (by_key.given_step ps) w

  given_layer : (y : TypedValue-F ((a : TypedValue) × G a)) → G (roll-TypedValue (values.map-TypedValue ((a : TypedValue) × G a) TypedValue (λ z. z.0) y))
  given_layer (part.Integer n) x e = λ m s at. ap (λ f. f at) (value_layer m s ps (part.Integer n)) ∙ ap (λ y. gives (Datum.Plain y)) (some_in (Value.Int n) x (sym (given_at (part.Integer n)) ∙ e))
  given_layer (part.Text t) x e = λ m s at. ap (λ f. f at) (value_layer m s ps (part.Text t)) ∙ ap (λ y. gives (Datum.Plain y)) (some_in (Value.Text t) x (sym (given_at (part.Text t)) ∙ e))
  given_layer (part.Parameter place) x e = λ m s at. ap (λ f. f at) (value_layer m s ps (part.Parameter place)) ∙ ap gives (plain_is (slice_index_or ps place _) x (sym (given_at (part.Parameter place)) ∙ e))
  given_layer (part.Path p) x e = absurd (none_is x (sym (given_at (part.Path p)) ∙ e))
  given_layer (part.Signed sign a) x e = absurd (none_is x (sym (given_at (part.Signed sign a.0)) ∙ e))
  given_layer (part.Arithmetic op a b) x e = absurd (none_is x (sym (given_at (part.Arithmetic op a.0 b.0)) ∙ e))
  given_layer (part.Call f all) x e = absurd (none_is x (sym (given_at (part.Call f (map (λ z. z.0) all))) ∙ e))
  given_layer (part.Size p) x e = absurd (none_is x (sym (given_at (part.Size p)) ∙ e))
  given_layer (part.Aggregate g distinct a) x e = absurd (none_is x (sym (given_at (part.Aggregate g distinct a.0)) ∙ e))

  always_given : (a : TypedValue) (x : Value) → given ps a ≡ Some x → AlwaysGives a x
  always_given = values.ind-TypedValue G (λ w y is. subst (λ z. G (roll-TypedValue z)) is (given_layer y))

  abbrev Q : TypedValue → Type 0
  Q a = (x : Value) → given ps a ≡ Some x → is_calm_value a ≡ true

  calm_layer : (y : TypedValue-F ((a : TypedValue) × Q a)) → Q (roll-TypedValue (values.map-TypedValue ((a : TypedValue) × Q a) TypedValue (λ z. z.0) y))
  calm_layer (part.Integer n) x e = ap (λ (k : Calmness). k.calm) (layer_of (part.Integer n))
  calm_layer (part.Text t) x e = ap (λ (k : Calmness). k.calm) (layer_of (part.Text t))
  calm_layer (part.Parameter place) x e = ap (λ (k : Calmness). k.calm) (layer_of (part.Parameter place))
  calm_layer (part.Path p) x e = absurd (none_is x (sym (given_at (part.Path p)) ∙ e))
  calm_layer (part.Signed sign a) x e = absurd (none_is x (sym (given_at (part.Signed sign a.0)) ∙ e))
  calm_layer (part.Arithmetic op a b) x e = absurd (none_is x (sym (given_at (part.Arithmetic op a.0 b.0)) ∙ e))
  calm_layer (part.Call f all) x e = absurd (none_is x (sym (given_at (part.Call f (map (λ z. z.0) all))) ∙ e))
  calm_layer (part.Size p) x e = absurd (none_is x (sym (given_at (part.Size p)) ∙ e))
  calm_layer (part.Aggregate g distinct a) x e = absurd (none_is x (sym (given_at (part.Aggregate g distinct a.0)) ∙ e))

  calm_given : (a : TypedValue) (x : Value) → given ps a ≡ Some x → is_calm_value a ≡ true
  calm_given = values.ind-TypedValue Q (λ w y is. subst (λ z. Q (roll-TypedValue z)) is (calm_layer y))

  -- ---- an equation of the key with what is given

  -- the condition is an equation of the key with what gives the value always
  pub record AsksKey (c : TypedCondition) (x : Value) : Type 0 where
    pub left : TypedValue
    pub right : TypedValue
    pub is_equation : c ≡ is.Compare Comparison.Equal left right
    pub key : TypedValue
    pub other : TypedValue
    pub sides : ((left ≡ key) × (right ≡ other)) ⊎ ((left ≡ other) × (right ≡ key))
    pub named : IsKeyPath key
    pub gives_it : AlwaysGives other x
    pub calm : is_calm_value other ≡ true

  equated_some : (a b : TypedValue) (x : Value) → equated ps a b ≡ Some x
      → ((names_key a ≡ true) × (given ps b ≡ Some x)) ⊎ ((names_key b ≡ true) × (given ps a ≡ Some x))
  equated_some a b x e = by (names_key a) refl e
    where
      by : (n : Bool) → names_key a ≡ n → cond n (given ps b) (cond (names_key b) (given ps a) None) ≡ Some x
          → ((names_key a ≡ true) × (given ps b ≡ Some x)) ⊎ ((names_key b ≡ true) × (given ps a ≡ Some x))
      by true n e = inl (n, e)
      by false n e = inr (chosen (names_key b) (given ps a) x e)

  asks : (c : TypedCondition) (a b : TypedValue) (x : Value) → c ≡ is.Compare Comparison.Equal a b → equated ps a b ≡ Some x → AsksKey c x
  asks c a b x e f = by (equated_some a b x f)
    where
      by : ((names_key a ≡ true) × (given ps b ≡ Some x)) ⊎ ((names_key b ≡ true) × (given ps a ≡ Some x)) → AsksKey c x
      by (inl h) = record { left = a; right = b; is_equation = e; key = a; other = b; sides = inl (refl, refl); named = key_named a h.0; gives_it = always_given b x h.1; calm = calm_given b x h.1 }
      by (inr h) = record { left = a; right = b; is_equation = e; key = b; other = a; sides = inr (refl, refl); named = key_named b h.0; gives_it = always_given a x h.1; calm = calm_given a x h.1 }

  abbrev A : TypedCondition → Type 0
  A c = (x : Value) → asked ps c ≡ Some x → AsksKey c x

  abbrev none : {X : Type 0} → X → Type 0
  none x = Unit {0}

  asked_at : (w : TypedCondition-F TypedCondition TypedBlock TypedJoin TypedSource)
      → asked ps (roll-TypedCondition w)
      ≡ by_key.asked_step ps
      (folds.map-TypedCondition TypedCondition TypedBlock TypedJoin TypedSource (Option Value) Bool Bool Bool (asked ps)
      (fold-TypedBlock (Option Value) Bool Bool Bool (by_key.asked_step ps) (by_key.block_step ps) (by_key.join_step ps) (by_key.source_step ps))
      (fold-TypedJoin (Option Value) Bool Bool Bool (by_key.asked_step ps) (by_key.block_step ps) (by_key.join_step ps) (by_key.source_step ps))
      (fold-TypedSource (Option Value) Bool Bool Bool (by_key.asked_step ps) (by_key.block_step ps) (by_key.join_step ps) (by_key.source_step ps)) w)
  asked_at w = folds.fold-roll-TypedCondition (Option Value) Bool Bool Bool (by_key.asked_step ps) (by_key.block_step ps) (by_key.join_step ps) (by_key.source_step ps) w

  compared_some : (op : Comparison) (a b : TypedValue) (x : Value) → by_key.compared_with ps op a b ≡ Some x → AsksKey (roll-TypedCondition (test.Compare op a b)) x
  compared_some Comparison.Equal a b x e = asks (roll-TypedCondition (test.Compare Comparison.Equal a b)) a b x (is.rolls-Compare Comparison.Equal a b) e
  compared_some _ a b x e = absurd (none_is x e)

  asked_layer : (y : TypedCondition-F ((c : TypedCondition) × A c) ((b : TypedBlock) × none b) ((j : TypedJoin) × none j) ((z : TypedSource) × none z))
      → A (roll-TypedCondition (folds.map-TypedCondition ((c : TypedCondition) × A c) ((b : TypedBlock) × none b) ((j : TypedJoin) × none j) ((z : TypedSource) × none z) TypedCondition TypedBlock TypedJoin TypedSource (λ z. z.0) (λ z. z.0) (λ z. z.0) (λ z. z.0) y))
  asked_layer (test.Or a b) x e = absurd (none_is x (sym (asked_at (test.Or a.0 b.0)) ∙ e))
  asked_layer (test.And a b) x e = absurd (none_is x (sym (asked_at (test.And a.0 b.0)) ∙ e))
  asked_layer (test.Not a) x e = absurd (none_is x (sym (asked_at (test.Not a.0)) ∙ e))
  asked_layer (test.Compare op a b) x e = compared_some op a b x (sym (asked_at (test.Compare op a b)) ∙ e)
  asked_layer (test.Between a low high) x e = absurd (none_is x (sym (asked_at (test.Between a low high)) ∙ e))
  asked_layer (test.In a all) x e = absurd (none_is x (sym (asked_at (test.In a all)) ∙ e))
  asked_layer (test.Like a pattern escape) x e = absurd (none_is x (sym (asked_at (test.Like a pattern escape)) ∙ e))
  asked_layer (test.IsNull a) x e = absurd (none_is x (sym (asked_at (test.IsNull a)) ∙ e))
  asked_layer (test.IsEmpty p) x e = absurd (none_is x (sym (asked_at (test.IsEmpty p)) ∙ e))
  asked_layer (test.Member a p) x e = absurd (none_is x (sym (asked_at (test.Member a p)) ∙ e))
  asked_layer (test.Exists b) x e = absurd (none_is x (sym (asked_at (test.Exists b.0)) ∙ e))
  asked_layer (test.Rows against op a b) x e = absurd (none_is x (sym (asked_at (test.Rows against op a b.0)) ∙ e))
  asked_layer (test.«Type» place classes) x e = absurd (none_is x (sym (asked_at (test.«Type» place classes)) ∙ e))

  asked_some : (c : TypedCondition) (x : Value) → asked ps c ≡ Some x → AsksKey c x
  asked_some = folds.ind-TypedCondition A none none none
      (λ w y is. subst (λ z. A (roll-TypedCondition z)) is (asked_layer y)) (λ w y is. tt) (λ w y is. tt) (λ w y is. tt)

  asked_any : (c : Option TypedCondition) (x : Value) → asked_if_any ps c ≡ Some x → (d : TypedCondition) × (c ≡ Some d) × AsksKey d x
  asked_any None x e = absurd (none_is x e)
  asked_any (Some d) x e = (d, refl, asked_some d x e)

-- what the equation of the path with the other side refuses, the condition refuses
pub part_of : (ps : List Datum) (c : TypedCondition) (x : Value) → (h : AsksKey ps c x) → IsPart (is.Compare Comparison.Equal (v.Path (h.named).path) h.other) c
part_of ps c x h m s qs t never = subst (λ d. Refuses m s qs d t) (sym h.is_equation) (by h.sides)
  where
    here : Refuses m s qs (is.Compare Comparison.Equal h.key h.other) t
    here = subst (λ k. Refuses m s qs (is.Compare Comparison.Equal k h.other) t) (sym (h.named).written) never

    by : ((h.left ≡ h.key) × (h.right ≡ h.other)) ⊎ ((h.left ≡ h.other) × (h.right ≡ h.key)) → Refuses m s qs (is.Compare Comparison.Equal h.left h.right) t
    by (inl e) = subst (λ k. Refuses m s qs (is.Compare Comparison.Equal k h.right) t) (sym e.0) (subst (λ o. Refuses m s qs (is.Compare Comparison.Equal h.key o) t) (sym e.1) here)
    by (inr e) =
        subst (λ o. Refuses m s qs (is.Compare Comparison.Equal o h.right) t) (sym e.0)
        (subst (λ k. Refuses m s qs (is.Compare Comparison.Equal h.other k) t) (sym e.1) (turned h.key h.other m s qs t here))

-- ---- the hierarchy

record IsKeyed (m : PersistenceUnit) (class table : ℕ) : Type 0 where
  within : class < length m.entities
  of_root : (root_of m class).table ≡ table
  each : all_below (is_keyed m class table) (length m.entities) ≡ true

keyed_some : (m : PersistenceUnit) (class table : ℕ) → keyed_table m class ≡ Some table → IsKeyed m class table
keyed_some m class table e =
    let root = (root_of m class).table in
    let there = chosen (nat_lt class (length m.entities) && all_below (is_keyed m class root) (length m.entities)) (Some root) table e in
    let parts = and_parts (nat_lt class (length m.entities)) (all_below (is_keyed m class root) (length m.entities)) there.0 in
    record {
      within = ltb-true class (length m.entities) parts.0;
      of_root = some_in root table there.1;
      each = subst (λ t. all_below (is_keyed m class t) (length m.entities) ≡ true) (some_in root table there.1) parts.1;
    }

module _ (m : PersistenceUnit) (class table : ℕ) (h : all_below (is_keyed m class table) (length m.entities) ≡ true) where
  pub keyed_as : (x : Value) → AreKeyedAs m class (identity_with table x)
  keyed_as x kind l k =
      let same = (root_of m kind).table == table in
      let single = length (root_of m kind).key == 1 in
      let parts = and_parts same single (implied (is_kind_of m kind class) (same && single) k (below_at (is_keyed m class table) (length m.entities) kind l h)) in
      (eqb-true (root_of m kind).table table parts.0, eqb-true (length (root_of m kind).key) 1 parts.1)

-- ---- a statement that asks a key

pub record Asks (m : PersistenceUnit) (ps : List Datum) (q : TypedSelect) (id : Identity) : Type 0 where
  pub class : ℕ
  pub table : ℕ
  pub part : Value
  pub condition : TypedCondition
  pub own : is_own_select m q ≡ true
  pub range : IsRange q.sources class
  pub within : class < length m.entities
  pub of_root : (root_of m class).table ≡ table
  pub keyed : all_below (is_keyed m class table) (length m.entities) ≡ true
  pub filter : q.filter ≡ Some condition
  pub asked : AsksKey ps condition part
  pub identity : id ≡ identity_with table part

identity_some : (o : Option ℕ) (p : Option Value) (id : Identity) → identity_in o p ≡ Some id → (table : ℕ) × (x : Value) × (o ≡ Some table) × (p ≡ Some x) × (id ≡ identity_with table x)
identity_some (Some table) (Some x) id e = (table, x, refl, refl, sym (some_in (identity_with table x) id e))
identity_some (Some table) None id e = absurd (none_is id e)
identity_some None p id e = absurd (none_is id e)

and_then_some : {A B : Type 0} (f : A → Option B) (o : Option A) (y : B) → option_and_then f o ≡ Some y → (x : A) × (o ≡ Some x) × (f x ≡ Some y)
and_then_some f None y e = absurd (none_is y e)
and_then_some f (Some x) y e = (x, refl, e)

pub asks_key : (m : PersistenceUnit) (ps : List Datum) (q : TypedSelect) (id : Identity) → key_of m ps q ≡ Some id → Asks m ps q id
asks_key m ps q id e =
    let there = chosen (is_own_select m q) (identity_in (option_and_then (keyed_table m) (ranged q.sources)) (asked_if_any ps q.filter)) id e in
    let parts = identity_some (option_and_then (keyed_table m) (ranged q.sources)) (asked_if_any ps q.filter) id there.1 in
    let range = and_then_some (keyed_table m) (ranged q.sources) parts.0 parts.2 in
    let filter = asked_any ps q.filter parts.1 parts.3 in
    let keyed = keyed_some m range.0 parts.0 range.2 in
    record {
      class = range.0;
      table = parts.0;
      part = parts.1;
      condition = filter.0;
      own = there.0;
      range = ranged_some q.sources range.0 range.1;
      within = keyed.within;
      of_root = keyed.of_root;
      keyed = keyed.each;
      filter = filter.1;
      asked = filter.2;
      identity = parts.4;
    }

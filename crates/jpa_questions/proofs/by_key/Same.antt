-- What a value means that one object tells by its row is the same over every set, and without its pairs: by induction over
-- the typed tree.
use Rattle.std.proofs.Common.{◌≡◌, ◌∙◌, refl, ap, sym, subst, Bool, true, List, [], ◌∷◌, map}
use Rattle.std.specs.Prelude.{◌||◌}
use Rattle.std.specs.List.{AllByRecursion, list_all, list_any}
use Rattle.std.proofs.lemmas.Bool.{and_parts, false≢true}
use Rattle.jpa_model.specs.declared.unit.PersistenceUnit.{PersistenceUnit}
use Rattle.jpa_stored.specs.objects.Sets.{StoredSet}
use Rattle.jpql_trees.specs.declared.tree.Function.{Function}
use Rattle.jpql_trees.specs.declared.typed.typed.TypedValue.{TypedValue, TypedValue-F}
use Rattle.jpql_trees.specs.declared.typed.typed.TypedValue.TheViews.{roll-TypedValue}
use Rattle.jpql_trees.specs.declared.typed.typed.TypedValue.TheOpen as part
use Rattle.jpql_trees.specs.declared.typed.typed.TypedValue.TheVariants as v
use Rattle.jpql_trees.specs.declared.typed.typed.TypedValue.TheFolds as values
use Rattle.jpql_meaning.specs.declared.eval.datum.Datum.{Datum}
use Rattle.jpql_meaning.specs.eval.Answers.{Answer, gives}
use Rattle.jpql_meaning.specs.plan.Paths.{Tuple}
use Rattle.jpql_meaning.specs.plan.Meaning.{Case, aggregate, alone, call, value, value_drops, value_step, drops_step}
use Rattle.jpql_run.proofs.CalmValues.{all_made, each_passes}
use Rattle.jpa_questions.specs.by_key.Own as own
use Rattle.jpa_questions.specs.by_key.Own.{is_own_value}
use Rattle.jpa_questions.proofs.by_key.Members.{path_same, broken_same}
use Rattle.jpa_questions.proofs.by_key.Pairless.{pairless_case, pairless_tuple}

pub map_same : {A B : Type 0} (f g : A → B) (xs : List A) → AllByRecursion (λ x. f x ≡ g x) xs → map f xs ≡ map g xs
map_same f g [] h = refl
map_same f g (x ∷ xs) h = λ i. h.0 i ∷ map_same f g xs h.1 i

pub own_layer : (m : PersistenceUnit) (w : TypedValue-F TypedValue) → is_own_value m (roll-TypedValue w) ≡ own.value_step m (values.map-TypedValue TypedValue Bool (is_own_value m) w)
own_layer m w = values.fold-roll-TypedValue Bool (own.value_step m) w

pub own_of_call : (m : PersistenceUnit) (f : Function) (all : List TypedValue) → is_own_value m (v.Call f all) ≡ list_all (is_own_value m) all
own_of_call m f all = ap (is_own_value m) (sym (v.rolls-Call f all)) ∙ own_layer m (part.Call f all) ∙ all_made (is_own_value m) all

module _ (m : PersistenceUnit) (s : StoredSet) (ps : List Datum) where
  pub value_layer : (w : TypedValue-F TypedValue) → value m s ps (roll-TypedValue w) ≡ value_step m s ps (values.map-TypedValue TypedValue (Case → Answer Datum) (value m s ps) w)
  value_layer w = values.fold-roll-TypedValue (Case → Answer Datum) (value_step m s ps) w

  pub drops_layer : (w : TypedValue-F TypedValue) → value_drops m s ps (roll-TypedValue w) ≡ drops_step m s ps (values.map-TypedValue TypedValue (Tuple → Bool) (value_drops m s ps) w)
  drops_layer w = values.fold-roll-TypedValue (Tuple → Bool) (drops_step m s ps) w

module _ (m : PersistenceUnit) (s s' : StoredSet) (ps : List Datum) where
  -- over one set it is what it is over the other of tuples without pairs, and so is what drops a tuple
  abbrev pub IsSame : TypedValue → Type 0
  IsSame v = (value m s ps v ≡ (λ at. value m s' ps v (pairless_case m at))) × (value_drops m s ps v ≡ (λ t. value_drops m s' ps v (pairless_tuple m t)))

  abbrev Same : TypedValue → Type 0
  Same v = is_own_value m v ≡ true → IsSame v

  abbrev of_case : (Case → Answer Datum) → Case → Answer Datum
  of_case f at = f (pairless_case m at)

  abbrev of_tuple : (Tuple → Bool) → Tuple → Bool
  of_tuple f t = f (pairless_tuple m t)

  -- where the layer is the same, made of what is the same
  by_layer : (w : TypedValue-F TypedValue)
      → value_step m s ps (values.map-TypedValue TypedValue (Case → Answer Datum) (value m s ps) w)
      ≡ (λ at. value_step m s' ps (values.map-TypedValue TypedValue (Case → Answer Datum) (value m s' ps) w) (pairless_case m at))
      → drops_step m s ps (values.map-TypedValue TypedValue (Tuple → Bool) (value_drops m s ps) w)
      ≡ (λ t. drops_step m s' ps (values.map-TypedValue TypedValue (Tuple → Bool) (value_drops m s' ps) w) (pairless_tuple m t))
      → IsSame (roll-TypedValue w)
  by_layer w e f = (
    value_layer m s ps w ∙ e ∙ ap of_case (sym (value_layer m s' ps w)),
    drops_layer m s ps w ∙ f ∙ ap of_tuple (sym (drops_layer m s' ps w)),
  )

  -- of each tuple of a group
  each_tuple : (a : TypedValue) → IsSame a → (ts : List Tuple) → map (λ t. value m s ps a (alone t)) ts ≡ map (λ t. value m s' ps a (alone t)) (map (pairless_tuple m) ts)
  each_tuple a k [] = refl
  each_tuple a k (t ∷ ts) = λ i. k.0 i (alone t) ∷ each_tuple a k ts i

  -- and of each argument
  each_value : (all : List TypedValue) → AllByRecursion IsSame all → (at : Case) → map (λ f. f at) (map (value m s ps) all) ≡ map (λ f. f (pairless_case m at)) (map (value m s' ps) all)
  each_value [] h at = refl
  each_value (v ∷ vs) h at = λ i. h.0.0 i at ∷ each_value vs h.1 at i

  each_drop : (all : List TypedValue) → AllByRecursion IsSame all → (t : Tuple) → list_any (λ f. f t) (map (value_drops m s ps) all) ≡ list_any (λ f. f (pairless_tuple m t)) (map (value_drops m s' ps) all)
  each_drop [] h t = refl
  each_drop (v ∷ vs) h t = λ i. h.0.1 i t || each_drop vs h.1 t i

  layer : (y : TypedValue-F ((a : TypedValue) × Same a)) → Same (roll-TypedValue (values.map-TypedValue ((a : TypedValue) × Same a) TypedValue (λ z. z.0) y))
  layer (part.Integer n) h = by_layer (part.Integer n) refl refl
  layer (part.Text t) h = by_layer (part.Text t) refl refl
  layer (part.Parameter place) h = by_layer (part.Parameter place) refl refl
  layer (part.Path p) h =
      let k = sym (own_layer m (part.Path p)) ∙ h in
      by_layer (part.Path p) (λ i at. gives (path_same m s s' p k at.tuple i)) (λ i t. broken_same m s s' p k t i)
  layer (part.Size p) h = absurd (false≢true (sym (own_layer m (part.Size p)) ∙ h))
  layer (part.Signed sign a) h =
      let k = a.1 (sym (own_layer m (part.Signed sign a.0)) ∙ h) in
      by_layer (part.Signed sign a.0) (ap (λ f. value_step m s ps (part.Signed sign f)) k.0) k.1
  layer (part.Aggregate g distinct a) h =
      let k = a.1 (sym (own_layer m (part.Aggregate g distinct a.0)) ∙ h) in
      by_layer (part.Aggregate g distinct a.0) (λ i at. aggregate g distinct (each_tuple a.0 k at.group i)) k.1
  layer (part.Arithmetic op a b) h =
      let parts = and_parts (is_own_value m a.0) (is_own_value m b.0) (sym (own_layer m (part.Arithmetic op a.0 b.0)) ∙ h) in
      let k = a.1 parts.0 in
      let l = b.1 parts.1 in
      by_layer (part.Arithmetic op a.0 b.0) (λ i. value_step m s ps (part.Arithmetic op (k.0 i) (l.0 i))) (λ i t. k.1 i t || l.1 i t)
  layer (part.Call f all) h =
      let ks = each_passes (is_own_value m) IsSame all (sym (own_layer m (part.Call f (map (λ z. z.0) all))) ∙ h) in
      by_layer (part.Call f (map (λ z. z.0) all)) (λ i at. call f (each_value (map (λ z. z.0) all) ks at i)) (λ i t. each_drop (map (λ z. z.0) all) ks t i)

  pub same_value : (a : TypedValue) → is_own_value m a ≡ true → IsSame a
  same_value = values.ind-TypedValue Same (λ w y is. subst (λ z. Same (roll-TypedValue z)) is (layer y))

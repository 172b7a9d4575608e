-- A value that names none of the first n variables is the same behind any n objects.
use Rattle.std.proofs.Common.{◌≡◌, ◌∙◌, refl, ap, sym, subst, ℕ, ◌+◌, ◌-◌, ◌≤◌, arith, Bool, true, false, List, [], ◌∷◌, map, length, nat_le}
use Rattle.std.specs.Prelude.{◌||◌, ◌&&◌}
use Rattle.std.specs.List.{AllByRecursion, list_all, list_any}
use Rattle.std.proofs.lemmas.Bool.{and_parts, leb-true}
use Rattle.jpa_model.specs.declared.unit.PersistenceUnit.{PersistenceUnit}
use Rattle.jpa_stored.specs.objects.Sets.{StoredSet}
use Rattle.jpql_trees.specs.declared.typed.typed.TypedValue.{TypedValue, TypedValue-F}
use Rattle.jpql_trees.specs.declared.typed.typed.TypedValue.TheViews.{roll-TypedValue}
use Rattle.jpql_trees.specs.declared.typed.typed.TypedValue.TheOpen as part
use Rattle.jpql_trees.specs.declared.typed.typed.TypedValue.TheFolds as values
use Rattle.jpql_meaning.specs.declared.eval.datum.Datum.{Datum}
use Rattle.jpql_meaning.specs.eval.Answers.{Answer, gives, ◌>>=◌}
use Rattle.jpql_meaning.specs.eval.Numbers.{arithmetic, signed}
use Rattle.jpql_meaning.specs.plan.Paths.{Tuple, object_at, walked, breaks, gathered}
use Rattle.jpql_meaning.specs.plan.Meaning.{Case, alone, call, size, value, value_drops, value_step, drops_step}
use Rattle.jpql_meaning.specs.plan.Alone as spec
use Rattle.jpql_meaning.specs.plan.Alone.{is_alone_value}
use Rattle.jpql_meaning.proofs.plan.Alone.{after, object_behind}

pub all_made : {A : Type 0} (p : A → Bool) (xs : List A) → list_all (λ b. b) (map p xs) ≡ list_all p xs
all_made p [] = refl
all_made p (x ∷ xs) = ap (λ b. p x && b) (all_made p xs)

pub each_passes : {A : Type 0} (p : A → Bool) (P : A → Type 0) → (xs : List ((x : A) × (p x ≡ true → P x))) → list_all (λ b. b) (map p (map (λ z. z.0) xs)) ≡ true → AllByRecursion P (map (λ z. z.0) xs)
each_passes p P [] h = tt
each_passes p P (x ∷ xs) h =
    let parts = and_parts (p x.0) (list_all (λ b. b) (map p (map (λ z. z.0) xs))) h in
    (x.1 parts.0, each_passes p P xs parts.1)

pub each_tested : {A : Type 0} (p : A → Bool) (P : A → Type 0) → ((x : A) → p x ≡ true → P x) → (xs : List A) → list_all p xs ≡ true → AllByRecursion P xs
each_tested p P k [] h = tt
each_tested p P k (x ∷ xs) h = let parts = and_parts (p x) (list_all p xs) h in (k x parts.0, each_tested p P k xs parts.1)

-- the object of a variable that isn't one of the first
pub object_same : (n : ℕ) (p q e : Tuple) (place : ℕ) → length p ≡ n → length q ≡ n → nat_le n place ≡ true → object_at (after p e) place ≡ object_at (after q e) place
object_same n p q e place lp lq h =
    let least : n ≤ place = leb-true n place h in
    let at : n + (place - n) ≡ place = omega (arith, least) in
    ap (object_at (after p e)) (sym at) ∙ object_behind n p e (place - n) lp ∙ sym (object_behind n q e (place - n) lq) ∙ ap (object_at (after q e)) at

module _ (m : PersistenceUnit) (s : StoredSet) (ps : List Datum) where
  value_layer : (w : TypedValue-F TypedValue) → value m s ps (roll-TypedValue w) ≡ value_step m s ps (values.map-TypedValue TypedValue (Case → Answer Datum) (value m s ps) w)
  value_layer w = values.fold-roll-TypedValue (Case → Answer Datum) (value_step m s ps) w

  drops_layer : (w : TypedValue-F TypedValue) → value_drops m s ps (roll-TypedValue w) ≡ drops_step m s ps (values.map-TypedValue TypedValue (Tuple → Bool) (value_drops m s ps) w)
  drops_layer w = values.fold-roll-TypedValue (Tuple → Bool) (drops_step m s ps) w

module _ (m : PersistenceUnit) (s : StoredSet) (ps : List Datum) (n : ℕ) (p q e : Tuple) (lp : length p ≡ n) (lq : length q ≡ n) where
  abbrev pub IsSame : TypedValue → Type 0
  IsSame v = (value m s ps v (alone (after p e)) ≡ value m s ps v (alone (after q e))) × (value_drops m s ps v (after p e) ≡ value_drops m s ps v (after q e))

  abbrev Same : TypedValue → Type 0
  Same v = is_alone_value n v ≡ true → IsSame v

  abbrev valued : TypedValue-F TypedValue → Tuple → Answer Datum
  valued w t = value_step m s ps (values.map-TypedValue TypedValue (Case → Answer Datum) (value m s ps) w) (alone t)

  abbrev dropped : TypedValue-F TypedValue → Tuple → Bool
  dropped w t = drops_step m s ps (values.map-TypedValue TypedValue (Tuple → Bool) (value_drops m s ps) w) t

  by_layer : (w : TypedValue-F TypedValue) → valued w (after p e) ≡ valued w (after q e) → dropped w (after p e) ≡ dropped w (after q e) → IsSame (roll-TypedValue w)
  by_layer w i j = (
    (λ k. value_layer m s ps w k (alone (after p e))) ∙ i ∙ sym (λ k. value_layer m s ps w k (alone (after q e))),
    (λ k. drops_layer m s ps w k (after p e)) ∙ j ∙ sym (λ k. drops_layer m s ps w k (after q e)),
  )

  alone_layer : (w : TypedValue-F TypedValue) → is_alone_value n (roll-TypedValue w) ≡ spec.value_step n (values.map-TypedValue TypedValue Bool (is_alone_value n) w)
  alone_layer w = values.fold-roll-TypedValue Bool (spec.value_step n) w

  values_same : (all : List TypedValue) → AllByRecursion IsSame all → map (λ a. a (alone (after p e))) (map (value m s ps) all) ≡ map (λ a. a (alone (after q e))) (map (value m s ps) all)
  values_same [] h = refl
  values_same (a ∷ all) h = λ i. h.0.0 i ∷ values_same all h.1 i

  drops_same : (all : List TypedValue) → AllByRecursion IsSame all → list_any (λ (a : Tuple → Bool). a (after p e)) (map (value_drops m s ps) all) ≡ list_any (λ (a : Tuple → Bool). a (after q e)) (map (value_drops m s ps) all)
  drops_same [] h = refl
  drops_same (a ∷ all) h = λ i. h.0.1 i || drops_same all h.1 i

  layer : (y : TypedValue-F ((a : TypedValue) × Same a)) → Same (roll-TypedValue (values.map-TypedValue ((a : TypedValue) × Same a) TypedValue (λ z. z.0) y))
  layer (part.Integer i) h = by_layer (part.Integer i) refl refl
  layer (part.Text t) h = by_layer (part.Text t) refl refl
  layer (part.Parameter place) h = by_layer (part.Parameter place) refl refl
  layer (part.Path x) h =
      let o = object_same n p q e x.variable lp lq (sym (alone_layer (part.Path x)) ∙ h) in
      by_layer (part.Path x) (ap (λ z. gives (walked m s z x.steps)) o) (ap (λ z. breaks m s z x.steps) o)
  layer (part.Size x) h =
      let o = object_same n p q e x.variable lp lq (sym (alone_layer (part.Size x)) ∙ h) in
      by_layer (part.Size x) (ap (λ z. gives (size (gathered m s z x.steps))) o) (ap (λ z. breaks m s z x.steps) o)
  layer (part.Signed sign a) h =
      let k = a.1 (sym (alone_layer (part.Signed sign a.0)) ∙ h) in
      by_layer (part.Signed sign a.0) (ap (λ d. d >>= signed sign) k.0) k.1
  layer (part.Aggregate g distinct a) h =
      let k = a.1 (sym (alone_layer (part.Aggregate g distinct a.0)) ∙ h) in
      by_layer (part.Aggregate g distinct a.0) refl k.1
  layer (part.Arithmetic op a b) h =
      let parts = and_parts (is_alone_value n a.0) (is_alone_value n b.0) (sym (alone_layer (part.Arithmetic op a.0 b.0)) ∙ h) in
      let k = a.1 parts.0 in
      let l = b.1 parts.1 in
      by_layer (part.Arithmetic op a.0 b.0) (λ i. k.0 i >>= λ x. l.0 i >>= λ y. arithmetic op x y) (λ i. k.1 i || l.1 i)
  layer (part.Call f all) h =
      let ks = each_passes (is_alone_value n) IsSame all (sym (alone_layer (part.Call f (map (λ z. z.0) all))) ∙ h) in
      by_layer (part.Call f (map (λ z. z.0) all)) (ap (call f) (values_same (map (λ z. z.0) all) ks)) (drops_same (map (λ z. z.0) all) ks)

  pub same_value : (a : TypedValue) → is_alone_value n a ≡ true → IsSame a
  same_value = values.ind-TypedValue Same (λ w y is. subst (λ z. Same (roll-TypedValue z)) is (layer y))

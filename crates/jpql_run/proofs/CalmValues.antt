-- What can't overflow: by induction over the typed tree.
use Rattle.std.proofs.Common.{rules, ◌≡◌, ◌∙◌, refl, ap, sym, subst, ℕ, ℤ, slice_index_or, Bool, true, false, cond, List, [], ◌∷◌, map}
use Rattle.std.specs.Prelude.{◌&&◌, neg_ℤ}
use Rattle.std.specs.List.{AllByRecursion, list_all}
use Rattle.std.proofs.lemmas.Bool.{and_parts, false≢true}
use Rattle.std.proofs.lemmas.List.Elements.{All-from_recursion}
use Rattle.jpa_model.specs.declared.unit.PersistenceUnit.{PersistenceUnit}
use Rattle.jpa_stored.specs.objects.Sets.{StoredSet}
use Rattle.jpql_trees.specs.declared.tree.Function.{Function}
use Rattle.jpql_trees.specs.declared.tree.Sign.{Sign}
use Rattle.jpql_trees.specs.declared.typed.path.TypedPath.{TypedPath}
use Rattle.jpql_trees.specs.declared.typed.typed.TypedValue.{TypedValue, TypedValue-F}
use Rattle.jpql_trees.specs.declared.typed.typed.TypedValue.TheViews.{roll-TypedValue}
use Rattle.jpql_trees.specs.declared.typed.typed.TypedValue.TheOpen as part
use Rattle.jpql_trees.specs.declared.typed.typed.TypedValue.TheVariants as v
use Rattle.jpql_trees.specs.declared.typed.typed.TypedValue.TheFolds as values
use Rattle.jpql_meaning.specs.declared.eval.datum.Datum.{Datum}
use Rattle.jpql_meaning.specs.eval.Answers.{gives, overflows, ◌>>=◌}
use Rattle.jpql_meaning.specs.eval.Calls.{applied, of_some}
use Rattle.jpql_meaning.specs.eval.Data.{null}
use Rattle.jpql_meaning.specs.eval.Numbers.{number, signed}
use Rattle.jpql_meaning.specs.eval.Texts.{Text}
use Rattle.jpa_value.specs.declared.value.Value.TheVariants as values_of
use Rattle.jpa_value.specs.Value.{is_i64}
use Rattle.jpql_meaning.specs.plan.Paths.{path_datum, collection}
use Rattle.jpql_meaning.specs.plan.Meaning.{Case, size, value}
use Rattle.jpql_run.specs.Keys.{is_given, NeverOverflows}
use Rattle.jpql_run.proofs.Told.{call_never}
use Rattle.jpql_run.specs.Calm.{Calmness, calmness, plain, is_calm_function, is_small, value_step, is_calm_value}

-- tested as it is made, and made first
pub all_made : {A : Type 0} (p : A → Bool) (xs : List A) → list_all (λ b. b) (map p xs) ≡ list_all p xs
all_made p [] = refl
all_made p (x ∷ xs) = ap (λ b. p x && b) (all_made p xs)

-- what is tested of each holds of each
pub each_passes : {A : Type 0} (p : A → Bool) (P : A → Type 0) → (xs : List ((x : A) × (p x ≡ true → P x))) → list_all (λ b. b) (map p (map (λ z. z.0) xs)) ≡ true → AllByRecursion P (map (λ z. z.0) xs)
each_passes p P [] h = tt
each_passes p P (x ∷ xs) h =
    let parts = and_parts (p x.0) (list_all (λ b. b) (map p (map (λ z. z.0) xs))) h in
    (x.1 parts.0, each_passes p P xs parts.1)

pub each_tested : {A : Type 0} (p : A → Bool) (P : A → Type 0) → ((x : A) → p x ≡ true → P x) → (xs : List A) → list_all p xs ≡ true → AllByRecursion P xs
each_tested p P k [] h = tt
each_tested p P k (x ∷ xs) h =
    let parts = and_parts (p x) (list_all p xs) h in
    (k x parts.0, each_tested p P k xs parts.1)

calm_one : (f : Function) (a : Datum) → is_calm_function f ≡ true → is_given (Rattle.jpql_meaning.specs.eval.Calls.of_operand f a) ≡ true
calm_one Function.Abs a h = absurd (false≢true h)
calm_one Function.Length a h = refl
calm_one _ a h = refl

calm_two : (f : Function) (a b : Datum) → is_calm_function f ≡ true → is_given (Rattle.jpql_meaning.specs.eval.Calls.of_two f a b) ≡ true
calm_two Function.Mod a b h = absurd (false≢true h)
calm_two Function.Substring a b h = refl
calm_two Function.Locate a b h = refl
calm_two Function.NullIf a b h = refl
calm_two _ a b h = refl

calm_three : (f : Function) (a b c : Datum) → is_given (Rattle.jpql_meaning.specs.eval.Calls.of_three f a b c) ≡ true
calm_three Function.Substring a b c = refl
calm_three Function.Locate a b c = refl
calm_three _ a b c = refl

calm_some : (f : Function) → is_calm_function f ≡ true → (all : List Datum) → is_given (of_some f all) ≡ true
calm_some f h [] = refl
calm_some f h (a ∷ []) = calm_one f a h
calm_some f h (a ∷ b ∷ []) = calm_two f a b h
calm_some f h (a ∷ b ∷ c ∷ []) = calm_three f a b c
calm_some f h (a ∷ b ∷ c ∷ d ∷ all) = refl

calm_call : (f : Function) → is_calm_function f ≡ true → (all : List Datum) → is_given (applied f all) ≡ true
calm_call Function.Concat h all = refl
calm_call Function.Coalesce h all = refl
calm_call Function.Case h all = refl
calm_call Function.Match h all = refl
calm_call Function.IsAmong h all = refl
calm_call f h all = calm_some f h all

-- an integer that is one of 64 bits with either sign
abbrev IsSmall : TypedValue → Type 0
IsSmall a = (n : ℤ) × (a ≡ roll-TypedValue (part.Integer n)) × (is_small n ≡ true)

record Calm (a : TypedValue) : Type 0 where
  told : is_calm_value a ≡ true → NeverOverflows a
  small : (calmness a).small ≡ true → IsSmall a

pub layer_of : (w : TypedValue-F TypedValue) → calmness (roll-TypedValue w) ≡ value_step (values.map-TypedValue TypedValue Calmness calmness w)
layer_of w = values.fold-roll-TypedValue Calmness value_step w

module _ (m : PersistenceUnit) (s : StoredSet) (ps : List Datum) (at : Case) where
  of_integer : (n : ℤ) → value m s ps (roll-TypedValue (part.Integer n)) at ≡ gives (number n)
  of_integer n = search (rules, values.the_lemmas)

  of_text : (t : Text) → value m s ps (roll-TypedValue (part.Text t)) at ≡ gives (Datum.Plain (values_of.Text t))
  of_text t = search (rules, values.the_lemmas)

  of_parameter : (place : ℕ) → value m s ps (roll-TypedValue (part.Parameter place)) at ≡ gives (slice_index_or ps place null)
  of_parameter place = search (rules, values.the_lemmas)

  of_path : (p : TypedPath) → value m s ps (roll-TypedValue (part.Path p)) at ≡ gives (path_datum m s at.tuple p)
  of_path p = search (rules, values.the_lemmas)

  of_size : (p : TypedPath) → value m s ps (roll-TypedValue (part.Size p)) at ≡ gives (size (collection m s at.tuple p))
  of_size p = search (rules, values.the_lemmas)

  of_signed : (sign : Sign) (a : TypedValue) → value m s ps (roll-TypedValue (part.Signed sign a)) at ≡ (value m s ps a at >>= signed sign)
  of_signed sign a = search (rules, values.the_lemmas)

-- an integer with a sign
signed_small : (sign : Sign) (n : ℤ) → is_small n ≡ true → is_given (signed sign (number n)) ≡ true
signed_small Sign.Plus n h = ap (λ b. is_given (cond b (gives (number n)) overflows)) (and_parts (is_i64 n) (is_i64 (neg_ℤ n)) h).0
signed_small Sign.Minus n h = ap (λ b. is_given (cond b (gives (number (neg_ℤ n))) overflows)) (and_parts (is_i64 n) (is_i64 (neg_ℤ n)) h).1

signed_never : (sign : Sign) (a : TypedValue) → IsSmall a → NeverOverflows (roll-TypedValue (part.Signed sign a))
signed_never sign a h = λ m s ps at.
    ap is_given (of_signed m s ps at sign a ∙ ap (λ b. value m s ps b at >>= signed sign) h.1 ∙ ap (λ d. d >>= signed sign) (of_integer m s ps at h.0))
    ∙ signed_small sign h.0 h.2

-- what stands in a value that has no sign is no integer
not_small : (w : TypedValue-F TypedValue) (b : Bool) → value_step (values.map-TypedValue TypedValue Calmness calmness w) ≡ plain b → (calmness (roll-TypedValue w)).small ≡ true → IsSmall (roll-TypedValue w)
not_small w b e h = absurd (false≢true (sym (ap (λ (k : Calmness). k.small) (layer_of w ∙ e)) ∙ h))

calm_by : (w : TypedValue-F TypedValue) → is_calm_value (roll-TypedValue w) ≡ true → (value_step (values.map-TypedValue TypedValue Calmness calmness w)).calm ≡ true
calm_by w h = sym (ap (λ (k : Calmness). k.calm) (layer_of w)) ∙ h

-- what is tested of each as it is made holds of each
each_calm : (xs : List ((a : TypedValue) × Calm a)) → list_all (λ (k : Calmness). k.calm) (map calmness (map (λ z. z.0) xs)) ≡ true → AllByRecursion NeverOverflows (map (λ z. z.0) xs)
each_calm [] h = tt
each_calm (x ∷ xs) h =
    let parts = and_parts (is_calm_value x.0) (list_all (λ (k : Calmness). k.calm) (map calmness (map (λ z. z.0) xs))) h in
    ((x.1).told parts.0, each_calm xs parts.1)

layer : (y : TypedValue-F ((a : TypedValue) × Calm a)) → Calm (roll-TypedValue (values.map-TypedValue ((a : TypedValue) × Calm a) TypedValue (λ z. z.0) y))
layer (part.Integer n) = record {
  told = λ h m s ps at. ap is_given (of_integer m s ps at n);
  small = λ h. (n, refl, sym (ap (λ (k : Calmness). k.small) (layer_of (part.Integer n))) ∙ h);
}
layer (part.Text t) = record { told = λ h m s ps at. ap is_given (of_text m s ps at t); small = not_small (part.Text t) true refl }
layer (part.Parameter place) = record { told = λ h m s ps at. ap is_given (of_parameter m s ps at place); small = not_small (part.Parameter place) true refl }
layer (part.Path p) = record { told = λ h m s ps at. ap is_given (of_path m s ps at p); small = not_small (part.Path p) true refl }
layer (part.Size p) = record { told = λ h m s ps at. ap is_given (of_size m s ps at p); small = not_small (part.Size p) true refl }
layer (part.Signed sign a) = record {
  told = λ h. signed_never sign a.0 ((a.1).small (calm_by (part.Signed sign a.0) h));
  small = not_small (part.Signed sign a.0) (calmness a.0).small refl;
}
layer (part.Arithmetic op a b) = record {
  told = λ h. absurd (false≢true (calm_by (part.Arithmetic op a.0 b.0) h));
  small = not_small (part.Arithmetic op a.0 b.0) false refl;
}
layer (part.Aggregate g distinct a) = record {
  told = λ h. absurd (false≢true (calm_by (part.Aggregate g distinct a.0) h));
  small = not_small (part.Aggregate g distinct a.0) false refl;
}
layer (part.Call f all) = record {
  told = λ h.
      let parts = and_parts (is_calm_function f) (list_all (λ (k : Calmness). k.calm) (map calmness (map (λ z. z.0) all))) (calm_by (part.Call f (map (λ z. z.0) all)) h) in
      subst NeverOverflows (sym (v.rolls-Call f (map (λ z. z.0) all)))
      (call_never f (map (λ z. z.0) all) (calm_call f parts.0) (All-from_recursion NeverOverflows (map (λ z. z.0) all) (each_calm all parts.1)));
  small = not_small (part.Call f (map (λ z. z.0) all)) (is_calm_function f && list_all (λ (k : Calmness). k.calm) (map calmness (map (λ z. z.0) all))) refl;
}

pub calm_value : (a : TypedValue) → is_calm_value a ≡ true → NeverOverflows a
calm_value a = (values.ind-TypedValue Calm (λ w y is. subst (λ z. Calm (roll-TypedValue z)) is (layer y)) a).told

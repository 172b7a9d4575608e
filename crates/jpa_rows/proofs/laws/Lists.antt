-- What holds of each item of a list, tests of some and of all, and lists joined from lists.
use Rattle.std.specs.Prelude.{◌≡◌, Bool, true, false, cond, ◌||◌, List, [], ◌∷◌, ◌++◌, map}
use Rattle.std.proofs.Common.{refl, sym, ap, subst, ◌∙◌, inl, inr}
use Rattle.std.proofs.lemmas.Grind.{flat_map-append}
use Rattle.std.proofs.lemmas.List.{map-append}
use Rattle.std.specs.List.{AllByRecursion, filter, flat_map, list_all, list_any}
use Rattle.jpa_rows.proofs.laws.Elements.{Has}
use Rattle.jpa_rows.proofs.laws.Facts.{and_first, and_second, true_false}

-- ---- of each item

module _ {X : Type 0} (P : X → Type 0) where
  pub all_each : (xs : List X) → AllByRecursion P xs → (x : X) → Has xs x → P x
  all_each [] h x k = absurd k
  all_each (y ∷ ys) h x (inl e) = subst P e h.0
  all_each (y ∷ ys) h x (inr k) = all_each ys h.1 x k

  pub all_from : (xs : List X) → ((x : X) → Has xs x → P x) → AllByRecursion P xs
  all_from [] h = tt
  all_from (x ∷ xs) h = (h x (inl refl), all_from xs (λ y k. h y (inr k)))

  pub all_where : (p : X → Bool) (xs : List X) → AllByRecursion P xs → AllByRecursion P (filter p xs)
  all_where p [] h = tt
  all_where p (x ∷ xs) h = elim (p x) as (λ b. AllByRecursion P (cond b (x ∷ filter p xs) (filter p xs))) [ true ↦ (h.0, all_where p xs h.1) | false ↦ all_where p xs h.1 ]

-- ---- tests

module _ {X : Type 0} (p : X → Bool) where
  pub each_passes : (xs : List X) → list_all p xs ≡ true → (x : X) → Has xs x → p x ≡ true
  each_passes [] h x k = absurd k
  each_passes (y ∷ ys) h x (inl e) = ap p (sym e) ∙ and_first (p y) _ h
  each_passes (y ∷ ys) h x (inr k) = each_passes ys (and_second (p y) _ h) x k

  pub any_has : (xs : List X) → list_any p xs ≡ true → (x : X) × Has xs x × (p x ≡ true)
  any_has [] h = absurd (true_false (sym h))
  any_has (x ∷ xs) h = by_test (p x) refl h (λ k. any_has xs k)
    where
      by_test : (b : Bool) → p x ≡ b → b || list_any p xs ≡ true → (list_any p xs ≡ true → (y : X) × Has xs y × (p y ≡ true)) → (y : X) × Has (x ∷ xs) y × (p y ≡ true)
      by_test true e k rest = (x, inl refl, e)
      by_test false e k rest = let r = rest k in (r.0, inr r.1, r.2)

  pub has_any : (xs : List X) (x : X) → Has xs x → p x ≡ true → list_any p xs ≡ true
  has_any [] x h e = absurd h
  has_any (y ∷ ys) x (inl same) e = ap (λ b. b || list_any p ys) (ap p same ∙ e)
  has_any (y ∷ ys) x (inr h) e = ap (λ b. p y || b) (has_any ys x h e) ∙ or_true (p y)
    where
      or_true : (b : Bool) → b || true ≡ true
      or_true true = refl
      or_true false = refl

pub filter_same : {X : Type 0} (p q : X → Bool) (xs : List X) → ((x : X) → Has xs x → p x ≡ q x) → filter p xs ≡ filter q xs
filter_same p q [] same = refl
filter_same p q (x ∷ xs) same =
    let others = filter_same p q xs (λ y k. same y (inr k)) in
    λ i. cond (same x (inl refl) i) (x ∷ others i) (others i)

-- ---- lists joined from lists

pub flat_map_same : {A B : Type 0} (f g : A → List B) (xs : List A) → ((x : A) → Has xs x → f x ≡ g x) → flat_map f xs ≡ flat_map g xs
flat_map_same f g [] same = refl
flat_map_same f g (x ∷ xs) same =
    let others = flat_map_same f g xs (λ y k. same y (inr k)) in
    let here = same x (inl refl) in
    λ i. here i ++ others i

pub flat_map-map : {A B C : Type 0} (f : B → List C) (g : A → B) (xs : List A) → flat_map f (map g xs) ≡ flat_map (λ x. f (g x)) xs
flat_map-map f g [] = refl
flat_map-map f g (x ∷ xs) = ap (λ r. f (g x) ++ r) (flat_map-map f g xs)

pub map-flat_map : {A B C : Type 0} (f : B → C) (g : A → List B) (xs : List A) → map f (flat_map g xs) ≡ flat_map (λ x. map f (g x)) xs
map-flat_map f g [] = refl
map-flat_map f g (x ∷ xs) = map-append f (g x) (flat_map g xs) ∙ ap (λ r. map f (g x) ++ r) (map-flat_map f g xs)

pub flat_map-flat_map : {A B C : Type 0} (f : B → List C) (g : A → List B) (xs : List A) → flat_map f (flat_map g xs) ≡ flat_map (λ x. flat_map f (g x)) xs
flat_map-flat_map f g [] = refl
flat_map-flat_map f g (x ∷ xs) = flat_map-append f (g x) (flat_map g xs) ∙ ap (λ r. flat_map f (g x) ++ r) (flat_map-flat_map f g xs)

-- What is there, and what it is taken from.
use Rattle.std.proofs.Common.{◌≡◌, ◌∙◌, refl, ap, Bool, true, false, List, [], ◌∷◌, map, is_some, Option, Some, None, option_map}
use Rattle.std.specs.Prelude.{unwrap_or, if◌then◌else◌}
use Rattle.std.specs.List.{AllByRecursion, list_all}
use Rattle.std.proofs.lemmas.Bool.{and_parts, false≢true}
use Rattle.jpa_model.specs.WellFormed.{is_some_that, if_some}
use Rattle.jpql_trees.specs.tree.Steps.{◌>>=◌}
use Rattle.jpql_types.specs.Typing.{all_some, pass_both}
use Rattle.jpql_types.specs.Scope.{when}
use Rattle.jpql_types.specs.Resolved.{both, if_written}

pub value_in : {A : Type 0} (x y : A) → Some x ≡ Some y → x ≡ y
value_in x y e = cc

pub none_some : {A : Type 0} (x : A) → None ≡ Some x → ⊥
none_some x e = cc

abbrev pub IsThere : {A : Type 0} → Option A → Type 0
IsThere o = is_some o ≡ true

-- what is there is no blank
pub there : {A : Type 0} (blank : A) (o : Option A) → IsThere o → o ≡ Some (unwrap_or o blank)
there blank None h = absurd (false≢true h)
there blank (Some a) h = refl

pub there_before : {A B : Type 0} (o : Option A) (f : A → Option B) → IsThere (o >>= f) → IsThere o
there_before None f h = absurd (false≢true h)
there_before (Some a) f h = refl

pub there_at : {A B : Type 0} (o : Option A) (f : A → Option B) → IsThere (o >>= f) → (x : A) × (o ≡ Some x) × IsThere (f x)
there_at None f h = absurd (false≢true h)
there_at (Some a) f h = (a, refl, h)

pub there_that : {A : Type 0} (p : A → Bool) (o : Option A) → is_some_that p o ≡ true → IsThere o
there_that p None h = absurd (false≢true h)
there_that p (Some a) h = refl

pub that_at : {A : Type 0} (p : A → Bool) (o : Option A) → is_some_that p o ≡ true → (x : A) × (o ≡ Some x) × (p x ≡ true)
that_at p None h = absurd (false≢true h)
that_at p (Some a) h = (a, refl, h)

pub then_at : {A B : Type 0} (o : Option A) (f : A → Option B) (y : B) → (o >>= f) ≡ Some y → (x : A) × (o ≡ Some x) × (f x ≡ Some y)
then_at None f y h = absurd (none_some y h)
then_at (Some a) f y h = (a, refl, h)

pub there_if : {A : Type 0} (b : Bool) (o : Option A) → IsThere (if b then o else None) → IsThere o
there_if true o h = h
there_if false o h = absurd (false≢true h)

pub passed_if : {A : Type 0} (b : Bool) (o : Option A) → IsThere (if b then o else None) → b ≡ true
passed_if true o h = refl
passed_if false o h = absurd (false≢true h)

pub there_both : {A B : Type 0} (test : A → B → Bool) (a : Option A) (b : Option B) → pass_both test a b ≡ true → IsThere a × IsThere b
there_both test None b h = absurd (false≢true h)
there_both test (Some x) b h = (refl, there_that (test x) b h)

pub all_there : {A : Type 0} (os : List (Option A)) → IsThere (all_some os) → AllByRecursion IsThere os
all_there [] h = tt
all_there (None ∷ os) h = absurd (false≢true h)
all_there (Some a ∷ os) h = (refl, all_there os (there_before (all_some os) _ h))

pub when_there : {A : Type 0} (b : Bool) (x y : A) → when b x ≡ Some y → (b ≡ true) × (x ≡ y)
when_there true x y h = (refl, value_in x y h)
when_there false x y h = absurd (none_some y h)

-- ---- made of what is there

pub both_of : {A B C : Type 0} (f : A → B → C) (a : Option A) (b : Option B) (x : A) (y : B) → a ≡ Some x → b ≡ Some y → both f a b ≡ Some (f x y)
both_of f a b x y ae be = ap (λ z. both f z b) ae ∙ ap (option_map (f x)) be

pub more_of : {A : Type 0} (o : Option A) (os : List (Option A)) (x : A) (xs : List A) → o ≡ Some x → all_some os ≡ Some xs → all_some (o ∷ os) ≡ Some (x ∷ xs)
more_of o os x xs oe ose = ap (λ z. all_some (z ∷ os)) oe ∙ ap (λ z. z >>= λ more. Some (x ∷ more)) ose

-- of each in a list
pub each_of : {A B : Type 0} (f : A → Option B) (g : A → B) (xs : List A) → AllByRecursion (λ x. f x ≡ Some (g x)) xs → all_some (map f xs) ≡ Some (map g xs)
each_of f g [] h = refl
each_of f g (x ∷ xs) h = more_of (f x) (map f xs) (g x) (map g xs) h.0 (each_of f g xs h.1)

-- what a test of each says of each
pub each_tested : {A : Type 0} (p : A → Bool) (P : A → Type 0) → ((x : A) → p x ≡ true → P x) → (xs : List A) → list_all p xs ≡ true → AllByRecursion P xs
each_tested p P k [] h = tt
each_tested p P k (x ∷ xs) h =
    let parts = and_parts (p x) (list_all p xs) h in
    (k x parts.0, each_tested p P k xs parts.1)

pub each_holds : {A : Type 0} (P : A → Type 0) → ((x : A) → P x) → (xs : List A) → AllByRecursion P xs
each_holds P k [] = tt
each_holds P k (x ∷ xs) = (k x, each_holds P k xs)

-- what was proved with each
pub each_paired : {A : Type 0} (P : A → Type 0) (zs : List ((x : A) × P x)) → AllByRecursion P (map (λ z. z.0) zs)
each_paired P [] = tt
each_paired P (z ∷ zs) = (z.1, each_paired P zs)

pub written_of : {A B : Type 0} (p : A → Bool) (f : A → Option B) (g : A → B) → ((x : A) → p x ≡ true → f x ≡ Some (g x)) → (o : Option A) → if_some p o ≡ true → if_written f o ≡ Some (option_map g o)
written_of p f g k None h = refl
written_of p f g k (Some x) h = ap (option_map Some) (k x h)

-- Walks over the attributes of a class, each with what it is beside revision 1.
use Rattle.std.specs.Prelude.{◌≡◌, ℕ, zero, suc, ◌+◌, ◌<◌, ◌≤◌, Bool, true, false, ◌&&◌, List, [], ◌∷◌, ◌++◌, length, slice_get, take, unwrap_or}
use Rattle.std.proofs.Common.{refl, sym, ap, ◌∙◌, arith, get_or, append-nil, append_assoc, zero-add}
use Rattle.std.proofs.lemmas.List.{take_more, take_all}
use Rattle.std.proofs.lemmas.List.Concat.{flat_map-append}
use Rattle.std.proofs.lemmas.List.FromFn.{get_or-range_with_len, length-range_with_len}
use Rattle.std.specs.List.{flat_map, list_all, range_with_len}
use Rattle.jpa_model.specs.declared.unit.Attribute.{Attribute}
use Rattle.jpa_model.specs.declared.unit.PersistenceUnit.{PersistenceUnit}
use Rattle.jpa_model.specs.Chains.{entity_at}
use Rattle.jpa_description.specs.declared.history.history.Change.{Change}
use Rattle.jpa_description.specs.declared.history.history.History.{History}
use Rattle.jpa_description.specs.history.History.{changed, changes_of, class_at}
use Rattle.jpa_opening.specs.migration.Changed.{change_at}

length-changed : (attributes : List Attribute) (changes : List Change) → length (changed attributes changes) ≡ length attributes
length-changed [] changes = refl
length-changed (a ∷ attributes) [] = ap suc (length-changed attributes [])
length-changed (a ∷ attributes) (c ∷ changes) = ap suc (length-changed attributes changes)

changed_at : (attributes : List Attribute) (changes : List Change) (i : ℕ) (d : Attribute) → i < length attributes
    → get_or (changed attributes changes) i (d, Change.Kept) ≡ (get_or attributes i d, unwrap_or (slice_get changes i) Change.Kept)
changed_at [] changes i d h = absurd (omega arith)
changed_at (a ∷ attributes) [] zero d h = refl
changed_at (a ∷ attributes) (c ∷ changes) zero d h = refl
changed_at (a ∷ attributes) [] (suc i) d h = changed_at attributes [] i d (omega arith)
changed_at (a ∷ attributes) (c ∷ changes) (suc i) d h = changed_at attributes changes i d (omega arith)

module _ (m : PersistenceUnit) (h : History) (class : ℕ) (attributes : List Attribute) (own : attributes ≡ (entity_at m class).attributes) where
  pub within : (i : ℕ) → i < length attributes → i < length (changes_of m h class)
  within i less = omega (arith, length-changed (entity_at m class).attributes (class_at h class).changes, ap length own)

  pub at_place : (i : ℕ) (a : Attribute) → i < length attributes → a ≡ get_or attributes i a → get_or (changes_of m h class) i (a, Change.Kept) ≡ (a, change_at h class i)
  at_place i a less is =
      let here : i < length (entity_at m class).attributes = omega (arith, ap length own) in
      changed_at (entity_at m class).attributes (class_at h class).changes i a here ∙ λ j. ((ap (λ items. get_or items i a) (sym own) ∙ sym is) j, change_at h class i)

  -- one attribute more
  pub one_more : (i : ℕ) (a : Attribute) → i < length attributes → a ≡ get_or attributes i a → take (i + 1) (changes_of m h class) ≡ take i (changes_of m h class) ++ (a, change_at h class i) ∷ []
  one_more i a less is =
      take_more (changes_of m h class) i (a, Change.Kept) (within i less) ∙ ap (λ x. take i (changes_of m h class) ++ x ∷ []) (at_place i a less is)

  pub no_more : (i : ℕ) → length attributes ≤ i → take i (changes_of m h class) ≡ changes_of m h class
  no_more i past =
      take_all i (changes_of m h class) (omega (arith, length-changed (entity_at m class).attributes (class_at h class).changes, ap length own))

-- what is joined from one item more
pub joined_more : {A B : Type 0} (f : A → List B) (xs more : List A) (x : A) (start made grown : List B) → more ≡ xs ++ x ∷ [] → made ≡ start ++ flat_map f xs → grown ≡ made ++ f x → grown ≡ start ++ flat_map f more
joined_more f xs more x start made grown e before step =
    step ∙ ap (λ l. l ++ f x) before ∙ append_assoc start (flat_map f xs) (f x)
    ∙ ap (λ l. start ++ (flat_map f xs ++ l)) (sym (append-nil (f x)))
    ∙ ap (λ l. start ++ l) (sym (flat_map-append f xs (x ∷ []))) ∙ ap (λ l. start ++ flat_map f l) (sym e)

-- and from one that gives nothing
pub joined_less : {A B : Type 0} (f : A → List B) (xs more : List A) (x : A) (start made grown : List B) → more ≡ xs ++ x ∷ [] → made ≡ start ++ flat_map f xs → grown ≡ made → f x ≡ [] → grown ≡ start ++ flat_map f more
joined_less f xs more x start made grown e before step none = joined_more f xs more x start made grown e before (step ∙ sym (append-nil made) ∙ ap (λ l. made ++ l) (sym none))

list_all-append : {A : Type 0} (p : A → Bool) (xs ys : List A) → list_all p (xs ++ ys) ≡ (list_all p xs && list_all p ys)
list_all-append p [] ys = refl
list_all-append p (x ∷ xs) ys = ap (λ b. p x && b) (list_all-append p xs ys) ∙ regroup (p x) (list_all p xs) (list_all p ys)
  where
    regroup : (a b c : Bool) → (a && (b && c)) ≡ ((a && b) && c)
    regroup true b c = refl
    regroup false b c = refl

-- one item more passes
pub passes_more : {A : Type 0} (p : A → Bool) (xs more : List A) (x : A) → more ≡ xs ++ x ∷ [] → list_all p xs ≡ true → p x ≡ true → list_all p more ≡ true
passes_more p xs more x e all here = ap (list_all p) e ∙ list_all-append p xs (x ∷ []) ∙ ap (λ b. b && (p x && true)) all ∙ ap (λ b. b && true) here

-- an item fails
pub fails_at : {A : Type 0} (p : A → Bool) (xs : List A) (i : ℕ) (d x : A) → i < length xs → get_or xs i d ≡ x → p x ≡ false → list_all p xs ≡ false
fails_at p [] i d x h is fails = absurd (omega arith)
fails_at p (y ∷ ys) zero d x h is fails = ap (λ b. b && list_all p ys) (ap p is ∙ fails)
fails_at p (y ∷ ys) (suc i) d x h is fails = ap (λ b. p y && b) (fails_at p ys i d x (omega arith) is fails) ∙ and_false (p y)
  where
    and_false : (b : Bool) → (b && false) ≡ false
    and_false true = refl
    and_false false = refl

-- a class fails
pub class_fails : (p : ℕ → Bool) (n class : ℕ) → class < n → p class ≡ false → list_all p (range_with_len 0 n) ≡ false
class_fails p n class h fails =
    fails_at p (range_with_len 0 n) class 0 class (omega (arith, length-range_with_len 0 n)) (get_or-range_with_len 0 n class 0 h ∙ zero-add class) fails

-- Classes by number and entities by place; the first that passes a test.
use Rattle.std.specs.Prelude.{◌≡◌, ℕ, zero, suc, ◌+◌, ◌<◌, ◌≤◌, Bool, true, false, cond, nat_lt, List, [], ◌∷◌, length, slice_index_or, find, Option, Some, None}
use Rattle.std.proofs.Common.{refl, sym, ap, ◌∙◌, arith, inl, inr}
use Rattle.std.proofs.lemmas.Bool.Decides.{nat_tests}
use Rattle.std.specs.List.{range_with_len}
use Rattle.jpa_model.specs.declared.unit.PersistenceUnit.{PersistenceUnit}
use Rattle.jpa_model.specs.Chains.{entity_at, no_entity}
use Rattle.jpa_rows.proofs.laws.Facts.{some_none, value_in, true_false}
use Rattle.jpa_rows.proofs.laws.Elements.{Has}
use Rattle.jpa_rows.specs.rows.Tables.{classes}
use Rattle.jpa_object_rows.specs.meaning.Unambiguous.{is_class}

-- ---- numbers in a range

pub below : (k n : ℕ) → nat_lt k n ≡ true → k < n
below k n h = grind (arith, nat_tests)

pub is_below : (k n : ℕ) → k < n → nat_lt k n ≡ true
is_below k n h = grind (arith, nat_tests)

pub in_range : (a n k : ℕ) → Has (range_with_len a n) k → (a ≤ k) × (k < a + n)
in_range a zero k h = absurd h
in_range a (suc n) k (inl e) = (omega arith, omega arith)
in_range a (suc n) k (inr h) = let r = in_range (a + 1) n k h in let low = r.0 in let high = r.1 in (omega arith, omega arith)

not_below : (a k : ℕ) → a ≤ k → nat_lt a k ≡ false → a ≡ k
not_below a k h e = grind (arith, nat_tests)

pub into_range : (a n k : ℕ) → a ≤ k → k < a + n → Has (range_with_len a n) k
into_range a zero k h g = absurd (omega arith)
into_range a (suc n) k h g = by_test (nat_lt a k) refl (λ up. into_range (a + 1) n k (omega arith) (omega arith))
  where
    by_test : (b : Bool) → nat_lt a k ≡ b → (a < k → Has (range_with_len (a + 1) n) k) → Has (a ∷ range_with_len (a + 1) n) k
    by_test true e rest = inr (rest (below a k e))
    by_test false e rest = inl (not_below a k h e)

-- ---- classes

pub class_within : (m : PersistenceUnit) (k : ℕ) → Has (classes m) k → is_class m k ≡ true
class_within m k h = let high = (in_range 0 (length m.entities) k h).1 in is_below k (length m.entities) (omega arith)

pub within_classes : (m : PersistenceUnit) (k : ℕ) → is_class m k ≡ true → Has (classes m) k
within_classes m k h = let up = below k (length m.entities) h in into_range 0 (length m.entities) k (omega arith) (omega arith)

pub item_at : {A : Type 0} (xs : List A) (k : ℕ) (d : A) → k < length xs → Has xs (slice_index_or xs k d)
item_at [] k d h = absurd (omega arith)
item_at (x ∷ xs) zero d h = inl refl
item_at (x ∷ xs) (suc k) d h = inr (item_at xs k d (omega arith))

pub has_entity : (m : PersistenceUnit) (k : ℕ) → is_class m k ≡ true → Has m.entities (entity_at m k)
has_entity m k h = item_at m.entities k no_entity (below k (length m.entities) h)

-- ---- the first that passes

module _ {A : Type 0} (p : A → Bool) where
  pub find_none : (xs : List A) → ((x : A) → Has xs x → p x ≡ false) → find p xs ≡ None
  find_none [] h = refl
  find_none (x ∷ xs) h = ap (λ b. cond b (Some x) (find p xs)) (h x (inl refl)) ∙ find_none xs (λ y g. h y (inr g))

  pub find_some : (xs : List A) (k : A) → find p xs ≡ Some k → Has xs k × (p k ≡ true)
  find_some [] k e = absurd (some_none k (sym e))
  find_some (x ∷ xs) k e = by_test (p x) refl e (λ h. find_some xs k h)
    where
      by_test : (b : Bool) → p x ≡ b → cond b (Some x) (find p xs) ≡ Some k → (find p xs ≡ Some k → Has xs k × (p k ≡ true)) → Has (x ∷ xs) k × (p k ≡ true)
      by_test true h g rest = (inl (value_in x k g), ap p (sym (value_in x k g)) ∙ h)
      by_test false h g rest = let r = rest g in (inr r.0, r.1)

  pub find_missed : (xs : List A) (k : A) → find p xs ≡ None → Has xs k → p k ≡ false
  find_missed [] k e h = absurd h
  find_missed (x ∷ xs) k e h = by_test (p x) refl e h (λ f g. find_missed xs k f g)
    where
      by_test : (b : Bool) → p x ≡ b → cond b (Some x) (find p xs) ≡ None → Has (x ∷ xs) k → (find p xs ≡ None → Has xs k → p k ≡ false) → p k ≡ false
      by_test true t f g rest = absurd (some_none x f)
      by_test false t f (inl same) rest = ap p (sym same) ∙ t
      by_test false t f (inr g) rest = rest f g

  -- the only one that passes is found
  pub find_only : (xs : List A) (k : A) → Has xs k → p k ≡ true → ((x : A) → Has xs x → p x ≡ true → x ≡ k) → find p xs ≡ Some k
  find_only xs k h e only = by_answer (find p xs) refl
    where
      by_answer : (o : Option A) → find p xs ≡ o → find p xs ≡ Some k
      by_answer None f = absurd (true_false (sym e ∙ find_missed xs k f h))
      by_answer (Some x) f = let r = find_some xs x f in f ∙ ap Some (only x r.0 r.1)

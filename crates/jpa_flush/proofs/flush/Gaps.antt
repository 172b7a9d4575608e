-- Walks over some entries are walks over all of them, where nothing is made of the others.
use Rattle.std.proofs.Common.{◌≡◌, ◌∙◌, ℕ, zero, suc, ◌<◌, ◌≤◌, Bool, true, List, [], ◌∷◌, ◌++◌, drop, length, get_or, refl, ap, sym, arith}
use Rattle.std.specs.List.{AllByRecursion, flat_map, list_all}
use Rattle.std.specs.Prelude.{◌&&◌}
use Rattle.jpa_work.specs.declared.context.Entry.{Entry}
use Rattle.jpa_work.specs.context.Steps.{Done, Op, after, each}
use Rattle.jpa_work.specs.context.Work.{Work}
use Rattle.jpa_flush.specs.flush.Marked.{AreLooked, from}
use Rattle.jpa_flush.proofs.flush.Places.{below, between, from_rises, from_within, last_within, next_within}

-- what is made of the rest of a list does not hang on items of which nothing is made
pub gap_of : {X A : Type 0} (F : List X → A) (Silent : X → Type 0) → ((x : X) (xs : List X) → Silent x → F (x ∷ xs) ≡ F xs) →
    (es : List X) (i j : ℕ) → i ≤ j → j ≤ length es → ((k : ℕ) (d : X) → i ≤ k → k < j → Silent (get_or es k d)) → F (drop j es) ≡ F (drop i es)
gap_of F Silent step [] zero zero h l silent = refl
gap_of F Silent step [] zero (suc j) h l silent = absurd (omega (arith, l))
gap_of F Silent step [] (suc i) zero h l silent = refl
gap_of F Silent step [] (suc i) (suc j) h l silent = refl
gap_of F Silent step (x ∷ es) zero zero h l silent = refl
gap_of F Silent step (x ∷ es) zero (suc j) h l silent =
    gap_of F Silent step es zero j (omega arith) (omega (arith, l)) (λ k d a b. silent (suc k) d (omega arith) (omega (arith, b)))
    ∙ sym (step x es (silent 0 x (omega arith) (omega arith)))
gap_of F Silent step (x ∷ es) (suc i) zero h l silent = absurd (omega (arith, h))
gap_of F Silent step (x ∷ es) (suc i) (suc j) h l silent =
    gap_of F Silent step es i j (omega (arith, h)) (omega (arith, l)) (λ k d a b. silent (suc k) d (omega (arith, a)) (omega (arith, b)))

-- ---- of operations one after another, tests, and lists

pub each_step : {X : Type 0} (f : X → Op (Unit {0})) (w : Work) (x : X) (xs : List X) → f x w ≡ Done tt w → each f (x ∷ xs) w ≡ each f xs w
each_step f w x xs h = ap (λ o. after o (λ _. each f xs)) h

pub all_step : {X : Type 0} (p : X → Bool) (x : X) (xs : List X) → p x ≡ true → list_all p (x ∷ xs) ≡ list_all p xs
all_step p x xs h = ap (λ b. b && list_all p xs) h

pub list_step : {X A : Type 0} (f : X → List A) (x : X) (xs : List X) → f x ≡ [] → flat_map f (x ∷ xs) ≡ flat_map f xs
list_step f x xs h = ap (λ ys. ys ++ flat_map f xs) h

-- nothing is made of any
pub each_none : {X : Type 0} (f : X → Op (Unit {0})) (w : Work) (es : List X) → AllByRecursion (λ x. f x w ≡ Done tt w) es → each f es w ≡ Done tt w
each_none f w [] h = refl
each_none f w (x ∷ xs) h = each_step f w x xs h.0 ∙ each_none f w xs h.1

-- ---- over places

module _ {Silent : Entry → Type 0} {es : List Entry} {places : List ℕ} (looked : AreLooked Silent es places) {A : Type 0} (F : List Entry → A) (step : (x : Entry) (xs : List Entry) → Silent x → F (x ∷ xs) ≡ F xs) where
  gap : (i k : ℕ) (d : Entry) → i ≤ length places → from places i ≤ k → k < get_or places i (length es) → Silent (get_or es k d)
  gap i k d l f g = looked.others k d (below looked.rising i k l g) (between looked.rising i k l f g)

  -- up to the next place
  pub to_next : (i : ℕ) → i < length places → F (drop (get_or places i 0) es) ≡ F (drop (from places i) es)
  to_next i l =
      let within = (looked.rising).within i l in
      gap_of F Silent step es (from places i) (get_or places i 0) (from_rises looked.rising i l) (omega (arith, within))
      (λ k d a b. gap i k d (omega (arith, l)) a (next_within looked.rising i k l b))

  -- behind the last place
  pub to_end : F [] ≡ F (drop (from places (length places)) es)
  to_end =
      ap F (sym (nothing es))
      ∙ gap_of F Silent step es (from places (length places)) (length es) (from_within looked.rising (length places) (omega arith)) (omega arith)
      (λ k d a b. gap (length places) k d (omega arith) a (last_within looked.rising k b))
    where
      nothing : {X : Type 0} (xs : List X) → drop (length xs) xs ≡ []
      nothing [] = refl
      nothing (x ∷ xs) = nothing xs

-- Places that are apart keep what they hold.
use Rattle.std.specs.Prelude.{◌≡◌, Bool, true, false, not, ◌||◌, ◌++◌, T, List, [], ◌∷◌, Option, Some, None}
use Rattle.std.proofs.Common.{refl, ◌∙◌}
use Rattle.std.specs.List.{AllByRecursion}
use Rattle.std.specs.FinMap.{find, is_sorted}
use Rattle.std.specs.Ordering.{eq_by_cmp}
use Rattle.std.specs.declared.cmp.Ordering.{Ordering}
use Rattle.jpa_rows.specs.laws.Orders.{IsLinearOrder}
use Rattle.jpa_rows.specs.laws.Entries.{put_if}
use Rattle.jpa_rows.specs.laws.Slots.{filled, lacks, are_apart}
use Rattle.jpa_rows.proofs.laws.Facts.{and_first, and_second}
use Rattle.jpa_rows.proofs.laws.Maps.{found_put, found_other, ties_back, put_rises}

pub all_first : {X : Type 0} (P : X → Type 0) (xs ys : List X) → AllByRecursion P (xs ++ ys) → AllByRecursion P xs
all_first P [] ys h = tt
all_first P (x ∷ xs) ys h = (h.0, all_first P xs ys h.1)

pub all_rest : {X : Type 0} (P : X → Type 0) (xs ys : List X) → AllByRecursion P (xs ++ ys) → AllByRecursion P ys
all_rest P [] ys h = h
all_rest P (x ∷ xs) ys h = all_rest P xs ys h.1

-- f answers each place with what it holds
abbrev pub Holds : {K X : Type 0} → (K → Option X) → List (K × Option X) → Type 0
Holds f = AllByRecursion (λ slot. f slot.0 ≡ slot.1)

neither_first : (a b : Bool) → not (a || b) ≡ true → a ≡ false
neither_first true b h = cc
neither_first false b h = refl

neither_second : (a b : Bool) → not (a || b) ≡ true → not b ≡ true
neither_second true b h = cc
neither_second false b h = h

pub lacks_first : {K X : Type 0} (by : K → K → Ordering) (k : K) (slot : K × X) (slots : List (K × X)) → lacks by k (slot ∷ slots) ≡ true → eq_by_cmp by k slot.0 ≡ false
lacks_first by k slot slots h = neither_first (eq_by_cmp by k slot.0) _ h

pub lacks_rest : {K X : Type 0} (by : K → K → Ordering) (k : K) (slot : K × X) (slots : List (K × X)) → lacks by k (slot ∷ slots) ≡ true → lacks by k slots ≡ true
lacks_rest by k slot slots h = neither_second (eq_by_cmp by k slot.0) _ h

module _ {K X : Type 0} {by : K → K → Ordering} (order : IsLinearOrder by) where
  put_if_rises : (k : K) (o : Option X) (es : List (K × X)) → T (is_sorted by es) → T (is_sorted by (put_if by k o es))
  put_if_rises k None es h = h
  put_if_rises k (Some x) es h = put_rises order k x es h

  pub filled_rises : (slots : List (K × Option X)) → T (is_sorted by (filled by slots))
  filled_rises [] = tt
  filled_rises (slot ∷ slots) = put_if_rises slot.0 slot.1 (filled by slots) (filled_rises slots)

  -- another place changes nothing
  other_slot : (k q : K) (o : Option X) (es : List (K × X)) → eq_by_cmp by k q ≡ false → find by k (put_if by q o es) ≡ find by k es
  other_slot k q None es e = refl
  other_slot k q (Some x) es e = found_other order k q x es e

  own_slot : (k : K) (o : Option X) (es : List (K × X)) → find by k es ≡ None → find by k (put_if by k o es) ≡ o
  own_slot k None es e = e
  own_slot k (Some x) es e = found_put order k x es

  pub lacking : (k : K) (slots : List (K × Option X)) → lacks by k slots ≡ true → find by k (filled by slots) ≡ None
  lacking k [] h = refl
  lacking k (slot ∷ slots) h =
      other_slot k slot.0 slot.1 (filled by slots) (lacks_first by k slot slots h) ∙ lacking k slots (lacks_rest by k slot slots h)

  holds_after : (slot : K × Option X) (slots more : List (K × Option X)) → lacks by slot.0 more ≡ true
      → Holds (λ k. find by k (filled by slots)) more → Holds (λ k. find by k (filled by (slot ∷ slots))) more
  holds_after slot slots [] h g = tt
  holds_after slot slots (s ∷ more) h g = (
    other_slot s.0 slot.0 slot.1 (filled by slots) (ties_back order slot.0 s.0 ∙ lacks_first by slot.0 s more h) ∙ g.0,
    holds_after slot slots more (lacks_rest by slot.0 s more h) g.1,
  )

  -- each place that is apart from the others is found with what it holds
  pub all_hold : (slots : List (K × Option X)) → are_apart by slots ≡ true → Holds (λ k. find by k (filled by slots)) slots
  all_hold [] h = tt
  all_hold (slot ∷ slots) h =
      let apart = and_first (lacks by slot.0 slots) _ h in
      (own_slot slot.0 slot.1 (filled by slots) (lacking slot.0 slots apart), holds_after slot slots slots apart (all_hold slots (and_second (lacks by slot.0 slots) _ h)))

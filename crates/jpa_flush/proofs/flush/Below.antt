-- Numbers in a set: one more, and those below a number.
use Rattle.std.proofs.Common.{◌≡◌, ◌∙◌, ℕ, zero, suc, ◌<◌, Bool, true, false, List, [], ◌∷◌, length, get_or, refl, ap, sym, arith}
use Rattle.std.specs.Prelude.{◌==◌, ◌||◌, nat_lt, filter, cond, if◌then◌else◌}
use Rattle.std.specs.List.{list_any}
use Rattle.std.specs.Bool.{one_answer}
use Rattle.std.specs.BTreeSet.{BTreeSet, Updates}
use Rattle.std.specs.Cmp.{unsigned_tied}
use Rattle.std.specs.List.Sorted.{IsStrictlySortedBy}
use Rattle.std.specs.Ordering.{nat_cmp, is_eq}
use Rattle.std.proofs.lemmas.Bool.{ltb-true, lt-ltb, eqb-true}
use Rattle.std.proofs.lemmas.Bool.Decides.{Decides-eqb}
use Rattle.std.proofs.lemmas.List.Kept.{IsStrictlySortedBy-filter}
use Rattle.std.proofs.lemmas.Map.Keys.{below_from_sorted}
use Rattle.std.proofs.lemmas.Map.Views.{any-filter_same}
use Rattle.jpa_work.specs.context.Marks.{is_listed}
use Rattle.jpa_flush.specs.flush.Marked.{AreRising}

-- ---- one more

flipped : (n k : ℕ) → (n == k) ≡ (k == n)
flipped n k =
    let back = Decides-eqb k n in
    one_answer (n == k) (k == n) (Decides-eqb n k) (λ e. sym (back.0 e), λ same. back.1 (sym same))

listed_is : (n : ℕ) (ks : List ℕ) → list_any (λ k. is_eq (nat_cmp n k)) ks ≡ is_listed ks n
listed_is n [] = refl
listed_is n (k ∷ ks) = λ i. (unsigned_tied n k ∙ flipped n k) i || listed_is n ks i

still : (b c : Bool) → c ≡ true → cond b true c ≡ true
still true c h = refl
still false c h = h

-- those before stay
pub one_keeps : (n : ℕ) (old new : BTreeSet ℕ) → Updates nat_cmp old new n true → (k : ℕ) → is_listed old.keys k ≡ true → is_listed new.keys k ≡ true
one_keeps n old new u k h = sym (listed_is k new.keys) ∙ u.0 k ∙ still _ _ (listed_is k old.keys ∙ h)

-- ---- those below a number

module _ (len : ℕ) where
  abbrev pub below : List ℕ → List ℕ
  below ks = filter (λ k. nat_lt k len) ks

  all_below : (ks : List ℕ) (i : ℕ) → i < length (below ks) → get_or (below ks) i 0 < len
  all_below [] i l = absurd (omega (arith, l))
  all_below (k ∷ ks) i l = by (nat_lt k len) refl (all_below ks) i l
    where
      by : (b : Bool) → nat_lt k len ≡ b → ((i : ℕ) → i < length (below ks) → get_or (below ks) i 0 < len) → (i : ℕ) → i < length (if b then k ∷ below ks else below ks) →
          get_or (if b then k ∷ below ks else below ks) i 0 < len
      by true e rest zero l = ltb-true k len e
      by true e rest (suc i) l = rest i (omega (arith, l))
      by false e rest i l = rest i l

  pub below_rise : (ks : List ℕ) → IsStrictlySortedBy nat_cmp ks → AreRising len (below ks)
  below_rise ks sorted =
      record {
        within = all_below ks;
        rises = λ i j l m. below_from_sorted (below ks) i j 0 (IsStrictlySortedBy-filter nat_cmp (λ k. nat_lt k len) ks sorted) l m;
      }

  pub below_has : (ks : List ℕ) (k : ℕ) → k < len → is_listed ks k ≡ true → is_listed (below ks) k ≡ true
  below_has ks k l h =
      any-filter_same (λ m. m == k) (λ m. nat_lt m len) true (λ m e. ap (λ j. nat_lt j len) (eqb-true m k e) ∙ lt-ltb k len l) ks ∙ h

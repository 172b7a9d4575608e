-- A binary search among entries in rising order ends at the key, or where it would stand.
use Rattle.std.specs.Prelude.{◌≡◌, ℕ, ◌≤◌, T, List, length, Result, Ok, Err, IfOk, IfErr}
use Rattle.std.proofs.Common.{refl, subst, arith, get_or}
use Rattle.std.specs.declared.cmp.Ordering.{Ordering}
use Rattle.std.specs.Ordering.{ordering_index}
use Rattle.std.specs.Cmp.{IsTotalOrder}
use Rattle.std.specs.FinMap.Entries.{is_sorted}
use Rattle.std.specs.List.Sorted.{IsSearchInRange, IsBinarySearchResult, IsNonDecreasingBy}
use Rattle.std.proofs.lemmas.Bool.{cases_lt}
use Rattle.std.proofs.Common.{inl, inr}
use Rattle.std.specs.Fn.{Called, ComputesKey, Mut}
use Rattle.std.proofs.Common.{Bor}
use Rattle.std.proofs.lemmas.Fn.{answers_by}
use Rattle.jpa_stored.specs.objects.Places.{IsAt, IsGap}
use Rattle.jpa_stored.proofs.objects.Entries.{rising_at, no_higher}

same_place : (i j : ℕ) → i ≤ j → j ≤ i → i ≡ j
same_place i j h g = omega arith

module _ {K X : Type 0} {R : K → K → Ordering} (o : IsTotalOrder R) (es : List (K × X)) (sorted : T (is_sorted R es)) (k : K) where
  rises : IsNonDecreasingBy (λ e. ordering_index (R e.0 k)) es
  rises i j d h l = elim (cases_lt i j) [
    | inl less ↦ no_higher o (get_or es i d).0 (get_or es j d).0 k _ (rising_at o es i j d sorted less l) refl
    | inr more ↦ subst (λ n. ordering_index (R (get_or es i d).0 k) ≤ ordering_index (R (get_or es n d).0 k)) (same_place i j h more) (omega arith)
  ]

  pub searched : (r : Result ℕ ℕ) → IsSearchInRange r (length es) → IsBinarySearchResult (λ e. R e.0 k) es r → record { found : IfOk r (IsAt R es k); absent : IfErr r (IsGap R es k) }
  searched (Ok at) h equal = record { found = record { within = h; tied = equal }; absent = tt }
  searched (Err at) h parted = record {
    found = tt;
    absent = record {
      within = h;
      below = λ j d l. (parted rises).0 j d (omega arith) l;
      above = λ j d l m. (parted rises).1 j d l m;
    };
  }

-- a closure that answers by a key at its own state, and keeps it, answers so always
pub computes : {F X K : Type 0} {g : Mut F (Bor X × Unit {0}) K} {f : F} (key : X → K) → ((a : Bor X × Unit {0}) (r : K) (f' : F) → Called g f a r f' → (r ≡ key a.0.now) × (f' ≡ f)) → ComputesKey g key f
computes {F} {X} {K} {g} {f} key step =
    answers_by g (λ a r. r ≡ key a.0.now) (λ h. h ≡ f) (λ h a r h' called e. step a r h' (subst (λ s. Called g s a r h') e called)) f refl

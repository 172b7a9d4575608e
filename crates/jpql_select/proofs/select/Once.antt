-- One more of a list without those that came before, and what was met then.
use Rattle.std.proofs.Common.{◌≡◌, Bool, true, false, cond, List, [], ◌∷◌, ◌++◌, reverse, sym, ap, ◌∙◌, append_assoc}
use Rattle.std.specs.List.{list_any}
use Rattle.std.proofs.lemmas.List.{reverse-append}
use Rattle.jpql_meaning.specs.eval.Aggregates.{first_ones}

module _ {A : Type 0} (same : A → A → Bool) where
  by_test : (old later : List A) (x : A) (b : Bool) → list_any (λ y. same y x) old ≡ b
      → first_ones same old (x ∷ later) ≡ cond b (first_ones same old later) (x ∷ first_ones same (x ∷ old) later)
  by_test old later x b e = ap (λ t. cond t (first_ones same old later) (x ∷ first_ones same (x ∷ old) later)) e

  pub again_met : (all kept rest later : List A) (x : A) → rest ≡ x ∷ later → list_any (λ y. same y x) (reverse kept) ≡ true
      → all ≡ kept ++ first_ones same (reverse kept) rest → all ≡ kept ++ first_ones same (reverse kept) later
  again_met all kept rest later x at e h =
      h ∙ ap (λ xs. kept ++ first_ones same (reverse kept) xs) at ∙ ap (λ xs. kept ++ xs) (by_test (reverse kept) later x true e)

  pub kept_then : (kept : List A) (x : A) → reverse (kept ++ x ∷ []) ≡ x ∷ reverse kept
  kept_then kept x = reverse-append kept (x ∷ [])

  pub first_met : (all kept rest later : List A) (x : A) → rest ≡ x ∷ later → list_any (λ y. same y x) (reverse kept) ≡ false
      → all ≡ kept ++ first_ones same (reverse kept) rest → all ≡ (kept ++ x ∷ []) ++ first_ones same (reverse (kept ++ x ∷ [])) later
  first_met all kept rest later x at e h =
      h ∙ ap (λ xs. kept ++ first_ones same (reverse kept) xs) at ∙ ap (λ xs. kept ++ xs) (by_test (reverse kept) later x false e)
      ∙ sym (append_assoc kept (x ∷ []) (first_ones same (x ∷ reverse kept) later))
      ∙ ap (λ old. (kept ++ x ∷ []) ++ first_ones same old later) (sym (kept_then kept x))

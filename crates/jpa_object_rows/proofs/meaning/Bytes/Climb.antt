-- Chains that climb from a class to one with nothing above it.
use Rattle.std.specs.Prelude.{◌≡◌, ℕ, zero, suc, ◌+◌, ◌≤◌, List, [], ◌∷◌, ◌++◌, length, slice_index_or, Option, Some, None}
use Rattle.std.proofs.Common.{refl, sym, ap, subst, ◌∙◌, arith, append_assoc, length-append, inl, inr, ◌⊎◌}
use Rattle.jpa_rows.proofs.laws.Facts.{some_none}
use Rattle.jpa_rows.proofs.laws.Elements.{Has, has_append}

abbrev pub climb : (ℕ → Option ℕ) → ℕ → ℕ → Option ℕ → List ℕ
climb up zero c above = c ∷ []
climb up (suc n) c None = c ∷ []
climb up (suc n) c (Some above) = climb up n above (up above) ++ c ∷ []

abbrev pub first_in : List ℕ → ℕ
first_in cs = slice_index_or cs 0 0

abbrev pub NoDuplicates : List ℕ → Type 0
NoDuplicates [] = Unit {0}
NoDuplicates (c ∷ cs) = (Has cs c → ⊥) × NoDuplicates cs

one_more : (cs : List ℕ) (c : ℕ) → NoDuplicates cs → (Has cs c → ⊥) → NoDuplicates (cs ++ c ∷ [])
one_more [] c h none = (λ k. k, tt)
one_more (d ∷ cs) c h none = (λ k. by_side (has_append cs (c ∷ []) d k), one_more cs c h.1 (λ k. none (inr k)))
  where
    by_side : Has cs d ⊎ Has (c ∷ []) d → ⊥
    by_side (inl k) = h.0 k
    by_side (inr (inl e)) = none (inl (sym e))
    by_side (inr (inr k)) = k

module _ (up : ℕ → Option ℕ) where
  first_of_climb : (n c : ℕ) (above : Option ℕ) (cs : List ℕ) → first_in (climb up n c above ++ cs) ≡ first_in (climb up n c above)
  first_of_climb zero c above cs = refl
  first_of_climb (suc n) c None cs = refl
  first_of_climb (suc n) c (Some p) cs =
      ap first_in (append_assoc (climb up n p (up p)) (c ∷ []) cs) ∙ first_of_climb n p (up p) (c ∷ cs) ∙ sym (first_of_climb n p (up p) (c ∷ []))

  -- a chain that has reached the top grows no more
  stable : (n c : ℕ) (above : Option ℕ) → above ≡ up c → up (first_in (climb up n c above)) ≡ None → climb up (suc n) c above ≡ climb up n c above
  stable zero c None e top = refl
  stable zero c (Some p) e top = absurd (some_none p (e ∙ top))
  stable (suc n) c None e top = refl
  stable (suc n) c (Some p) e top = ap (λ cs. cs ++ c ∷ []) (stable n p (up p) refl (ap up (sym (first_of_climb n p (up p) (c ∷ []))) ∙ top))

  module _ (n : ℕ) where
    abbrev pub chain : ℕ → List ℕ
    chain c = climb up (suc n) c (up c)

    abbrev pub Ends : ℕ → Type 0
    Ends c = up (first_in (chain c)) ≡ None

    alone : (c : ℕ) (above : Option ℕ) → above ≡ None → climb up (suc n) c above ≡ c ∷ []
    alone c None e = refl
    alone c (Some p) e = absurd (some_none p e)

    linked : (c p : ℕ) (above : Option ℕ) → above ≡ Some p → climb up (suc n) c above ≡ climb up n p (up p) ++ c ∷ []
    linked c p None e = absurd (some_none p (sym e))
    linked c p (Some q) e = let same : q ≡ p = cc in ap (λ z. climb up n z (up z) ++ c ∷ []) same

    ends_below : (c p : ℕ) → up c ≡ Some p → Ends c → up (first_in (climb up n p (up p))) ≡ None
    ends_below c p e top = ap up (sym (ap first_in (linked c p (up c) e) ∙ first_of_climb n p (up p) (c ∷ []))) ∙ top

    pub chain_more : (c p : ℕ) → up c ≡ Some p → Ends c → chain c ≡ chain p ++ c ∷ []
    chain_more c p e top = linked c p (up c) e ∙ ap (λ cs. cs ++ c ∷ []) (sym (stable n p (up p) refl (ends_below c p e top)))

    pub ends_up : (c p : ℕ) → up c ≡ Some p → Ends c → Ends p
    ends_up c p e top = ap (λ cs. up (first_in cs)) (stable n p (up p) refl (ends_below c p e top)) ∙ ends_below c p e top

    -- what a class of a chain has in common with the class at its end
    pub record IsAbove (c top_of : ℕ) : Type 0 where
      pub ends : Ends c
      pub first : first_in (chain c) ≡ first_in (chain top_of)
      pub shorter : length (chain c) ≤ length (chain top_of)

    pub record Climbs (c : ℕ) : Type 0 where
      pub each : (b : ℕ) → Has (chain c) b → IsAbove b c
      pub once : NoDuplicates (chain c)

    itself : (c : ℕ) → Ends c → IsAbove c c
    itself c top = record { ends = top; first = refl; shorter = omega arith }

    first_more : (c p : ℕ) → up c ≡ Some p → Ends c → first_in (chain c) ≡ first_in (chain p)
    first_more c p e top = ap first_in (chain_more c p e top) ∙ first_of_climb (suc n) p (up p) (c ∷ [])

    length_more : (c p : ℕ) → up c ≡ Some p → Ends c → length (chain c) ≡ length (chain p) + 1
    length_more c p e top = ap length (chain_more c p e top) ∙ length-append (chain p) (c ∷ [])

    above_more : (b c p : ℕ) → up c ≡ Some p → Ends c → IsAbove b p → IsAbove b c
    above_more b c p e top h = let longer = length_more c p e top in record { ends = h.ends; first = h.first ∙ sym (first_more c p e top); shorter = omega arith }

    not_above : (c p : ℕ) → up c ≡ Some p → Ends c → IsAbove c p → ⊥
    not_above c p e top h = let longer = length_more c p e top in let short = h.shorter in omega arith

    climbs_alone : (c : ℕ) → up c ≡ None → Ends c → Climbs c
    climbs_alone c e top =
        let one : chain c ≡ c ∷ [] = alone c (up c) e in
        record {
          each = λ b h. subst (λ z. IsAbove z c) (in_one b (subst (λ cs. Has cs b) one h)) (itself c top);
          once = subst NoDuplicates (sym one) (λ k. k, tt);
        }
      where
        in_one : (b : ℕ) → Has (c ∷ []) b → c ≡ b
        in_one b (inl e) = e
        in_one b (inr k) = absurd k

    climbs_more : (c p : ℕ) → up c ≡ Some p → Ends c → Climbs p → Climbs c
    climbs_more c p e top h = record {
      each = λ b k. by_side b (has_append (chain p) (c ∷ []) b (subst (λ cs. Has cs b) (chain_more c p e top) k));
      once = subst NoDuplicates (sym (chain_more c p e top)) (one_more (chain p) c h.once (λ k. not_above c p e top (h.each c k)));
    }
      where
        by_side : (b : ℕ) → Has (chain p) b ⊎ Has (c ∷ []) b → IsAbove b c
        by_side b (inl k) = above_more b c p e top (h.each b k)
        by_side b (inr (inl same)) = subst (λ z. IsAbove z c) same (itself c top)
        by_side b (inr (inr k)) = absurd k

    step : (c : ℕ) (above : Option ℕ) → up c ≡ above → Ends c → ((p : ℕ) → up c ≡ Some p → Climbs p) → Climbs c
    step c None e top rest = climbs_alone c e top
    step c (Some p) e top rest = climbs_more c p e top (rest p e)

    no_length : (c p : ℕ) → up c ≡ Some p → Ends c → length (chain c) ≤ 0 → ⊥
    no_length c p e top h = let longer = length_more c p e top in omega arith

    less_length : (c p most : ℕ) → up c ≡ Some p → Ends c → length (chain c) ≤ suc most → length (chain p) ≤ most
    less_length c p most e top h = let longer = length_more c p e top in omega arith

    by_length : (most c : ℕ) → length (chain c) ≤ most → Ends c → Climbs c
    by_length zero c h top = step c (up c) refl top (λ p e. absurd (no_length c p e top h))
    by_length (suc most) c h top = step c (up c) refl top (λ p e. by_length most p (less_length c p most e top h) (ends_up c p e top))

    no_more : (c : ℕ) → length (chain c) ≤ length (chain c)
    no_more c = omega arith

    pub climbs : (c : ℕ) → Ends c → Climbs c
    climbs c top = by_length (length (chain c)) c (no_more c) top

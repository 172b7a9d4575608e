-- The first class that passes a test of its entity.
use Rattle.std.specs.Prelude.{◌≡◌, ℕ, ◌+◌, Bool, cond, List, [], ◌∷◌, ◌++◌, length, position, find, Some}
use Rattle.std.proofs.Common.{refl, sym, ap, ◌∙◌, get_or, append_assoc}
use Rattle.std.specs.List.{position_from, range_with_len}
use Rattle.std.proofs.lemmas.List.{get_or_at, length_push}
use Rattle.std.proofs.lemmas.Iterator.Adapters.{position_from-zero}

places : {A : Type 0} (p : A → Bool) (d : A) (before after : List A) (k : ℕ) → length before ≡ k → position_from p k after ≡ find (λ c. p (get_or (before ++ after) c d)) (range_with_len k (length after))
places p d before [] k e = refl
places {A} p d before (x ∷ after) k e =
    let rest = places p d (before ++ x ∷ []) after (k + 1) (length_push before x ∙ ap (λ n. n + 1) e) in
    let same : ◌≡◌ {A = List A} ((before ++ x ∷ []) ++ after) (before ++ x ∷ after) = append_assoc before (x ∷ []) after in
    ap (λ o. cond (p x) (Some k) o) (rest ∙ ap (λ (l : List A). find (λ c. p (get_or l c d)) (range_with_len (k + 1) (length after))) same)
    ∙ ap (λ b. cond b (Some k) (find (λ c. p (get_or (before ++ x ∷ after) c d)) (range_with_len (k + 1) (length after)))) (ap p (sym (get_or_at before x after d k e)))

pub first_place : {A : Type 0} (p : A → Bool) (d : A) (items : List A) → position p items ≡ find (λ c. p (get_or items c d)) (range_with_len 0 (length items))
first_place p d items = position_from-zero p items ∙ places p d [] items 0 refl

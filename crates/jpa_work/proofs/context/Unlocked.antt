-- An entry whose lock ends; what stays of it stays.
use Rattle.std.proofs.Common.{◌≡◌, refl, sym, ap, ◌∙◌, ℕ, zero, suc, ◌<◌, List, [], ◌∷◌, Some, map, length, get_or, arith}
use Rattle.std.specs.Prelude.{slice_get, slice_set}
use Rattle.jpa_work.specs.declared.context.Entry.{Entry}
use Rattle.jpa_work.specs.context.Indexed.{placed}
use Rattle.jpa_work.specs.context.Work.{unlocked}

-- an entry put back without its lock
pub put_back : (es : List Entry) (i : ℕ) (y other d : Entry) → slice_get es i ≡ Some y → slice_set (slice_set es i other) i (unlocked y) ≡ slice_set es i (unlocked (get_or es i d))
put_back [] i y other d h = cc
put_back (x ∷ es) zero y other d h = let same : x ≡ y = cc in ap (λ (e : Entry). unlocked e ∷ es) (sym same)
put_back (x ∷ es) (suc i) y other d h = ap (λ r. x ∷ r) (put_back es i y other d h)

-- its object and its key stay
stays_at : (es : List Entry) (i : ℕ) (e : Entry) → i < length es → map placed (slice_set es i (unlocked (get_or es i e))) ≡ map placed es
stays_at [] i e l = refl
stays_at (x ∷ es) zero e l = refl
stays_at (x ∷ es) (suc i) e l = ap (λ r. placed x ∷ r) (stays_at es i e (omega (arith, l)))

pub unlocked_stay : (es others : List Entry) (i : ℕ) → i < length es → ((e : Entry) → others ≡ slice_set es i (unlocked (get_or es i e))) → map placed others ≡ map placed es
unlocked_stay [] others i l h = absurd (omega (arith, l))
unlocked_stay (x ∷ es) others i l h = ap (map placed) (h x) ∙ stays_at (x ∷ es) i x l

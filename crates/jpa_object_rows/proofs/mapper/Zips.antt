-- Two lists that are gone through together.
use Rattle.std.specs.Prelude.{◌≡◌, ◌⊎◌, Bool, true, false, ◌&&◌}
use Rattle.std.proofs.Common.{refl, sym, ap, ◌∙◌, arith, inl, inr, List, [], ◌∷◌, length, zip}
use Rattle.std.specs.List.{list_all}
use Rattle.jpa_value.specs.declared.refusal.Cause.{Cause}
use Rattle.jpa_value.specs.declared.refusal.PersistenceFault.{PersistenceFault}

-- a zip ends where one of its lists ends
pub ended_left : {A B : Type 0} (xs : List A) (ys : List B) → length xs ≡ 0 → zip xs ys ≡ []
ended_left [] ys h = refl
ended_left (x ∷ xs) ys h = absurd (omega arith)

pub ended_right : {A B : Type 0} (xs : List A) (ys : List B) → length ys ≡ 0 → zip xs ys ≡ []
ended_right [] ys h = refl
ended_right (x ∷ xs) [] h = refl
ended_right (x ∷ xs) (y ∷ ys) h = absurd (omega arith)

pub zip_same : {A B : Type 0} {xs more : List A} {ys others : List B} → xs ≡ more → ys ≡ others → zip xs ys ≡ zip more others
zip_same e f j = zip (e j) (f j)

fails : (a b : Bool) → a ≡ false → (a && b) ≡ false
fails true b h = cc
fails false b h = refl

-- where the next pair fails, not all pass
pub next_fails : {A B : Type 0} (f : A × B → Bool) {xs more : List A} {ys others : List B} {x : A} {y : B} {all : Bool} → xs ≡ x ∷ more → ys ≡ y ∷ others
    → list_all f (zip xs ys) ≡ all → f (x, y) ≡ false → all ≡ false
next_fails f {more = more} {others = others} {x = x} {y = y} e g h k =
    sym h ∙ ap (list_all f) (zip_same e g) ∙ fails (f (x, y)) (list_all f (zip more others)) k

-- what was refused for want of memory or by a converter, where the test of the whole follows from that of the part
pub refused_with : (cause : Cause) {a b : Bool} → (cause ≡ Cause.OutOfMemory) ⊎ ((cause ≡ Cause.Persistence PersistenceFault.Converter) × (a ≡ false)) → (a ≡ false → b ≡ false)
    → (cause ≡ Cause.OutOfMemory) ⊎ ((cause ≡ Cause.Persistence PersistenceFault.Converter) × (b ≡ false))
refused_with cause h then = elim h [ inl memory ↦ inl memory | inr thrown ↦ inr (thrown.0, then thrown.1) ]

-- The lock of the entry at a place.
use Rattle.std.proofs.Common.{◌≡◌, ℕ, zero, suc, ◌<◌, List, [], ◌∷◌, ap, length, get_or, arith}
use Rattle.std.specs.Prelude.{slice_get}
use Rattle.jpa_work.specs.declared.context.Entry.{Entry}
use Rattle.jpa_operations.specs.ops.States.{lock_in}

pub lock_at : (es : List Entry) (i : ℕ) (e : Entry) → i < length es → e ≡ get_or es i e → e.lock ≡ lock_in (slice_get es i)
lock_at [] i e l read = absurd (omega arith)
lock_at (x ∷ es) zero e l read = ap (λ (y : Entry). y.lock) read
lock_at (x ∷ es) (suc i) e l read = lock_at es i e (omega (arith, l)) read

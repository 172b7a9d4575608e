-- What holds where an operation is done.
use Rattle.std.proofs.Common.{◌≡◌, Bool, true, false, Result, Ok, Err, refl, subst}
use Rattle.std.specs.Prelude.{OnOk}
use Rattle.jpa_value.specs.declared.refusal.Cause.{Cause}
use Rattle.jpa_work.specs.context.Steps.{Outcome, Done, Refused, Op, after, require, Meets}
use Rattle.jpa_work.specs.context.Work.{Work}

-- this holds of the work then
abbrev pub HoldsAfter : {A : Type 0} → (Work → Type 0) → Outcome A → Type 0
HoldsAfter P (Done a w) = P w
HoldsAfter P (Refused r events) = Unit {0}

pub after_holds : {A B : Type 0} (P Q : Work → Type 0) (o : Outcome A) (f : A → Op B) → HoldsAfter Q o → ((a : A) (w : Work) → Q w → HoldsAfter P (f a w)) → HoldsAfter P (after o f)
after_holds P Q (Done a w) f h k = k a w h
after_holds P Q (Refused r events) f h k = tt

pub require_holds : {B : Type 0} (P : Work → Type 0) (b : Bool) (r : Cause) (w : Work) (f : Unit {0} → Op B) → (b ≡ true → HoldsAfter P (f tt w)) → HoldsAfter P (after (require b r w) f)
require_holds P true r w f k = k refl
require_holds P false r w f k = tt

-- a requirement that is the last of an operation
pub require_holds_last : (P : Work → Type 0) (b : Bool) (r : Cause) (w : Work) → (b ≡ true → P w) → HoldsAfter P (require b r w)
require_holds_last P true r w k = k refl
require_holds_last P false r w k = tt

-- what is known where the operation is done
pub holds_where : {A : Type 0} (P : Work → Type 0) (o : Outcome A) → ((a : A) (v : Work) → o ≡ Done a v → P v) → HoldsAfter P o
holds_where P (Done a v) k = k a v refl
holds_where P (Refused r events) k = tt

-- and so of the work of code that met the operation
pub done_holds : {A : Type 0} (P : Work → Type 0) (o : Outcome A) (a : A) (v : Work) → o ≡ Done a v → HoldsAfter P o → P v
done_holds P o a v e h = subst (HoldsAfter P) e h

pub met_holds : {A : Type 0} (P : Work → Type 0) (r : Result A Cause) (v : Work) (o : Outcome A) → Meets r v o → HoldsAfter P o → OnOk r (P v)
met_holds P (Ok a) v o met h = done_holds P o a v met h
met_holds P (Err e) v o met h = tt

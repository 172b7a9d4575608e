-- Which replies tell no fault of the store.
use Rattle.std.proofs.Common.{◌≡◌, ◌⊎◌, inl, inr, ℕ, false, List, [], refl, ap, sym, subst}
use Rattle.std.specs.Prelude.{Result, Ok, Err, IfErr, if◌then◌else◌}
use Rattle.jpa_value.specs.declared.refusal.Cause.{Cause}
use Rattle.jpa_value.specs.declared.refusal.Refusal.{Refusal}
use Rattle.jpa_protocol.specs.declared.event.Told.{Told}
use Rattle.jpa_protocol.specs.declared.reply.Reply.{Reply}
use Rattle.jpa_rows.specs.rows.Faults.{one_more, faults_after}
use Rattle.jpa_work.specs.context.Work.{Work}
use Rattle.jpa_work.specs.context.Steps.{Outcome, IsRefusedAs, Meets}
use Rattle.jpa_machine.specs.machine.Faults.{is_store_fault, tells_fault, faults_after_reply}

-- an operation on a unit of work looks at no store
pub of_operation : {A : Type 0} (r : Cause) (events : List Told) (o : Outcome A) → IsRefusedAs r events o → is_store_fault r ≡ false
of_operation Cause.StoreFault events o h = absurd h
of_operation r events o h = refl

-- a reply that tells none leaves their number
pub none_more : (reply : Reply) (faults : ℕ) → tells_fault reply ≡ false → faults ≡ faults_after_reply reply faults
none_more reply faults h = ap (λ b. if b then one_more faults else faults) (sym h)

-- the store's answer, as it is told
abbrev IsToldSo : ℕ → Cause → Type 0
IsToldSo faults r = faults_after {T = Unit {0}} (Err r) faults ≡ faults_after_reply (record { events = []; answer = Err (Refusal.Because r) }) faults

pub as_told : (r : Cause) (faults : ℕ) → (r ≡ Cause.OutOfMemory) ⊎ (r ≡ Cause.StoreFault) → IsToldSo faults r
as_told r faults (inl h) = subst (IsToldSo faults) (sym h) refl
as_told r faults (inr h) = subst (IsToldSo faults) (sym h) refl

pub no_fault : {A : Type 0} (answered : Result A Cause) (w : Work) (o : Outcome A) → Meets answered w o → IfErr answered (λ r. is_store_fault r ≡ false)
no_fault (Ok a) w o h = tt
no_fault (Err r) w o h = of_operation r w.events o h

-- Which replies tell a fault of the store.
use Rattle.std.specs.Prelude.{ℕ, Bool, true, false, Result, Ok, Err, if◌then◌else◌}
use Rattle.jpa_value.specs.declared.refusal.Cause.{Cause}
use Rattle.jpa_value.specs.declared.refusal.Refusal.{Refusal}
use Rattle.jpa_protocol.specs.declared.reply.Answer.{Answer}
use Rattle.jpa_protocol.specs.declared.reply.Reply.{Reply}
use Rattle.jpa_rows.specs.rows.Faults.{one_more}

-- whether a cause is StoreFault
abbrev pub is_store_fault : Cause → Bool
is_store_fault Cause.StoreFault = true
is_store_fault _ = false

-- whether an answer is the refusal StoreFault
abbrev pub is_fault_told : Result Answer Refusal → Bool
is_fault_told (Ok answer) = false
is_fault_told (Err (Refusal.Because r)) = is_store_fault r
is_fault_told (Err (Refusal.Rollback r)) = false
is_fault_told (Err Refusal.RollbackMarked) = false

-- whether a reply tells a fault of the store
abbrev pub tells_fault : Reply → Bool
tells_fault reply = is_fault_told reply.answer

-- how many faults there are after a reply: a fault that is told is one more, and nothing else is
abbrev pub faults_after_reply : Reply → ℕ → ℕ
faults_after_reply reply faults = if tells_fault reply then one_more faults else faults

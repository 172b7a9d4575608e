-- The callbacks that a flush would run before it writes (Jakarta Persistence 3.1, chapters 3.2.4
-- flush, 3.5.2 life-cycle events; the call is this provider's own).
use Rattle.std.specs.Prelude.{ℕ, ℤ, Bool, true, false, ◌&&◌, nat_le, List, length, map, Option, Some, None, Result, Ok}
use Rattle.std.specs.Prelude.{Err, if◌then◌else◌}
use Rattle.std.specs.List.{filter}
use Rattle.jpa_value.specs.declared.event.LifecycleEvent.{LifecycleEvent}
use Rattle.jpa_value.specs.declared.refusal.Cause.{Cause}
use Rattle.jpa_behaviour.specs.Behaviour.{World}
use Rattle.jpa_work.specs.heap.Objects.{place_of}
use Rattle.jpa_work.specs.context.Steps.{Outcome, Done, Refused}
use Rattle.jpa_flush.specs.flush.Flush.{flush}
use Rattle.jpa_protocol.specs.declared.event.Told.{Told}
use Rattle.jpa_protocol.specs.declared.reply.Answer.{Answer}
use Rattle.jpa_protocol.specs.declared.reply.Due.{Due}
use Rattle.jpa_machine.specs.machine.Machine.{Machine, manager_at, has_transaction, work_of}

-- the events that were told, also before a refusal
abbrev pub events_of : Outcome (Unit {0}) → List Told
events_of (Done u w) = w.events
events_of (Refused r events) = events

-- whether an event comes before its write
abbrev pub is_before : LifecycleEvent → Bool
is_before LifecycleEvent.PrePersist = true
is_before LifecycleEvent.PreRemove = true
is_before LifecycleEvent.PreUpdate = true
is_before LifecycleEvent.PostPersist = false
is_before LifecycleEvent.PostRemove = false
is_before LifecycleEvent.PostUpdate = false
is_before LifecycleEvent.PostLoad = false

-- whether it is told: it comes before its write, to an object that stood there before the flush
abbrev pub is_due : ℕ → Told → Bool
is_due count t = is_before t.event && nat_le t.object count

-- an event without the names of those that ran
abbrev pub due : Told → Due
due t = record { event = t.event; object = t.object }

-- the events before their writes, of a flush of the manager that came now
abbrev pub due_in : World → Machine → ℕ → List Due
due_in world M m = map due (filter (is_due (length M.objects)) (events_of (flush world (work_of M m))))

-- they are told in an open transaction, else it is refused as flush is
abbrev pub pending_at : World → Machine → ℕ → Result Answer Cause
pending_at world M m = if has_transaction (manager_at M m) then Ok (Answer.Due (due_in world M m))
    else Err Cause.TransactionRequired

-- of a manager that is open, else NoSuchManager
abbrev pub pending_named : World → Machine → Option ℕ → Result Answer Cause
pending_named world M None = Err Cause.NoSuchManager
pending_named world M (Some m) = if (manager_at M m).is_open then pending_at world M m else Err Cause.NoSuchManager

-- the call pending: which callbacks a flush would run before it writes
abbrev pub pending : ℤ → World → Machine → Result Answer Cause
pending em world M = pending_named world M (place_of (length M.managers) em)

-- Objects that are removed, refreshed and detached, flushes before the commit, and a manager that is closed.
use Rattle.std.specs.Prelude.{codes, ◌≡◌, refl, pos, true, false, List, [], ◌∷◌}
use Rattle.jpa_value.specs.declared.value.Value.{Value}
use Rattle.jpa_value.specs.declared.refusal.Cause.{Cause}
use Rattle.jpa_value.specs.declared.refusal.Argument.{Argument}
use Rattle.jpa_value.specs.declared.refusal.State.{State}
use Rattle.jpa_value.specs.declared.refusal.Refusal.{Refusal}
use Rattle.jpa_value.specs.declared.event.LifecycleEvent.{LifecycleEvent}
use Rattle.jpa_rows.specs.rows.Cells.{Cell}
use Rattle.jpa_protocol.specs.declared.call.Call.{Call}
use Rattle.jpa_protocol.specs.declared.event.Told.{Told}
use Rattle.jpa_protocol.specs.declared.reply.Answer.{Answer}
use Rattle.jpa_protocol.specs.declared.reply.Reply.{Reply}
use Rattle.jpa_machine.specs.machine.Machine.{Machine}
use Rattle.jpa_machine.specs.machine.Step.{replies_of, machine_after}
use Rattle.jpa_machine.proofs.samples.Sample.{P1, text, int, saw, ok, quiet, no}
use Rattle.jpa_machine.proofs.samples.FirstRun.{after_first, cells_of, key_one, person_cells}

abbrev find_one : Call
find_one = Call.Find (pos 1) (codes "Person") (int 1 ∷ [])

abbrev told : LifecycleEvent → List Told
told event = saw event 1 ∷ []

abbrev is : List Told → Reply
is events = ok events Answer.Null

abbrev wrong : Argument → Reply
wrong a = no [] (Refusal.Because (Cause.IllegalArgument a))

abbrev named : Answer
named = Answer.Value (Value.Text (codes "Ada"))

-- ---- remove

-- a removed object is in no context, before its row leaves and afterwards; it is detached once that is committed
abbrev pub removing : List Call
removing =
    Call.Begin (pos 1) ∷ Call.Remove (pos 1) (pos 1) ∷ Call.Contains (pos 1) (pos 1) ∷ find_one ∷ Call.Remove (pos 1) (pos 1) ∷ Call.Flush (pos 1)
    ∷ Call.Contains (pos 1) (pos 1) ∷ find_one ∷ Call.Commit (pos 1) ∷ find_one ∷ Call.Remove (pos 1) (pos 1) ∷ Call.Get (pos 1) (codes "name") ∷ []

removing_replies : replies_of P1 after_first removing ≡
    quiet ∷ is (told LifecycleEvent.PreRemove) ∷ ok [] (Answer.Truth false) ∷ quiet ∷ quiet ∷ is (told LifecycleEvent.PostRemove)
    ∷ ok [] (Answer.Truth false) ∷ quiet ∷ quiet ∷ quiet ∷ wrong Argument.State ∷ ok [] named ∷ []
removing_replies = refl

-- the next number stays, so that no key is given again
abbrev number_cells : List Cell
number_cells = record { table = 0; row = key_one; column = pos 0; bytes = 1 ∷ 128 ∷ 0 ∷ 0 ∷ 0 ∷ 0 ∷ 0 ∷ 0 ∷ 2 ∷ [] } ∷ []

removing_cells : cells_of (machine_after P1 after_first removing) ≡ number_cells
removing_cells = refl

-- a new object is as it was; a rollback leaves the row of a removed one, which is detached
removed_back : replies_of P1 after_first
    (Call.NewObject (codes "Person") ∷ Call.Remove (pos 1) (pos 2) ∷ Call.Begin (pos 1) ∷ Call.Remove (pos 1) (pos 1) ∷ Call.Flush (pos 1) ∷ Call.Rollback (pos 1) ∷ find_one ∷ []) ≡
    ok [] (Answer.Object 2) ∷ quiet ∷ quiet ∷ is (told LifecycleEvent.PreRemove) ∷ is (told LifecycleEvent.PostRemove) ∷ quiet ∷ ok (saw LifecycleEvent.PostLoad 3 ∷ []) (Answer.Object 3) ∷ []
removed_back = refl

-- ---- a removed object that becomes managed again

-- before its row left: nothing is written
revived : replies_of P1 after_first
    (Call.Begin (pos 1) ∷ Call.Remove (pos 1) (pos 1) ∷ Call.Persist (pos 1) (pos 1) ∷ Call.Contains (pos 1) (pos 1) ∷ Call.Commit (pos 1) ∷ find_one ∷ []) ≡
    quiet ∷ is (told LifecycleEvent.PreRemove) ∷ quiet ∷ ok [] (Answer.Truth true) ∷ quiet ∷ ok [] (Answer.Object 1) ∷ []
revived = refl

-- afterwards: it is inserted, under its key
abbrev pub reviving : List Call
reviving = Call.Begin (pos 1) ∷ Call.Remove (pos 1) (pos 1) ∷ Call.Flush (pos 1) ∷ Call.Persist (pos 1) (pos 1) ∷ Call.Commit (pos 1) ∷ find_one ∷ []

reviving_replies : replies_of P1 after_first reviving ≡
    quiet ∷ is (told LifecycleEvent.PreRemove) ∷ is (told LifecycleEvent.PostRemove) ∷ is (told LifecycleEvent.PrePersist) ∷ is (told LifecycleEvent.PostPersist) ∷ ok [] (Answer.Object 1) ∷ []
reviving_replies = refl

reviving_cells : cells_of (machine_after P1 after_first reviving) ≡ person_cells 0 (codes "Ada")
reviving_cells = refl

-- ---- flush

-- what is written is written once, and each change raises the version; a rollback leaves what was committed
abbrev flushing : List Call
flushing =
    Call.Begin (pos 1) ∷ Call.SetValue (pos 1) (codes "name") (text (codes "Bob")) ∷ Call.Flush (pos 1) ∷ Call.Flush (pos 1) ∷ Call.SetValue (pos 1) (codes "name") (text (codes "Cy"))
    ∷ Call.Flush (pos 1) ∷ Call.Get (pos 1) (codes "version") ∷ []

abbrev after_flushing : Machine
after_flushing = machine_after P1 after_first flushing

abbrev updated : Reply
updated = is (saw LifecycleEvent.PreUpdate 1 ∷ saw LifecycleEvent.PostUpdate 1 ∷ [])

flushing_replies : replies_of P1 after_first flushing ≡ quiet ∷ quiet ∷ updated ∷ quiet ∷ quiet ∷ updated ∷ ok [] (Answer.Value (Value.Int (pos 2))) ∷ []
flushing_replies = refl

flushed_back : replies_of P1 after_flushing (Call.Rollback (pos 1) ∷ find_one ∷ Call.Get (pos 2) (codes "name") ∷ Call.Get (pos 1) (codes "name") ∷ []) ≡
    quiet ∷ ok (saw LifecycleEvent.PostLoad 2 ∷ []) (Answer.Object 2) ∷ ok [] named ∷ ok [] (Answer.Value (Value.Text (codes "Cy"))) ∷ []
flushed_back = refl

uncommitted_cells : cells_of after_flushing ≡ person_cells 0 (codes "Ada")
uncommitted_cells = refl

committed_cells : cells_of (machine_after P1 after_flushing (Call.Commit (pos 1) ∷ [])) ≡ person_cells 2 (codes "Cy")
committed_cells = refl

-- only in a transaction
no_transaction : replies_of P1 after_first (Call.Flush (pos 1) ∷ Call.Flush (pos 2) ∷ []) ≡ no [] (Refusal.Because Cause.TransactionRequired) ∷ no [] (Refusal.Because Cause.NoSuchManager) ∷ []
no_transaction = refl

-- ---- refresh and detach

-- the state of the row comes back, and what is not managed cannot be refreshed
refreshed : replies_of P1 after_first
    (Call.SetValue (pos 1) (codes "name") (text (codes "Bob")) ∷ Call.Refresh (pos 1) (pos 1) ∷ Call.Get (pos 1) (codes "name") ∷ Call.Remove (pos 1) (pos 1) ∷ Call.Refresh (pos 1) (pos 1) ∷ []) ≡
    quiet ∷ is (told LifecycleEvent.PostLoad) ∷ ok [] named ∷ is (told LifecycleEvent.PreRemove) ∷ wrong Argument.State ∷ []
refreshed = refl

-- an object that was not written has no row
unfound : replies_of P1 after_first (Call.NewObject (codes "Person") ∷ Call.Persist (pos 1) (pos 2) ∷ Call.Refresh (pos 1) (pos 2) ∷ []) ≡
    ok [] (Answer.Object 2) ∷ is (saw LifecycleEvent.PrePersist 2 ∷ []) ∷ no [] (Refusal.Because Cause.EntityNotFound) ∷ []
unfound = refl

-- a detached object keeps its state, and its identity is found as another one
detached : replies_of P1 after_first
    (Call.SetValue (pos 1) (codes "name") (text (codes "Bob")) ∷ Call.Detach (pos 1) (pos 1) ∷ Call.Detach (pos 1) (pos 1) ∷ Call.Contains (pos 1) (pos 1) ∷ Call.Get (pos 1) (codes "name")
    ∷ find_one ∷ Call.Get (pos 2) (codes "name") ∷ Call.Persist (pos 1) (pos 1) ∷ []) ≡
    quiet ∷ quiet ∷ quiet ∷ ok [] (Answer.Truth false) ∷ ok [] (Answer.Value (Value.Text (codes "Bob")))
    ∷ ok (saw LifecycleEvent.PostLoad 2 ∷ []) (Answer.Object 2) ∷ ok [] named ∷ no [] (Refusal.Because Cause.EntityExists) ∷ []
detached = refl

-- ---- close

-- not while a transaction is open; its number names no manager then, and its objects are detached
closed : replies_of P1 after_first
    (Call.Begin (pos 1) ∷ Call.Close (pos 1) ∷ Call.Commit (pos 1) ∷ Call.Close (pos 1) ∷ Call.Close (pos 1) ∷ find_one ∷ Call.Get (pos 1) (codes "name") ∷ Call.CreateEntityManager
    ∷ Call.Refresh (pos 2) (pos 1) ∷ []) ≡
    quiet ∷ no [] (Refusal.Because (Cause.IllegalState State.Active)) ∷ quiet ∷ quiet ∷ no [] (Refusal.Because Cause.NoSuchManager) ∷ no [] (Refusal.Because Cause.NoSuchManager)
    ∷ ok [] named ∷ ok [] (Answer.Number 2) ∷ wrong Argument.State ∷ []
closed = refl

-- The calls that are this provider's own: what objects hold, which callbacks a flush would run, a restart, and what may be looked up.
use Rattle.std.specs.Prelude.{codes, ◌≡◌, refl, pos, List, [], ◌∷◌}
use Rattle.jpa_value.specs.declared.value.Value.{Value}
use Rattle.jpa_value.specs.declared.refusal.Argument.{Argument}
use Rattle.jpa_value.specs.declared.refusal.Cause.{Cause}
use Rattle.jpa_value.specs.declared.refusal.Refusal.{Refusal}
use Rattle.jpa_value.specs.declared.refusal.State.{State}
use Rattle.jpa_value.specs.declared.event.LifecycleEvent.{LifecycleEvent}
use Rattle.jpa_protocol.specs.declared.call.Call.{Call}
use Rattle.jpa_protocol.specs.declared.call.Given.{Given}
use Rattle.jpa_protocol.specs.declared.reply.Answer.{Answer}
use Rattle.jpa_protocol.specs.declared.reply.Due.{Due}
use Rattle.jpa_protocol.specs.declared.reply.Reached.{Reached}
use Rattle.jpa_protocol.specs.declared.reply.Reply.{Reply}
use Rattle.jpa_machine.specs.machine.Machine.{Machine, opened}
use Rattle.jpa_machine.specs.machine.Step.{replies_of, machine_after}
use Rattle.jpa_machine.proofs.samples.Sample.{P1, P, text, int, saw, ok, quiet, no}
use Rattle.jpa_machine.proofs.samples.FirstRun.{after_first}

abbrev refused : Cause → Reply
refused cause = no [] (Refusal.Because cause)

-- ---- values

abbrev order_and_person : List Call
order_and_person =
    Call.CreateEntityManager ∷ Call.NewObject (codes "Person") ∷ Call.NewObject (codes "Order") ∷ Call.SetValue (pos 2) (codes "number") (int 10) ∷ Call.SetValue (pos 2) (codes "amount") (int 5)
    ∷ Call.SetValue (pos 2) (codes "person") (Given.Object (pos 1)) ∷ Call.Add (pos 1) (codes "orders") (pos 2) ∷ []

abbrev made : Machine
made = machine_after P (opened [] (1 ∷ 1 ∷ [])) order_and_person

-- a new object has no key, and its collection is read
new_values : replies_of P made (Call.Values (pos 2 ∷ pos 1 ∷ []) ∷ Call.Values [] ∷ Call.Values (pos 1 ∷ pos 3 ∷ []) ∷ []) ≡
    ok [] (Answer.Shown (
    record { entity = codes "Order"; relations = Reached.Object 1 ∷ []; values = Value.Int (pos 10) ∷ Value.Int (pos 5) ∷ [] }
    ∷ record { entity = codes "Person"; relations = Reached.Objects (2 ∷ []) ∷ []; values = Value.Null ∷ Value.Null ∷ Value.Null ∷ [] } ∷ []))
    ∷ ok [] (Answer.Shown []) ∷ refused Cause.NoSuchObject ∷ []
new_values = refl

abbrev stored : Machine
stored = machine_after P made (Call.Begin (pos 1) ∷ Call.Persist (pos 1) (pos 1) ∷ Call.Commit (pos 1) ∷ Call.CreateEntityManager ∷ [])

-- a link is its key until it is read, also where the object that it names is there; and what is shown stays unread
read_values : replies_of P stored (Call.Find (pos 2) (codes "Order") (int 10 ∷ []) ∷ Call.Find (pos 2) (codes "Person") (int 1 ∷ []) ∷ Call.Values (pos 3 ∷ pos 4 ∷ pos 3 ∷ []) ∷ Call.Values (pos 4 ∷ []) ∷ []) ≡
    ok (saw LifecycleEvent.PostLoad 3 ∷ []) (Answer.Object 3) ∷ ok (saw LifecycleEvent.PostLoad 4 ∷ []) (Answer.Object 4)
    ∷ ok [] (Answer.Shown (
    record { entity = codes "Order"; relations = Reached.Key (Value.Int (pos 1) ∷ []) ∷ []; values = Value.Int (pos 10) ∷ Value.Int (pos 5) ∷ [] }
    ∷ record { entity = codes "Person"; relations = Reached.Unread ∷ []; values = Value.Int (pos 1) ∷ Value.Int (pos 0) ∷ Value.Null ∷ [] }
    ∷ record { entity = codes "Order"; relations = Reached.Key (Value.Int (pos 1) ∷ []) ∷ []; values = Value.Int (pos 10) ∷ Value.Int (pos 5) ∷ [] } ∷ []))
    ∷ ok [] (Answer.Shown (record { entity = codes "Person"; relations = Reached.Unread ∷ []; values = Value.Int (pos 1) ∷ Value.Int (pos 0) ∷ Value.Null ∷ [] } ∷ [])) ∷ []
read_values = refl

-- ---- pending

abbrev due : LifecycleEvent → Due
due event = record { event = event; object = 1 }

-- asked twice it tells the same, nothing of it stays, and the commit still tells it
pending_update : replies_of P1 after_first
    (Call.Pending (pos 1) ∷ Call.Pending (pos 2) ∷ Call.Begin (pos 1) ∷ Call.Pending (pos 1) ∷ Call.SetValue (pos 1) (codes "name") (text (codes "Bob")) ∷ Call.Pending (pos 1) ∷ Call.Pending (pos 1) ∷ Call.Values (pos 1 ∷ []) ∷ Call.Commit (pos 1)
    ∷ []) ≡
    refused Cause.TransactionRequired ∷ refused Cause.NoSuchManager ∷ quiet ∷ ok [] (Answer.Due []) ∷ quiet ∷ ok [] (Answer.Due (due LifecycleEvent.PreUpdate ∷ [])) ∷ ok [] (Answer.Due (due LifecycleEvent.PreUpdate ∷ []))
    ∷ ok [] (Answer.Shown (record { entity = codes "Person"; relations = []; values = Value.Int (pos 1) ∷ Value.Int (pos 0) ∷ Value.Text (codes "Bob") ∷ [] } ∷ []))
    ∷ ok (saw LifecycleEvent.PreUpdate 1 ∷ saw LifecycleEvent.PostUpdate 1 ∷ []) Answer.Null ∷ []
pending_update = refl

-- what persist told in its own reply doesn't come again; what the flush persists along a cascade comes
abbrev again : List Call
again =
    Call.NewObject (codes "Order") ∷ Call.SetValue (pos 3) (codes "number") (int 11) ∷ Call.SetValue (pos 3) (codes "person") (Given.Object (pos 1)) ∷ Call.Add (pos 1) (codes "orders") (pos 3)
    ∷ Call.Begin (pos 1) ∷ Call.Pending (pos 1) ∷ Call.Persist (pos 1) (pos 3) ∷ Call.Pending (pos 1) ∷ Call.Commit (pos 1) ∷ []

pending_cascade : replies_of P stored again ≡
    ok [] (Answer.Object 3) ∷ quiet ∷ quiet ∷ quiet ∷ quiet ∷ ok [] (Answer.Due (record { event = LifecycleEvent.PrePersist; object = 3 } ∷ [])) ∷ ok (saw LifecycleEvent.PrePersist 3 ∷ []) Answer.Null ∷ ok [] (Answer.Due [])
    ∷ ok (saw LifecycleEvent.PostPersist 3 ∷ []) Answer.Null ∷ []
pending_cascade = refl

-- ---- restart

-- not while a transaction is open; then numbers are from 1 again, and the next key is one that was never given
restarting : replies_of P1 after_first
    (Call.Begin (pos 1) ∷ Call.Restart ∷ Call.Rollback (pos 1) ∷ Call.Restart ∷ Call.Get (pos 1) (codes "name") ∷ Call.Begin (pos 1) ∷ Call.CreateEntityManager ∷ Call.NewObject (codes "Person")
    ∷ Call.Begin (pos 1) ∷ Call.Persist (pos 1) (pos 1) ∷ Call.Commit (pos 1) ∷ Call.Find (pos 1) (codes "Person") (int 2 ∷ []) ∷ Call.Find (pos 1) (codes "Person") (int 1 ∷ []) ∷ Call.Get (pos 2) (codes "name") ∷ []) ≡
    quiet ∷ refused (Cause.IllegalState State.Active) ∷ quiet ∷ quiet ∷ refused Cause.NoSuchObject ∷ refused Cause.NoSuchManager ∷ ok [] (Answer.Number 1) ∷ ok [] (Answer.Object 1)
    ∷ quiet ∷ ok (saw LifecycleEvent.PrePersist 1 ∷ []) Answer.Null ∷ ok (saw LifecycleEvent.PostPersist 1 ∷ []) Answer.Null ∷ ok [] (Answer.Object 1) ∷ ok (saw LifecycleEvent.PostLoad 2 ∷ []) (Answer.Object 2)
    ∷ ok [] (Answer.Value (Value.Text (codes "Ada"))) ∷ []
restarting = refl

-- ---- index

indexing : replies_of P (opened [] (1 ∷ 1 ∷ []))
    (Call.Index (codes "Person") (codes "name") ∷ Call.Index (codes "Person") (codes "id") ∷ Call.Index (codes "Person") (codes "name") ∷ Call.Index (codes "Person") (codes "version")
    ∷ Call.Index (codes "Order") (codes "person") ∷ Call.Index (codes "Order") (codes "age") ∷ Call.Index (codes "Nobody") (codes "name") ∷ []) ≡
    quiet ∷ quiet ∷ quiet ∷ refused (Cause.IllegalArgument Argument.Name) ∷ refused (Cause.IllegalArgument Argument.Name) ∷ refused (Cause.IllegalArgument Argument.Name) ∷ refused (Cause.IllegalArgument Argument.Entity) ∷ []
indexing = refl

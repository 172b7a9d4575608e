-- Orphans: an order that leaves its person's collection is removed by the next flush, whether or not the context has it.
use Rattle.std.specs.Prelude.{codes, ◌≡◌, refl, ℕ, pos, true, false, List, [], ◌∷◌, ◌++◌}
use Rattle.jpa_value.specs.declared.event.LifecycleEvent.{LifecycleEvent}
use Rattle.jpa_protocol.specs.declared.call.Call.{Call}
use Rattle.jpa_protocol.specs.declared.call.Given.{Given}
use Rattle.jpa_protocol.specs.declared.event.Told.{Told}
use Rattle.jpa_protocol.specs.declared.reply.Answer.{Answer}
use Rattle.jpa_protocol.specs.declared.reply.Reply.{Reply}
use Rattle.jpa_machine.specs.machine.Machine.{Machine, opened}
use Rattle.jpa_machine.specs.machine.Step.{replies_of, machine_after}
use Rattle.jpa_machine.proofs.samples.Sample.{P, int, saw, ok, quiet}

abbrev new_order : ℕ → ℕ → List Call
new_order object number =
    Call.NewObject (codes "Order") ∷ Call.SetValue (pos object) (codes "number") (int number) ∷ Call.SetValue (pos object) (codes "amount") (int 5)
    ∷ Call.SetValue (pos object) (codes "person") (Given.Object (pos 1)) ∷ Call.Add (pos 1) (codes "orders") (pos object) ∷ []

-- a person with two orders
abbrev weaving : List Call
weaving =
    Call.CreateEntityManager ∷ Call.NewObject (codes "Person") ∷ new_order 2 10 ++ new_order 3 11 ++ Call.Begin (pos 1) ∷ Call.Persist (pos 1) (pos 1) ∷ Call.Commit (pos 1) ∷ []

abbrev woven : Machine
woven = machine_after P (opened [] (1 ∷ 1 ∷ [])) weaving

abbrev take_out : ℕ → ℕ → Call
take_out object member = Call.TakeOut (pos object) (codes "orders") (pos member)

abbrev orders_of : ℕ → Call
orders_of object = Call.Get (pos object) (codes "orders")

abbrev tells : List Told → Reply
tells events = ok events Answer.Null

abbrev reading : List Call
reading = Call.Clear (pos 1) ∷ Call.Find (pos 1) (codes "Person") (int 1 ∷ []) ∷ []

abbrev read : List Reply
read = quiet ∷ ok (saw LifecycleEvent.PostLoad 4 ∷ []) (Answer.Object 4) ∷ []

-- ---- an order of the context

leaving : replies_of P woven (Call.Begin (pos 1) ∷ take_out 1 2 ∷ Call.Flush (pos 1) ∷ Call.Contains (pos 1) (pos 2) ∷ Call.Flush (pos 1) ∷ []) ≡
    quiet ∷ ok [] (Answer.Truth true)
    ∷ tells (saw LifecycleEvent.PreRemove 2 ∷ saw LifecycleEvent.PostRemove 2 ∷ [])
    ∷ ok [] (Answer.Truth false) ∷ quiet ∷ []
leaving = refl

-- ---- one that the context doesn't have any more is loaded

detached : replies_of P woven (reading ++ orders_of 4 ∷ Call.Begin (pos 1) ∷ Call.Detach (pos 1) (pos 5) ∷ take_out 4 5 ∷ Call.Commit (pos 1) ∷ []) ≡
    read
    ++ ok (saw LifecycleEvent.PostLoad 5 ∷ saw LifecycleEvent.PostLoad 6 ∷ []) (Answer.Objects (5 ∷ 6 ∷ []))
    ∷ quiet ∷ quiet ∷ ok [] (Answer.Truth true)
    ∷ tells (saw LifecycleEvent.PostLoad 7 ∷ saw LifecycleEvent.PreRemove 7 ∷ saw LifecycleEvent.PostRemove 7 ∷ []) ∷ []
detached = refl

-- ---- one that comes back before the flush is none

returning : replies_of P woven (Call.Begin (pos 1) ∷ take_out 1 2 ∷ Call.Add (pos 1) (codes "orders") (pos 2) ∷ Call.Commit (pos 1) ∷ []) ≡ quiet ∷ ok [] (Answer.Truth true) ∷ quiet ∷ quiet ∷ []
returning = refl

-- ---- and what was not read leaves nothing

unread : replies_of P woven (reading ++ Call.Begin (pos 1) ∷ Call.Commit (pos 1) ∷ []) ≡ read ++ quiet ∷ quiet ∷ []
unread = refl

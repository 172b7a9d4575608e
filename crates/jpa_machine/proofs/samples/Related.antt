-- Persons with their orders: collections and links, cascades, and what is read when it is asked for.
use Rattle.std.specs.Prelude.{codes, ◌≡◌, refl, ℕ, pos, true, false, None, List, [], ◌∷◌, ◌++◌}
use Rattle.jpa_value.specs.declared.refusal.Cause.{Cause}
use Rattle.jpa_value.specs.declared.refusal.Refusal.{Refusal}
use Rattle.jpa_value.specs.declared.refusal.State.{State}
use Rattle.jpa_value.specs.declared.event.LifecycleEvent.{LifecycleEvent}
use Rattle.jpa_model.specs.declared.unit.Relation.{Relation}
use Rattle.jpa_model.specs.Chains.{no_cascade}
use Rattle.jpa_behaviour.specs.Behaviour.{World}
use Rattle.jpa_protocol.specs.declared.call.Call.{Call}
use Rattle.jpa_protocol.specs.declared.call.Given.{Given}
use Rattle.jpa_protocol.specs.declared.event.Told.{Told}
use Rattle.jpa_protocol.specs.declared.reply.Answer.{Answer}
use Rattle.jpa_protocol.specs.declared.reply.Reply.{Reply}
use Rattle.jpa_machine.specs.machine.Machine.{Machine, opened}
use Rattle.jpa_machine.specs.machine.Step.{replies_of, machine_after}
use Rattle.jpa_machine.proofs.samples.Sample.{person_entity, order_entity, name_attribute, amount_attribute, orders_relation, person_relation, world_of, P, int, saw, ok, quiet, no}

-- orders go with their person, but for orphans
abbrev orders : Relation
orders = record orders_relation { orphan_removal = false }

abbrev PO : World
PO = world_of (person_entity (name_attribute None ∷ []) (orders ∷ []) [] ∷ order_entity (amount_attribute None ∷ []) (person_relation no_cascade ∷ []) ∷ [])

abbrev fresh : Machine
fresh = opened [] (1 ∷ 1 ∷ [])

-- ---- in words

abbrev new_order : ℕ → ℕ → ℕ → List Call
new_order object number amount =
    Call.NewObject (codes "Order") ∷ Call.SetValue (pos object) (codes "number") (int number) ∷ Call.SetValue (pos object) (codes "amount") (int amount)
    ∷ Call.SetValue (pos object) (codes "person") (Given.Object (pos 1)) ∷ []

abbrev made : ℕ → List Reply
made object = ok [] (Answer.Object object) ∷ quiet ∷ quiet ∷ quiet ∷ []

abbrev add : ℕ → Call
add member = Call.Add (pos 1) (codes "orders") (pos member)

abbrev orders_of : ℕ → Call
orders_of object = Call.Get (pos object) (codes "orders")

abbrev person : ℕ → Call
person id = Call.Find (pos 1) (codes "Person") (int id ∷ [])

abbrev tells : List Told → Reply
tells events = ok events Answer.Null

-- ---- persisting goes along the orders, wave after wave, and each comes once

abbrev weaving : List Call
weaving =
    Call.CreateEntityManager ∷ Call.NewObject (codes "Person") ∷ new_order 2 10 5 ++ new_order 3 11 7
    ++ add 2 ∷ add 3 ∷ add 2 ∷ Call.Begin (pos 1) ∷ Call.Persist (pos 1) (pos 1) ∷ Call.Commit (pos 1) ∷ orders_of 1 ∷ []

weaving_replies : replies_of PO fresh weaving ≡
    ok [] (Answer.Number 1) ∷ ok [] (Answer.Object 1) ∷ made 2 ++ made 3
    ++ quiet ∷ quiet ∷ quiet ∷ quiet
    ∷ tells (saw LifecycleEvent.PrePersist 1 ∷ saw LifecycleEvent.PrePersist 2 ∷ saw LifecycleEvent.PrePersist 3 ∷ [])
    ∷ tells (saw LifecycleEvent.PostPersist 1 ∷ saw LifecycleEvent.PostPersist 2 ∷ saw LifecycleEvent.PostPersist 3 ∷ [])
    ∷ ok [] (Answer.Objects (2 ∷ 3 ∷ 2 ∷ [])) ∷ []
weaving_replies = refl

abbrev woven : Machine
woven = machine_after PO fresh weaving

-- ---- refreshing visits each order once, and a collection is read anew in the order of identities

refreshing : replies_of PO woven (Call.Refresh (pos 1) (pos 1) ∷ orders_of 1 ∷ []) ≡
    tells (saw LifecycleEvent.PostLoad 1 ∷ saw LifecycleEvent.PostLoad 2 ∷ saw LifecycleEvent.PostLoad 3 ∷ []) ∷ ok [] (Answer.Objects (2 ∷ 3 ∷ [])) ∷ []
refreshing = refl

-- ---- a removed order is managed again where the flush comes to it along a cascade

reviving : replies_of PO woven
    (Call.Begin (pos 1) ∷ Call.Remove (pos 1) (pos 2) ∷ Call.Flush (pos 1) ∷ Call.Contains (pos 1) (pos 2) ∷ []) ≡
    quiet ∷ tells (saw LifecycleEvent.PreRemove 2 ∷ []) ∷ quiet ∷ ok [] (Answer.Truth true) ∷ []
reviving = refl

-- ---- removing goes along what was not read, which is loaded

removing : replies_of PO woven
    (Call.Clear (pos 1) ∷ person 1 ∷ Call.Begin (pos 1) ∷ Call.Remove (pos 1) (pos 4) ∷ Call.Commit (pos 1) ∷ []) ≡
    quiet ∷ ok (saw LifecycleEvent.PostLoad 4 ∷ []) (Answer.Object 4) ∷ quiet
    ∷ tells (saw LifecycleEvent.PreRemove 4 ∷ saw LifecycleEvent.PostLoad 5 ∷ saw LifecycleEvent.PreRemove 5 ∷ saw LifecycleEvent.PostLoad 6 ∷ saw LifecycleEvent.PreRemove 6 ∷ [])
    ∷ tells (saw LifecycleEvent.PostRemove 4 ∷ saw LifecycleEvent.PostRemove 5 ∷ saw LifecycleEvent.PostRemove 6 ∷ []) ∷ []
removing = refl

-- ---- what a detached object did not read stays unread

detaching : replies_of PO woven
    (Call.Clear (pos 1) ∷ person 1 ∷ Call.Detach (pos 1) (pos 4) ∷ orders_of 4 ∷ []) ≡
    quiet ∷ ok (saw LifecycleEvent.PostLoad 4 ∷ []) (Answer.Object 4) ∷ quiet ∷ no [] (Refusal.Because (Cause.IllegalState State.Unfetched)) ∷ []
detaching = refl

-- ---- an order that is taken out of its person's is removed where the relation removes orphans

orphaning : replies_of P (machine_after P fresh weaving)
    (Call.TakeOut (pos 1) (codes "orders") (pos 2) ∷ Call.TakeOut (pos 1) (codes "orders") (pos 2) ∷ Call.Begin (pos 1) ∷ Call.Flush (pos 1)
    ∷ Call.Find (pos 1) (codes "Order") (int 10 ∷ []) ∷ Call.Commit (pos 1) ∷ Call.Contains (pos 1) (pos 2) ∷ Call.TakeOut (pos 1) (codes "orders") (pos 2) ∷ []) ≡
    ok [] (Answer.Truth true) ∷ ok [] (Answer.Truth true) ∷ quiet ∷ tells (saw LifecycleEvent.PreRemove 2 ∷ saw LifecycleEvent.PostRemove 2 ∷ [])
    ∷ quiet ∷ quiet ∷ ok [] (Answer.Truth false) ∷ ok [] (Answer.Truth false) ∷ []
orphaning = refl

-- Two managers, and limits.
use Rattle.std.specs.Prelude.{codes, replicate, ◌≡◌, refl, pos, Some, List, [], ◌∷◌, ◌++◌}
use Rattle.jpa_value.specs.declared.value.Value.{Value}
use Rattle.jpa_value.specs.declared.refusal.Cause.{Cause}
use Rattle.jpa_value.specs.declared.refusal.Argument.{Argument}
use Rattle.jpa_value.specs.declared.refusal.State.{State}
use Rattle.jpa_value.specs.declared.refusal.PersistenceFault.{PersistenceFault}
use Rattle.jpa_value.specs.declared.refusal.Refusal.{Refusal}
use Rattle.jpa_value.specs.declared.event.LifecycleEvent.{LifecycleEvent}
use Rattle.jpa_stored.specs.objects.Sets.{StoredSet}
use Rattle.jpa_protocol.specs.declared.call.Call.{Call}
use Rattle.jpa_protocol.specs.declared.reply.Answer.{Answer}
use Rattle.jpa_machine.specs.machine.Machine.{Machine, opened, new_manager}
use Rattle.jpa_machine.specs.machine.Step.{replies_of, machine_after, outcome}
use Rattle.jpa_machine.specs.machine.Left.{LivesAsBefore, HoldsSameValues}
use Rattle.jpa_machine.proofs.samples.Sample.{P1, flat, text, int, saw, ok, quiet, no}
use Rattle.jpa_machine.proofs.samples.FirstRun.{fresh, after_first}

-- manager 2 changes the person that manager 1 holds
abbrev changed_by_two : List Call
changed_by_two =
    Call.Find (pos 2) (codes "Person") (int 1 ∷ []) ∷ Call.SetValue (pos 2) (codes "name") (text (codes "Bob")) ∷ Call.Begin (pos 2) ∷ Call.Commit (pos 2) ∷ []

-- one more manager beside those of a machine
abbrev beside : Machine → Machine
beside M = record M { managers = M.managers ++ new_manager ∷ [] }

changed_replies : replies_of P1 (beside after_first) changed_by_two ≡
    ok (saw LifecycleEvent.PostLoad 2 ∷ []) (Answer.Object 2) ∷ quiet ∷ quiet
    ∷ ok (saw LifecycleEvent.PreUpdate 2 ∷ saw LifecycleEvent.PostUpdate 2 ∷ []) Answer.Null ∷ []
changed_replies = refl

-- a change of what is old rolls back, and detaches: found again, it is another object
stale : replies_of P1 (machine_after P1 (beside after_first) changed_by_two)
    (Call.SetValue (pos 1) (codes "name") (text (codes "Cy")) ∷ Call.Begin (pos 1) ∷ Call.Commit (pos 1) ∷ Call.Find (pos 1) (codes "Person") (int 1 ∷ []) ∷ []) ≡
    quiet ∷ quiet ∷ no (saw LifecycleEvent.PreUpdate 1 ∷ []) (Refusal.Rollback Cause.OptimisticLock) ∷ ok (saw LifecycleEvent.PostLoad 3 ∷ []) (Answer.Object 3) ∷ []
stale = refl

-- a rollback detaches objects with their values, and a refusal that marks the transaction changes nothing else
abbrev in_transaction : Machine
in_transaction = machine_after P1 after_first (Call.Begin (pos 1) ∷ [])

values_stay : HoldsSameValues in_transaction (outcome P1 in_transaction (Call.Rollback (pos 1))).1
values_stay = record { objects = refl; numbers = refl }

marked_alone : LivesAsBefore in_transaction (outcome P1 in_transaction (Call.Find (pos 1) (codes "Nobody") [])).1
marked_alone = record { objects = refl; managers = refl; numbers = refl }

-- what is old but unchanged commits
unchanged : replies_of P1 (machine_after P1 (beside after_first) changed_by_two) (Call.Begin (pos 1) ∷ Call.Commit (pos 1) ∷ Call.Find (pos 1) (codes "Person") (int 1 ∷ []) ∷ []) ≡
    quiet ∷ quiet ∷ ok [] (Answer.Object 1) ∷ []
unchanged = refl

-- an identity that is stored already
abbrev flat_fresh : Machine
flat_fresh = opened [] (1 ∷ 1 ∷ [])

abbrev one_order : List Call
one_order =
    Call.CreateEntityManager ∷ Call.NewObject (codes "Order") ∷ Call.SetValue (pos 1) (codes "number") (int 10) ∷ Call.Begin (pos 1) ∷ Call.Persist (pos 1) (pos 1) ∷ Call.Commit (pos 1) ∷ []

duplicate : replies_of flat (beside (machine_after flat flat_fresh one_order))
    (Call.NewObject (codes "Order") ∷ Call.SetValue (pos 2) (codes "number") (int 10) ∷ Call.Begin (pos 2) ∷ Call.Persist (pos 2) (pos 2) ∷ Call.Commit (pos 2)
    ∷ Call.SetValue (pos 2) (codes "amount") (int 1) ∷ []) ≡
    ok [] (Answer.Object 2) ∷ quiet ∷ quiet ∷ ok (saw LifecycleEvent.PrePersist 2 ∷ []) Answer.Null ∷ no [] (Refusal.Rollback Cause.EntityExists) ∷ quiet ∷ []
duplicate = refl

-- a transaction for each manager, and numbers that name nothing
turns : replies_of P1 (beside (machine_after P1 fresh (Call.CreateEntityManager ∷ [])))
    (Call.Begin (pos 1) ∷ Call.Begin (pos 1) ∷ Call.Begin (pos 2) ∷ Call.Commit (pos 2) ∷ Call.Commit (pos 1) ∷ Call.Begin (pos 2)
    ∷ Call.Begin (pos 3) ∷ Call.Persist (pos 2) (pos 9) ∷ Call.NewObject (codes "Nobody") ∷ Call.Find (pos 2) (codes "Person") [] ∷ Call.Commit (pos 2) ∷ []) ≡
    quiet ∷ no [] (Refusal.Because (Cause.IllegalState State.Active)) ∷ quiet
    ∷ quiet ∷ quiet ∷ quiet
    ∷ no [] (Refusal.Because Cause.NoSuchManager) ∷ no [] (Refusal.Because Cause.NoSuchObject) ∷ no [] (Refusal.Because (Cause.IllegalArgument Argument.Entity))
    ∷ no [] (Refusal.Because (Cause.IllegalArgument Argument.Key)) ∷ no [] Refusal.RollbackMarked ∷ []
turns = refl

-- the longest text, and one that is longer
lengths : replies_of P1 fresh
    (Call.NewObject (codes "Person") ∷ Call.SetValue (pos 1) (codes "name") (text (replicate 65535 97)) ∷ Call.SetValue (pos 1) (codes "name") (text (replicate 65536 97)) ∷ []) ≡
    ok [] (Answer.Object 1) ∷ quiet ∷ no [] (Refusal.Because Cause.Limit) ∷ []
lengths = refl

-- the greatest version cannot be raised
abbrev greatest : StoredSet
greatest = (record { table = 1; key = Value.Int (pos 1) ∷ [] }, record { class = 0; version = Some (pos 9223372036854775807); values = Value.Text (codes "Ada") ∷ []; owned = [] }) ∷ []

version_limit : replies_of P1 (opened greatest (2 ∷ []))
    (Call.CreateEntityManager ∷ Call.Find (pos 1) (codes "Person") (int 1 ∷ []) ∷ Call.SetValue (pos 1) (codes "name") (text (codes "Bob")) ∷ Call.Begin (pos 1) ∷ Call.Commit (pos 1) ∷ []) ≡
    ok [] (Answer.Number 1) ∷ ok (saw LifecycleEvent.PostLoad 1 ∷ []) (Answer.Object 1) ∷ quiet ∷ quiet
    ∷ no (saw LifecycleEvent.PreUpdate 1 ∷ []) (Refusal.Rollback (Cause.Persistence PersistenceFault.Version)) ∷ []
version_limit = refl

-- the last generated key is never given
generator_limit : replies_of P1 (opened [] (9223372036854775807 ∷ [])) (Call.CreateEntityManager ∷ Call.NewObject (codes "Person") ∷ Call.Persist (pos 1) (pos 1) ∷ []) ≡
    ok [] (Answer.Number 1) ∷ ok [] (Answer.Object 1) ∷ no [] (Refusal.Because (Cause.Persistence PersistenceFault.Generator)) ∷ []
generator_limit = refl

-- a rollback gives no key twice
no_key_twice : replies_of P1 fresh
    (Call.CreateEntityManager ∷ Call.NewObject (codes "Person") ∷ Call.NewObject (codes "Person") ∷ Call.Begin (pos 1) ∷ Call.Persist (pos 1) (pos 1) ∷ Call.Begin (pos 1)
    ∷ Call.Persist (pos 1) (pos 9) ∷ Call.SetValue (pos 2) (codes "id") (int 5) ∷ Call.Persist (pos 1) (pos 2) ∷ Call.Commit (pos 1) ∷ Call.Find (pos 1) (codes "Person") (int 1 ∷ [])
    ∷ Call.NewObject (codes "Person") ∷ Call.Begin (pos 1) ∷ Call.Persist (pos 1) (pos 3) ∷ Call.Commit (pos 1) ∷ Call.Find (pos 1) (codes "Person") (int 2 ∷ []) ∷ []) ≡
    ok [] (Answer.Number 1) ∷ ok [] (Answer.Object 1) ∷ ok [] (Answer.Object 2) ∷ quiet ∷ ok (saw LifecycleEvent.PrePersist 1 ∷ []) Answer.Null ∷ no [] (Refusal.Because (Cause.IllegalState State.Active))
    ∷ no [] (Refusal.Because Cause.NoSuchObject) ∷ quiet ∷ no [] (Refusal.Because (Cause.Persistence PersistenceFault.Key)) ∷ no [] Refusal.RollbackMarked ∷ quiet
    ∷ ok [] (Answer.Object 3) ∷ quiet ∷ ok (saw LifecycleEvent.PrePersist 3 ∷ []) Answer.Null ∷ ok (saw LifecycleEvent.PostPersist 3 ∷ []) Answer.Null ∷ ok [] (Answer.Object 3) ∷ []
no_key_twice = refl

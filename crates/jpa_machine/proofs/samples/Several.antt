-- Transactions of several managers, by worked examples.
use Rattle.std.specs.Prelude.{codes, ◌≡◌, refl, pos, List, [], ◌∷◌, ℕ}
use Rattle.jpa_value.specs.declared.value.Value.{Value}
use Rattle.jpa_value.specs.declared.refusal.Cause.{Cause}
use Rattle.jpa_value.specs.declared.refusal.PersistenceFault.{PersistenceFault}
use Rattle.jpa_value.specs.declared.refusal.Refusal.{Refusal}
use Rattle.jpa_value.specs.declared.refusal.State.{State}
use Rattle.jpa_value.specs.declared.event.LifecycleEvent.{LifecycleEvent}
use Rattle.jpa_rows.specs.rows.Cells.{Cell, rows}
use Rattle.jpa_protocol.specs.declared.call.Call.{Call}
use Rattle.jpa_protocol.specs.declared.call.Given.{Given}
use Rattle.jpa_protocol.specs.declared.reply.Answer.{Answer}
use Rattle.jpa_machine.specs.machine.Machine.{Machine, opened}
use Rattle.jpa_machine.specs.machine.Step.{replies_of, machine_after}
use Rattle.jpa_machine.proofs.samples.Sample.{P, text, int, saw, ok, quiet, no}

abbrev fresh : Machine
fresh = opened [] (1 ∷ 1 ∷ [])

abbrev cells_of : Machine → List Cell
cells_of M = rows P M.committed M.stored_numbers

abbrev number : ℕ → List ℕ
number n = 1 ∷ 128 ∷ 0 ∷ 0 ∷ 0 ∷ 0 ∷ 0 ∷ 0 ∷ n ∷ []

-- ---- first-committer-wins

abbrev first_committer : List Call
first_committer =
    Call.CreateEntityManager ∷ Call.NewObject (codes "Person") ∷ Call.SetValue (pos 1) (codes "name") (text (codes "Ada")) ∷ Call.Begin (pos 1) ∷ Call.Persist (pos 1) (pos 1) ∷ Call.Commit (pos 1)
    ∷ Call.CreateEntityManager ∷ Call.Begin (pos 1) ∷ Call.Begin (pos 2) ∷ Call.SetValue (pos 1) (codes "name") (text (codes "A1")) ∷ Call.Commit (pos 1)
    ∷ Call.Find (pos 2) (codes "Person") (int 1 ∷ []) ∷ Call.Get (pos 2) (codes "name") ∷ Call.SetValue (pos 2) (codes "name") (text (codes "B")) ∷ Call.Commit (pos 2) ∷ Call.Get (pos 2) (codes "version") ∷ []

first_committer_wins : replies_of P fresh first_committer ≡
    ok [] (Answer.Number 1) ∷ ok [] (Answer.Object 1) ∷ quiet ∷ quiet ∷ ok (saw LifecycleEvent.PrePersist 1 ∷ []) Answer.Null ∷ ok (saw LifecycleEvent.PostPersist 1 ∷ []) Answer.Null
    ∷ ok [] (Answer.Number 2) ∷ quiet ∷ quiet ∷ quiet ∷ ok (saw LifecycleEvent.PreUpdate 1 ∷ saw LifecycleEvent.PostUpdate 1 ∷ []) Answer.Null
    ∷ ok (saw LifecycleEvent.PostLoad 2 ∷ []) (Answer.Object 2) ∷ ok [] (Answer.Value (Value.Text (codes "Ada"))) ∷ quiet
    ∷ no (saw LifecycleEvent.PreUpdate 2 ∷ saw LifecycleEvent.PostUpdate 2 ∷ []) (Refusal.Rollback Cause.OptimisticLock) ∷ ok [] (Answer.Value (Value.Int (pos 0))) ∷ []
first_committer_wins = refl

first_committer_cells : cells_of (machine_after P fresh first_committer) ≡
    record { table = 0; row = number 1; column = pos 0; bytes = number 2 }
    ∷ record { table = 1; row = number 1; column = pos 0; bytes = 2 ∷ codes "Person" }
    ∷ record { table = 1; row = number 1; column = pos 1; bytes = number 1 }
    ∷ record { table = 1; row = number 1; column = pos 2; bytes = 2 ∷ codes "A1" } ∷ []
first_committer_cells = refl

-- ---- unversioned-update-not-lost

abbrev unversioned : List Call
unversioned =
    Call.CreateEntityManager ∷ Call.NewObject (codes "Order") ∷ Call.SetValue (pos 1) (codes "number") (int 10) ∷ Call.SetValue (pos 1) (codes "amount") (int 5) ∷ Call.Begin (pos 1) ∷ Call.Persist (pos 1) (pos 1) ∷ Call.Commit (pos 1)
    ∷ Call.CreateEntityManager ∷ Call.Begin (pos 1) ∷ Call.Begin (pos 2) ∷ Call.Find (pos 2) (codes "Order") (int 10 ∷ []) ∷ Call.SetValue (pos 1) (codes "amount") (int 6) ∷ Call.Commit (pos 1)
    ∷ Call.SetValue (pos 2) (codes "amount") (int 7) ∷ Call.Commit (pos 2) ∷ []

unversioned_update_not_lost : replies_of P fresh unversioned ≡
    ok [] (Answer.Number 1) ∷ ok [] (Answer.Object 1) ∷ quiet ∷ quiet ∷ quiet ∷ ok (saw LifecycleEvent.PrePersist 1 ∷ []) Answer.Null ∷ ok (saw LifecycleEvent.PostPersist 1 ∷ []) Answer.Null
    ∷ ok [] (Answer.Number 2) ∷ quiet ∷ quiet ∷ ok (saw LifecycleEvent.PostLoad 2 ∷ []) (Answer.Object 2) ∷ quiet
    ∷ ok (saw LifecycleEvent.PreUpdate 1 ∷ saw LifecycleEvent.PostUpdate 1 ∷ []) Answer.Null ∷ quiet
    ∷ no (saw LifecycleEvent.PreUpdate 2 ∷ saw LifecycleEvent.PostUpdate 2 ∷ []) (Refusal.Rollback Cause.OptimisticLock) ∷ []
unversioned_update_not_lost = refl

unversioned_cells : cells_of (machine_after P fresh unversioned) ≡
    record { table = 2; row = number 10; column = pos 0; bytes = 2 ∷ codes "Order" }
    ∷ record { table = 2; row = number 10; column = pos 1; bytes = number 6 } ∷ []
unversioned_cells = refl

-- ---- reference-to-removed-across-transactions

abbrev across : List Call
across =
    Call.CreateEntityManager ∷ Call.NewObject (codes "Person") ∷ Call.Begin (pos 1) ∷ Call.Persist (pos 1) (pos 1) ∷ Call.Commit (pos 1)
    ∷ Call.CreateEntityManager ∷ Call.Begin (pos 1) ∷ Call.Begin (pos 2) ∷ Call.Remove (pos 1) (pos 1) ∷ Call.NewObject (codes "Order") ∷ Call.SetValue (pos 2) (codes "number") (int 10)
    ∷ Call.Find (pos 2) (codes "Person") (int 1 ∷ []) ∷ Call.SetValue (pos 2) (codes "person") (Given.Object (pos 3)) ∷ Call.Persist (pos 2) (pos 2) ∷ Call.Commit (pos 1) ∷ Call.Commit (pos 2) ∷ []

reference_to_removed_across_transactions : replies_of P fresh across ≡
    ok [] (Answer.Number 1) ∷ ok [] (Answer.Object 1) ∷ quiet ∷ ok (saw LifecycleEvent.PrePersist 1 ∷ []) Answer.Null ∷ ok (saw LifecycleEvent.PostPersist 1 ∷ []) Answer.Null
    ∷ ok [] (Answer.Number 2) ∷ quiet ∷ quiet ∷ ok (saw LifecycleEvent.PreRemove 1 ∷ []) Answer.Null ∷ ok [] (Answer.Object 2) ∷ quiet
    ∷ ok (saw LifecycleEvent.PostLoad 3 ∷ []) (Answer.Object 3) ∷ quiet ∷ ok (saw LifecycleEvent.PrePersist 2 ∷ []) Answer.Null ∷ ok (saw LifecycleEvent.PostRemove 1 ∷ []) Answer.Null
    ∷ no (saw LifecycleEvent.PostPersist 2 ∷ []) (Refusal.Rollback (Cause.Persistence PersistenceFault.Reference)) ∷ []
reference_to_removed_across_transactions = refl

across_cells : cells_of (machine_after P fresh across) ≡ record { table = 0; row = number 1; column = pos 0; bytes = number 2 } ∷ []
across_cells = refl

-- ---- keys-survive-rollback

abbrev survivors : List Call
survivors =
    Call.CreateEntityManager ∷ Call.NewObject (codes "Person") ∷ Call.NewObject (codes "Person") ∷ Call.CreateEntityManager ∷ Call.Begin (pos 1) ∷ Call.Begin (pos 2)
    ∷ Call.Persist (pos 1) (pos 1) ∷ Call.Persist (pos 2) (pos 2) ∷ Call.Commit (pos 2) ∷ Call.Rollback (pos 1) ∷ Call.Get (pos 2) (codes "id") ∷ []

keys_survive_rollback : replies_of P fresh survivors ≡
    ok [] (Answer.Number 1) ∷ ok [] (Answer.Object 1) ∷ ok [] (Answer.Object 2) ∷ ok [] (Answer.Number 2) ∷ quiet ∷ quiet
    ∷ ok (saw LifecycleEvent.PrePersist 1 ∷ []) Answer.Null ∷ ok (saw LifecycleEvent.PrePersist 2 ∷ []) Answer.Null ∷ ok (saw LifecycleEvent.PostPersist 2 ∷ []) Answer.Null ∷ quiet
    ∷ ok [] (Answer.Value (Value.Int (pos 2))) ∷ []
keys_survive_rollback = refl

survivors_cells : cells_of (machine_after P fresh survivors) ≡
    record { table = 0; row = number 1; column = pos 0; bytes = number 3 }
    ∷ record { table = 1; row = number 2; column = pos 0; bytes = 2 ∷ codes "Person" }
    ∷ record { table = 1; row = number 2; column = pos 1; bytes = number 0 } ∷ []
survivors_cells = refl

-- ---- a second manager begins while the first one's transaction is open

both_begin : replies_of P fresh (Call.CreateEntityManager ∷ Call.Begin (pos 1) ∷ Call.Begin (pos 1) ∷ Call.CreateEntityManager ∷ Call.Begin (pos 2) ∷ Call.Commit (pos 2) ∷ Call.Commit (pos 2) ∷ []) ≡
    ok [] (Answer.Number 1) ∷ quiet ∷ no [] (Refusal.Because (Cause.IllegalState State.Active)) ∷ ok [] (Answer.Number 2) ∷ quiet ∷ quiet ∷ no [] (Refusal.Because (Cause.IllegalState State.Inactive)) ∷ []
both_begin = refl

-- ---- what differs and agrees again is no conflict

-- manager 1 changes an order and changes it back, between flushes, while manager 2 commits a change of it: manager 2's stands
abbrev back_again : List Call
back_again =
    Call.CreateEntityManager ∷ Call.NewObject (codes "Order") ∷ Call.SetValue (pos 1) (codes "number") (int 10) ∷ Call.SetValue (pos 1) (codes "amount") (int 5) ∷ Call.Begin (pos 1) ∷ Call.Persist (pos 1) (pos 1) ∷ Call.Commit (pos 1)
    ∷ Call.CreateEntityManager ∷ Call.Begin (pos 1) ∷ Call.Begin (pos 2) ∷ Call.Find (pos 2) (codes "Order") (int 10 ∷ []) ∷ Call.SetValue (pos 1) (codes "amount") (int 6) ∷ Call.Flush (pos 1)
    ∷ Call.SetValue (pos 1) (codes "amount") (int 5) ∷ Call.SetValue (pos 2) (codes "amount") (int 7) ∷ Call.Commit (pos 2) ∷ Call.Commit (pos 1) ∷ []

back_again_cells : cells_of (machine_after P fresh back_again) ≡
    record { table = 2; row = number 10; column = pos 0; bytes = 2 ∷ codes "Order" }
    ∷ record { table = 2; row = number 10; column = pos 1; bytes = number 7 } ∷ []
back_again_cells = refl

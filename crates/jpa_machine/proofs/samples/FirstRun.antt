-- The first run: a person is made, named, persisted, committed and found, and what may come after it.
use Rattle.std.specs.Prelude.{codes, ◌≡◌, refl, pos, List, [], ◌∷◌, ℕ}
use Rattle.jpa_value.specs.declared.refusal.Cause.{Cause}
use Rattle.jpa_value.specs.declared.refusal.PersistenceFault.{PersistenceFault}
use Rattle.jpa_value.specs.declared.refusal.Refusal.{Refusal}
use Rattle.jpa_value.specs.declared.event.LifecycleEvent.{LifecycleEvent}
use Rattle.jpa_rows.specs.rows.Cells.{Cell, rows}
use Rattle.jpa_protocol.specs.declared.call.Call.{Call}
use Rattle.jpa_protocol.specs.declared.reply.Answer.{Answer}
use Rattle.jpa_machine.specs.machine.Machine.{Machine, opened}
use Rattle.jpa_machine.specs.machine.Step.{replies_of, machine_after}
use Rattle.jpa_machine.proofs.samples.Sample.{P1, text, int, saw, ok, quiet, no}

abbrev pub fresh : Machine
fresh = opened [] (1 ∷ [])

-- the cells of what a machine has committed
abbrev pub cells_of : Machine → List Cell
cells_of M = rows P1 M.committed M.stored_numbers

-- no call: no reply, no cell
no_replies : replies_of P1 fresh [] ≡ []
no_replies = refl

no_cells : cells_of fresh ≡ []
no_cells = refl

abbrev pub first_run : List Call
first_run =
    Call.CreateEntityManager ∷ Call.NewObject (codes "Person") ∷ Call.SetValue (pos 1) (codes "name") (text (codes "Ada")) ∷ Call.Begin (pos 1) ∷ Call.Persist (pos 1) (pos 1)
    ∷ Call.Commit (pos 1) ∷ Call.Find (pos 1) (codes "Person") (int 1 ∷ []) ∷ []

first_replies : replies_of P1 fresh first_run ≡
    ok [] (Answer.Number 1) ∷ ok [] (Answer.Object 1) ∷ quiet ∷ quiet ∷ ok (saw LifecycleEvent.PrePersist 1 ∷ []) Answer.Null
    ∷ ok (saw LifecycleEvent.PostPersist 1 ∷ []) Answer.Null ∷ ok [] (Answer.Object 1) ∷ []
first_replies = refl

abbrev pub after_first : Machine
after_first = machine_after P1 fresh first_run

abbrev pub key_one : List ℕ
key_one = 1 ∷ 128 ∷ 0 ∷ 0 ∷ 0 ∷ 0 ∷ 0 ∷ 0 ∷ 1 ∷ []

abbrev pub person_cells : ℕ → List ℕ → List Cell
person_cells version name =
    record { table = 0; row = key_one; column = pos 0; bytes = 1 ∷ 128 ∷ 0 ∷ 0 ∷ 0 ∷ 0 ∷ 0 ∷ 0 ∷ 2 ∷ [] }
    ∷ record { table = 1; row = key_one; column = pos 0; bytes = 2 ∷ codes "Person" }
    ∷ record { table = 1; row = key_one; column = pos 1; bytes = 1 ∷ 128 ∷ 0 ∷ 0 ∷ 0 ∷ 0 ∷ 0 ∷ 0 ∷ version ∷ [] }
    ∷ record { table = 1; row = key_one; column = pos 2; bytes = 2 ∷ name } ∷ []

pub first_cells : cells_of after_first ≡ person_cells 0 (codes "Ada")
first_cells = refl

-- a change raises the version
abbrev pub update : List Call
update = Call.SetValue (pos 1) (codes "name") (text (codes "Bob")) ∷ Call.Begin (pos 1) ∷ Call.Commit (pos 1) ∷ []

update_replies : replies_of P1 after_first update ≡ quiet ∷ quiet ∷ ok (saw LifecycleEvent.PreUpdate 1 ∷ saw LifecycleEvent.PostUpdate 1 ∷ []) Answer.Null ∷ []
update_replies = refl

update_cells : cells_of (machine_after P1 after_first update) ≡ person_cells 1 (codes "Bob")
update_cells = refl

-- a generated key cannot be set: the refused persist leaves the transaction able only to roll back, which detaches
abbrev pub set_key : List Call
set_key =
    Call.NewObject (codes "Person") ∷ Call.SetValue (pos 2) (codes "id") (int 7) ∷ Call.Begin (pos 1) ∷ Call.Persist (pos 1) (pos 2) ∷ Call.Commit (pos 1)
    ∷ Call.Find (pos 1) (codes "Person") (int 1 ∷ []) ∷ Call.Persist (pos 1) (pos 1) ∷ []

set_key_replies : replies_of P1 after_first set_key ≡
    ok [] (Answer.Object 2) ∷ quiet ∷ quiet ∷ no [] (Refusal.Because (Cause.Persistence PersistenceFault.Key)) ∷ no [] Refusal.RollbackMarked
    ∷ ok (saw LifecycleEvent.PostLoad 3 ∷ []) (Answer.Object 3) ∷ no [] (Refusal.Because Cause.EntityExists) ∷ []
set_key_replies = refl

set_key_cells : cells_of (machine_after P1 after_first set_key) ≡ person_cells 0 (codes "Ada")
set_key_cells = refl

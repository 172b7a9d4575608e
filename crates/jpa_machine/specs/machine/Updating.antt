-- What executeUpdate puts into a set: values of the program, as the types of the code say of all
-- that it computes.
use Rattle.std.specs.Prelude.{◌≡◌, ℕ, Bool, true, false, List, length, Some}
use Rattle.jpa_behaviour.specs.Behaviour.{World}
use Rattle.jpa_rows.specs.rows.Cells.{all_representable}
use Rattle.jpa_work.specs.heap.Objects.{place_of}
use Rattle.jpa_work.specs.context.Steps.{Outcome}
use Rattle.jpa_machine.specs.machine.Going.{HoldsAfter}
use Rattle.jpa_protocol.specs.declared.call.Call.{Call}
use Rattle.jpa_protocol.specs.declared.call.Parameter.{Parameter}
use Rattle.jpa_protocol.specs.declared.reply.Answer.{Answer}
use Rattle.jpa_machine.specs.machine.Machine.{Machine, manager_at, has_transaction, flushes_first, work_of}
use Rattle.jpa_machine.specs.machine.Querying.{update_call}

-- whether a call is executeUpdate
abbrev pub is_bulk : Call → Bool
is_bulk (Call.ExecuteUpdate em text parameters) = true
is_bulk _ = false

-- the outcome of executeUpdate for a manager at work
abbrev pub update_outcome : World → Machine → List ℕ → List Parameter → ℕ → Outcome Answer
update_outcome world M text parameters m =
    update_call text parameters (has_transaction (manager_at M m)) (flushes_first M m) world (work_of M m)

-- the set that the manager sees after the call has values of the program
abbrev pub MakesRepresentable : World → Machine → Call → Type 0
MakesRepresentable world M (Call.ExecuteUpdate em text parameters) =
    (m : ℕ) → place_of (length M.managers) em ≡ Some m → HoldsAfter (λ a w. all_representable w.view ≡ true)
    (update_outcome world M text parameters m)
MakesRepresentable world M _ = Unit {0}

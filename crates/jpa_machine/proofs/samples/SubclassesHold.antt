-- What holds of the machine between calls holds over runs with subclasses.
use Rattle.std.specs.Prelude.{codes, refl, pos, List, [], ◌∷◌}
use Rattle.jpa_behaviour.proofs.Regular.{regular_without}
use Rattle.jpa_behaviour.specs.Behaviour.{IsRegular}
use Rattle.jpa_rows.specs.rows.Cells.{CanBeHeld}
use Rattle.jpa_protocol.specs.declared.call.Call.{Call}
use Rattle.jpa_machine.specs.machine.Machine.{Machine}
use Rattle.jpa_machine.specs.machine.Invariant.{IsMachine}
use Rattle.jpa_machine.specs.machine.Step.{machine_after}
use Rattle.jpa_machine.proofs.machine.Settled.{opened_holds}
use Rattle.jpa_machine.proofs.machine.Outcome.{machine_after_keeps}
use Rattle.jpa_machine.proofs.samples.Sample.{int}
use Rattle.jpa_machine.proofs.samples.Subclasses.{H, fresh, find, payments_inherited, payments_orderly}

payments_regular : IsRegular H
payments_regular = regular_without H.model

empty_held : CanBeHeld H [] (1 ∷ 1 ∷ 1 ∷ [])
empty_held = record { representable = refl; numbered = refl; rising = tt; shaped = refl; sound = refl; converted = refl; given = refl }

-- a payment by card and one by cheque, found by classes that they are of and by others
abbrev paying : List Call
paying =
    Call.CreateEntityManager ∷ Call.NewObject (codes "Card") ∷ Call.SetValue (pos 1) (codes "amount") (int 5) ∷ Call.NewObject (codes "Cheque") ∷ Call.Begin (pos 1)
    ∷ Call.Persist (pos 1) (pos 1) ∷ Call.Persist (pos 1) (pos 2) ∷ Call.Commit (pos 1) ∷ Call.Clear (pos 1) ∷ find (codes "Cheque") 1 ∷ find (codes "Payment") 1 ∷ []

abbrev paid : Machine
paid = machine_after H fresh paying

paid_holds : IsMachine H paid
paid_holds = machine_after_keeps payments_orderly payments_regular payments_inherited fresh paying refl refl (opened_holds empty_held)

abbrev changing : List Call
changing =
    Call.SetValue (pos 3) (codes "amount") (int 6) ∷ Call.Begin (pos 1) ∷ Call.Flush (pos 1) ∷ Call.Remove (pos 1) (pos 3) ∷ Call.Commit (pos 1) ∷ find (codes "Cheque") 2 ∷ []

changed_holds : IsMachine H (machine_after H paid changing)
changed_holds = machine_after_keeps payments_orderly payments_regular payments_inherited paid changing refl refl paid_holds

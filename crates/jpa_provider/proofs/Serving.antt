-- What holds between calls holds after each step.
use Rattle.std.proofs.Common.{◌≡◌, ◌<◌, ℕ, true, List, length, ap, sym, subst}
use Rattle.std.specs.Prelude.{All, OnOk}
use Rattle.jpql_bulk.specs.kept.Fits.{AreInherited}
use Rattle.jpa_machine.specs.machine.Updating.{MakesRepresentable}
use Rattle.std.proofs.lemmas.List.Elements.{All-weaker}
use Rattle.jpa_behaviour.specs.Behaviour.{World, IsRegular}
use Rattle.jpa_stored.specs.objects.Sets.{StoredSet}
use Rattle.jpa_rows.specs.rows.Cells.{CanBeHeld}
use Rattle.jpa_work.specs.declared.context.Entry.{Entry}
use Rattle.jpa_protocol.specs.declared.call.Call.{Call}
use Rattle.jpa_protocol.specs.declared.reply.Reply.{Reply}
use Rattle.jpa_provider.specs.declared.session.Session.{Session}
use Rattle.jpa_machine.specs.machine.Machine.{Machine, Manager, manager_at, opened, work_of}
use Rattle.jpa_machine.specs.machine.Consistent.{IsEntry}
use Rattle.jpa_machine.specs.machine.Invariant.{IsMachine, context_of, hands_representable}
use Rattle.jpa_provider.specs.Serving.{machine_of, manager_in, marks_in, AreAllMarked, IsServing, IsSettled, Serves}
use Rattle.jpa_machine.proofs.machine.AtWork.{each_manager}
use Rattle.jpa_provider.proofs.Marked.{nothing_marked}
use Rattle.jpa_provider.proofs.Sessions.{manager_there}
use Rattle.jpa_machine.proofs.machine.Settled.{opened_holds}
use Rattle.jpa_machine.proofs.machine.Outcome.{step_keeps}
use Rattle.jpa_operations.specs.fetch.Orderly.{IsOrderly}

-- whichever call it was
pub serves_on : (world : World) (s t : Session) (call : Call) (reply : Reply) → IsServing world s → hands_representable call ≡ true → OnOk reply.answer (MakesRepresentable world (machine_of s) call) →
    Serves world s call reply t → IsSettled t → AreAllMarked world.model t → IsServing world t
serves_on world s t call reply h rep made step settled marked =
    record {
      orderly = h.orderly;
      regular = h.regular;
      inherited = h.inherited;
      machine = step_keeps h.orderly h.regular h.inherited call rep made h.machine step;
      settled = settled;
      marked = marked;
    }

-- ---- what calls stand on

abbrev IsWithin : Session → Entry → Type 0
IsWithin s e = e.object < length s.work.objects.now

pub entries_in : {world : World} (s : Session) → IsMachine world (machine_of s) → (k : ℕ) → All (λ (e : Entry). e.object < length s.work.objects.now) (manager_in s.managers.items k).context.now
entries_in {world} s h k =
    subst (λ (x : Manager). All (IsWithin s) x.context) (manager_there s k)
    (All-weaker (IsEntry world.model s.work.objects.now s.work.numbers.now k) (IsWithin s) (λ e i. i.within) (manager_at (machine_of s) k).context (each_manager h k).entries)

-- ---- as it is opened

pub opened_serving : (world : World) (s : Session) (set : StoredSet) (numbers : List ℕ) → IsOrderly world.model → IsRegular world → AreInherited world.model → CanBeHeld world set numbers → machine_of s ≡ opened set numbers → IsSettled s → IsServing world s
opened_serving world s set numbers orderly regular inherited held e settled =
    record {
      orderly = orderly;
      regular = regular;
      inherited = inherited;
      machine = subst (IsMachine world) (sym e) (opened_holds held);
      settled = settled;
      marked = λ k. nothing_marked world.model (marks_in s k) (work_of (machine_of s) k) (ap (λ (M : Machine). context_of M k) e);
    }

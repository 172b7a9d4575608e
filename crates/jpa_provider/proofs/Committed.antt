-- What the commit of a manager stands on, and what its work leaves.
use Rattle.std.proofs.Common.{◌≡◌, ◌<◌, ℕ, true, length, ap, refl, sym, ◌∙◌}
use Rattle.std.specs.Prelude.{All, nat_le}
use Rattle.std.proofs.lemmas.Bool.{false≢true}
use Rattle.std.proofs.lemmas.List.Elements.{All-weaker}
use Rattle.jpa_behaviour.specs.Behaviour.{World}
use Rattle.jpa_machine.specs.machine.Consistent.{IsEntry}
use Rattle.jpa_machine.proofs.machine.Ready.{ready_at_work}
use Rattle.jpa_operations.specs.fetch.Grown.{IsReady}
use Rattle.jpa_work.specs.declared.context.Entry.{Entry}
use Rattle.jpa_work.specs.context.Work.{Work}
use Rattle.jpa_work.specs.context.Steps.{Done}
use Rattle.jpa_work.specs.context.Undo.{now, since}
use Rattle.jpa_machine.specs.machine.Machine.{Machine, manager_at, is_begun, begun_in, begun_set, work_of}
use Rattle.jpa_machine.specs.machine.Transactions.{commit_work}
use Rattle.jpa_machine.proofs.machine.AtWork.{IsAtWork, taken}
use Rattle.jpa_machine.proofs.machine.AfterFlush.{still_at_work, numbers_rise}
use Rattle.jpa_open.specs.Opened.{IsUndone}
use Rattle.jpa_rows.specs.rows.Cells.{CanBeHeld}
use Rattle.jpa_stored.specs.objects.Sets.{StoredSet, each_fits}
use Rattle.jpa_provider.specs.declared.session.Status.{Status}
use Rattle.jpa_provider.specs.declared.session.Session.{Session}
use Rattle.jpa_provider.specs.Beside.{AreHeld}
use Rattle.jpa_provider.specs.Serving.{machine_of, manager_in, transaction_in, is_begun_status, IsCommitting, IsServing, IsWorking}
use Rattle.jpa_provider.proofs.Held.{held_away}
use Rattle.jpa_provider.proofs.Commits.{committed_work}
use Rattle.jpa_provider.proofs.Sessions.{begun_there}

-- the manager at work is the one whose transaction commits
pub committing : (s t : Session) (m : ℕ) → is_begun_status (manager_in s.managers.items m).status ≡ true → IsWorking (machine_of s) m t → IsCommitting (machine_of s) m t
committing s t m begun working = record { working = working; begun = begun_there s m ∙ begun }

-- undone, its transaction is still open
pub begun_still : {M : Machine} (t : Session) (m : ℕ) → machine_of t ≡ M → is_begun (manager_at M m).transaction ≡ true → is_begun_status (manager_in t.managers.items m).status ≡ true
begun_still t m same begun = sym (begun_there t m) ∙ ap (λ (N : Machine). is_begun (manager_at N m).transaction) same ∙ begun

-- ---- the sets of its transaction

begun_at : (st : Status) (begun seen committed : StoredSet) → is_begun (transaction_in st begun seen) ≡ true → begun_in (transaction_in st begun seen) committed ≡ begun
begun_at Status.Closed b s c h = absurd (false≢true h)
begun_at Status.Inactive b s c h = absurd (false≢true h)
begun_at Status.Active b s c h = refl
begun_at Status.RollbackOnly b s c h = refl

module _ {M : Machine} {m : ℕ} (t : Session) (h : IsCommitting M m t) where
  begun_then : (t.work.view).begun ≡ begun_set M m
  begun_then =
      let away = (h.working).away in
      sym (begun_at (manager_in t.managers.items m).status (t.work.view).begun (t.work.view).kept M.committed (ap is_begun away.status ∙ h.begun)) ∙ ap (λ x. begun_in x M.committed) away.status

  -- the work that commits is the machine's
  pub same_work : (world : World) → now t.work ≡ work_of M m → commit_work world (t.work.view).committed (t.work.view).begun (now t.work) ≡ committed_work world M m
  same_work world e = λ i. commit_work world (((h.working).away).committed i) (begun_then i) (e i)

-- beside others for whom something was kept back it is still at work
pub still_committing : {M : Machine} {m : ℕ} (s t : Session) → IsUndone s.work.view t.work.view → AreHeld (s.work.view).committed s.managers.items m (s.work.view).committed t.managers.items → t.stored ≡ s.stored → t.open_places.items ≡ s.open_places.items →
    (since t.work).objects ≡ (since s.work).objects → (since t.work).context ≡ (since s.work).context → (since t.work).numbers ≡ (since s.work).numbers → IsCommitting M m s → IsCommitting M m t
still_committing s t u held stored opened o c n h =
    let working = h.working in
    record {
      working = record { away = held_away s t u held stored opened working.away; objects = o ∙ working.objects; context = c ∙ working.context; numbers = n ∙ working.numbers };
      begun = h.begun;
    }

-- ---- what its work left

module _ (world : World) (s : Session) (m : ℕ) (h : IsServing world s) (w : Work) (e : committed_work world (machine_of s) m ≡ Done tt w) where
  after_it : IsAtWork world (machine_of s) m w
  after_it = still_at_work w h.orderly h.regular h.machine (taken m h.machine) e

  pub worked_held : CanBeHeld world w.view w.numbers
  worked_held = after_it.view

  pub worked_ready : IsReady world.model w
  worked_ready = ready_at_work after_it

  pub worked_rising : each_fits nat_le (machine_of s).stored_numbers w.numbers ≡ true
  worked_rising = numbers_rise h.machine after_it

  pub worked_within : All (λ (x : Entry). x.object < length w.objects) w.context
  worked_within = All-weaker (IsEntry world.model w.objects w.numbers m) (λ (x : Entry). x.object < length w.objects) (λ x i. i.within) w.context after_it.entries

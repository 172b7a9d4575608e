-- How a commit steps.
use Rattle.jpa_work.specs.context.Marks.{Entries}
use Rattle.std.proofs.Common.{◌≡◌, ◌<◌, ◌⊎◌, inl, inr, ℕ, ℤ, Bool, true, false, List, [], ◌∷◌, map, refl, ap, sym, subst, ◌∙◌}
use Rattle.std.specs.Prelude.{All, not, Some, None, Err, slice_set}
use Rattle.std.specs.List.{AllByRecursion, filter}
use Rattle.std.proofs.lemmas.Bool.{false≢true, true≢false, cond_both}
use Rattle.std.proofs.lemmas.List.Elements.{recursion_from_All, All-from_recursion}
use Rattle.jpa_value.specs.declared.refusal.Cause.{Cause}
use Rattle.jpa_value.specs.declared.refusal.Refusal.{Refusal}
use Rattle.jpa_value.specs.declared.refusal.State.{State}
use Rattle.jpa_behaviour.specs.Behaviour.{World}
use Rattle.jpa_protocol.specs.declared.call.Call.{Call}
use Rattle.jpa_protocol.specs.declared.event.Told.{Told}
use Rattle.jpa_protocol.specs.declared.reply.Answer.{Answer}
use Rattle.jpa_protocol.specs.declared.reply.Reply.{Reply}
use Rattle.jpa_work.specs.declared.heap.LiveObject.{LiveObject}
use Rattle.jpa_open.specs.Opened.{no_layers, begun_over, seen_over}
use Rattle.jpa_work.specs.declared.context.Entry.{Entry}
use Rattle.jpa_work.specs.context.Work.{Work, unlocked}
use Rattle.jpa_work.specs.context.Steps.{Outcome, Done, Refused, IsRefusedAs}
use Rattle.jpa_work.specs.context.Undo.{now}
use Rattle.jpa_operations.specs.ops.States.{detach_each}
use Rattle.jpa_provider.specs.declared.session.Status.{Status}
use Rattle.jpa_provider.specs.declared.session.EntityManager.{EntityManager}
use Rattle.jpa_provider.specs.declared.session.Session.{Session}
use Rattle.jpa_machine.specs.machine.Machine.{Machine, manager_at, is_begun, begun_set, with_manager, work_of, is_gone, committed_after, rolled_back, IsStoredAs}
use Rattle.jpa_machine.specs.machine.Calls.{accepted}
use Rattle.jpa_machine.specs.machine.Transactions.{commit, commit_in, commit_of, commit_work}
use Rattle.jpa_machine.specs.machine.Step.{outcome, gives_up}
use Rattle.jpa_provider.specs.Beside.{IsBeside}
use Rattle.jpa_provider.specs.Serving.{transaction_in, is_open_status, is_begun_status, managers_of, manager_in, machine_of, named, detached_at, detached_all, gone_objects, gave_up, Refuses, Stores, IsAway, IsCommitting, IsCounted, IsIdle, Serves}
use Rattle.jpa_provider.proofs.Held.{same_managers}
use Rattle.jpa_provider.proofs.Counted.{begun_is_open, counted_same}
use Rattle.jpa_provider.proofs.Opened.{refusal, transaction_there, none_there}
use Rattle.jpa_provider.proofs.Sessions.{begun_same, idle_set}
use Rattle.jpa_provider.proofs.Worked.{of_manager, of_nobody}

-- ---- refusals

gave_cases : (r : Cause) → gave_up r ≡ true → (r ≡ Cause.OutOfMemory) ⊎ (r ≡ Cause.StoreFault)
gave_cases Cause.OutOfMemory h = inl refl
gave_cases Cause.StoreFault h = inr refl
gave_cases Cause.BadLine h = absurd (false≢true h)
gave_cases Cause.NoSuchManager h = absurd (false≢true h)
gave_cases Cause.NoSuchObject h = absurd (false≢true h)
gave_cases Cause.TransactionRequired h = absurd (false≢true h)
gave_cases Cause.EntityExists h = absurd (false≢true h)
gave_cases Cause.EntityNotFound h = absurd (false≢true h)
gave_cases Cause.OptimisticLock h = absurd (false≢true h)
gave_cases Cause.NoResult h = absurd (false≢true h)
gave_cases Cause.NonUniqueResult h = absurd (false≢true h)
gave_cases Cause.Overflow h = absurd (false≢true h)
gave_cases Cause.Busy h = absurd (false≢true h)
gave_cases Cause.Limit h = absurd (false≢true h)
gave_cases (Cause.IllegalArgument a) h = absurd (false≢true h)
gave_cases (Cause.IllegalState a) h = absurd (false≢true h)
gave_cases (Cause.Persistence a) h = absurd (false≢true h)
gave_cases (Cause.Listener a) h = absurd (false≢true h)
gave_cases (Cause.Mapping a) h = absurd (false≢true h)
gave_cases (Cause.Damaged t row) h = absurd (false≢true h)

refused_by : {A : Type 0} (r : Cause) (events : List Told) (o : Outcome A) → gave_up r ≡ false → IsRefusedAs r events o → o ≡ Refused r events
refused_by Cause.OutOfMemory events o g h = absurd (true≢false g)
refused_by Cause.StoreFault events o g h = absurd h
refused_by Cause.BadLine events o g h = h
refused_by Cause.NoSuchManager events o g h = h
refused_by Cause.NoSuchObject events o g h = h
refused_by Cause.TransactionRequired events o g h = h
refused_by Cause.EntityExists events o g h = h
refused_by Cause.EntityNotFound events o g h = h
refused_by Cause.OptimisticLock events o g h = h
refused_by Cause.NoResult events o g h = h
refused_by Cause.NonUniqueResult events o g h = h
refused_by Cause.Overflow events o g h = h
refused_by Cause.Busy events o g h = h
refused_by Cause.Limit events o g h = h
refused_by (Cause.IllegalArgument a) events o g h = h
refused_by (Cause.IllegalState a) events o g h = h
refused_by (Cause.Persistence a) events o g h = h
refused_by (Cause.Listener a) events o g h = h
refused_by (Cause.Mapping a) events o g h = h
refused_by (Cause.Damaged t row) events o g h = h

-- ---- the call

pub commit_alone : (world : World) (s : Session) (em : ℤ) → named s em ≡ None → Serves world s (Call.Commit em) (refusal Cause.NoSuchManager) s
commit_alone world s em e = inl (of_nobody s (commit world (machine_of s)) em e)

commit_at : (world : World) (s : Session) (em : ℤ) (m : ℕ) → named s em ≡ Some m → outcome world (machine_of s) (Call.Commit em) ≡ commit_in world (machine_of s) m (manager_at (machine_of s) m).transaction
commit_at world s em m e = of_manager s (commit world (machine_of s)) em m e

-- in this state
commit_in_state : (world : World) (s : Session) (em : ℤ) (m : ℕ) (st : Status) → named s em ≡ Some m → (manager_in s.managers.items m).status ≡ st →
    outcome world (machine_of s) (Call.Commit em) ≡ commit_in world (machine_of s) m (transaction_in st (begun_over (manager_in s.managers.items m).layers (s.work.view).committed) (seen_over (manager_in s.managers.items m).layers (s.work.view).committed))
commit_in_state world s em m st e is =
    let x = manager_in s.managers.items m in
    let C = (s.work.view).committed in
    commit_at world s em m e ∙ ap (commit_in world (machine_of s) m) (transaction_there s m ∙ ap (λ (y : Status). transaction_in y (begun_over x.layers C) (seen_over x.layers C)) is)

pub commit_inactive : (world : World) (s : Session) (em : ℤ) (m : ℕ) → named s em ≡ Some m → is_begun_status (manager_in s.managers.items m).status ≡ false →
    Serves world s (Call.Commit em) (refusal (Cause.IllegalState State.Inactive)) s
commit_inactive world s em m e h = inl (commit_at world s em m e ∙ ap (commit_in world (machine_of s) m) (none_there s m h))

pub commit_marked : (world : World) (s t : Session) (em : ℤ) (m : ℕ) → named s em ≡ Some m → (manager_in s.managers.items m).status ≡ Status.RollbackOnly → machine_of t ≡ rolled_back (machine_of s) m →
    Serves world s (Call.Commit em) (record { events = []; answer = Err Refusal.RollbackMarked }) t
commit_marked world s t em m e is f = inl (commit_in_state world s em m Status.RollbackOnly e is ∙ (λ i. (record { events = []; answer = Err Refusal.RollbackMarked }, sym f i)))

gives : (r : Cause) (reply : Reply) → gave_up r ≡ true → reply ≡ gives_up r → (reply ≡ gives_up Cause.OutOfMemory) ⊎ (reply ≡ gives_up Cause.StoreFault)
gives r reply h e = either (gave_cases r h)
  where
    either : (r ≡ Cause.OutOfMemory) ⊎ (r ≡ Cause.StoreFault) → (reply ≡ gives_up Cause.OutOfMemory) ⊎ (reply ≡ gives_up Cause.StoreFault)
    either (inl x) = inl (e ∙ ap gives_up x)
    either (inr x) = inr (e ∙ ap gives_up x)

-- what a commit's work makes of the machine's
abbrev pub committed_work : World → Machine → ℕ → Outcome (Unit {0})
committed_work world M m = commit_work world M.committed (begun_set M m) (work_of M m)

-- what a commit makes whose work was done
pub stored_outcome : (world : World) (s : Session) (em : ℤ) (m : ℕ) → named s em ≡ Some m → (manager_in s.managers.items m).status ≡ Status.Active → (w : Work) → committed_work world (machine_of s) m ≡ Done tt w →
    outcome world (machine_of s) (Call.Commit em) ≡ accepted w.events Answer.Null (committed_after (machine_of s) m w)
stored_outcome world s em m e active w o = commit_in_state world s em m Status.Active e active ∙ ap (commit_of (machine_of s) m) o

module _ (world : World) (s t : Session) (em : ℤ) (m : ℕ) (e : named s em ≡ Some m) (active : (manager_in s.managers.items m).status ≡ Status.Active) where
  -- the flush was refused, or another committed first what it changed or read, or its set is none that is sound
  pub refused_step : (r : Cause) (events : List Told) (reply : Reply) → IsRefusedAs r events (committed_work world (machine_of s) m) → Refuses (machine_of s) m events r reply (machine_of t) → Serves world s (Call.Commit em) reply t
  refused_step r events reply o (inl g) = inr (refl, gives r reply g.0 g.1, g.2)
  refused_step r events reply o (inr g) =
      let M = machine_of s in
      inl (commit_in_state world s em m Status.Active e active ∙ ap (commit_of M m) (refused_by r events _ g.0 o) ∙ (λ i. (sym g.1 i, sym g.2 i)))

  -- all was done
  pub stored_step : (w : Work) (reply : Reply) → committed_work world (machine_of s) m ≡ Done tt w → Stores (machine_of s) m w reply (machine_of t) → Serves world s (Call.Commit em) reply t
  stored_step w reply o (inl g) = inl (stored_outcome world s em m e active w o ∙ (λ i. (sym g.0 i, sym g.1 i)))
  stored_step w reply o (inr g) = inr (refl, g.0, g.1)

-- ---- the end of a commit

-- the objects of entries, detached
pub detached_entries : (es : List Entry) (os : List LiveObject) → detached_all (map (λ (e : Entry). e.object) es) os ≡ detach_each es os
detached_entries [] os = refl
detached_entries (e ∷ es) os = detached_entries es (detached_at e.object os)

-- the manager as the commit leaves it
abbrev pub ended : EntityManager → Entries → EntityManager
ended x c = record x { status = Status.Inactive; context = c; layers = no_layers }

module _ (M : Machine) (s t : Session) (m : ℕ) (c : Entries) (h : IsCommitting M m s) (beside : IsBeside m s) (f : t.managers.items ≡ slice_set s.managers.items m (ended (manager_in s.managers.items m) c)) where
  abbrev away : IsAway M m s
  away = (h.working).away

  abbrev xs : List EntityManager
  xs = s.managers.items

  was_begun : is_begun_status (manager_in xs m).status ≡ true
  was_begun = sym (begun_same (manager_in xs m).status (s.work.view).begun (s.work.view).kept) ∙ ap is_begun away.status ∙ h.begun

  was_open : true ≡ is_open_status (manager_in xs m).status
  was_open = sym (begun_is_open (manager_in xs m) was_begun)

  pub committed_there : c.now ≡ map unlocked (filter (λ e. not (is_gone (now s.work) e)) s.work.context.now) →
      t.work.objects.now ≡ detach_each (filter (is_gone (now s.work)) s.work.context.now) s.work.objects.now → t.work.numbers.now ≡ s.work.numbers.now → (t.work.view).committed ≡ (now s.work).view →
      t.stored ≡ s.work.numbers.now → machine_of t ≡ committed_after M m (now s.work)
  committed_there e o n v k =
      let w = now s.work in
      let V = w.view in
      let x = ended (manager_in xs m) c in
      (λ i. record {
        objects = o i;
        managers = ((λ j. managers_of (v j) (f j)) ∙ same_managers (s.work.view).committed V xs xs m x away.within beside refl ∙ ap (λ C. managers_of C (slice_set xs m x)) away.committed ∙ away.managers x) i;
        numbers = n i;
        stored_numbers = k i;
        committed = v i;
      })
      ∙ (λ i. record M {
        objects = detach_each (filter (is_gone w) s.work.context.now) s.work.objects.now;
        managers = with_manager M m (record { is_open = (was_open ∙ away.is_open) i; mode = away.mode i; context = e i; transaction = None });
        numbers = s.work.numbers.now;
        stored_numbers = s.work.numbers.now;
        committed = V;
      })

  -- without a transaction it has no layers
  pub idle_there : (k : ℕ) → IsIdle t.managers.items k
  idle_there k = subst (λ ys. IsIdle ys k) (sym f) (idle_set xs m (ended (manager_in xs m) c) away.within (λ e. refl) away.idle k)

  -- and is as open as it was
  pub counted_there : t.open_places.items ≡ s.open_places.items → IsCounted t
  counted_there n = counted_same s t m (ended (manager_in xs m) c) away.counted f was_open n

-- ---- what else a commit leaves

-- a commit whose flush was refused changes nothing that is committed
pub refused_still : {M N : Machine} (m : ℕ) (r : Cause) (events : List Told) (reply : Reply) → Refuses M m events r reply N → IsStoredAs M N
refused_still {M} m r events reply (inl g) = subst (IsStoredAs M) (sym g.2) (record { committed = refl; numbers = refl })
refused_still {M} m r events reply (inr g) = subst (IsStoredAs M) (sym g.2) (record { committed = refl; numbers = refl })

-- the objects that leave are within
within_part : (p : Entry → Bool) (k : ℕ) (es : List Entry) → AllByRecursion (λ (e : Entry). e.object < k) es → AllByRecursion (λ n. n < k) (map (λ (e : Entry). e.object) (filter p es))
within_part p k [] h = tt
within_part p k (e ∷ es) h =
    cond_both (p e) (e ∷ filter p es) (filter p es) (λ xs. AllByRecursion (λ n. n < k) (map (λ (x : Entry). x.object) xs)) (λ _. (h.0, within_part p k es h.1)) (λ _. within_part p k es h.1)

pub gone_within : (w : Work) (k : ℕ) → All (λ (e : Entry). e.object < k) w.context → All (λ n. n < k) (gone_objects w)
gone_within w k h =
    All-from_recursion (λ n. n < k) (gone_objects w) (within_part (is_gone w) k w.context (recursion_from_All (λ (e : Entry). e.object < k) w.context h))

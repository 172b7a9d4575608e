-- What the operation of each call leaves: one line for each call.
use Rattle.std.proofs.Common.{◌≡◌, inl, inr, ℕ, true, [], ap, sym, subst}
use Rattle.std.specs.Prelude.{None}
use Rattle.jpa_behaviour.specs.Behaviour.{World, AnswersConvertible, IsRegular}
use Rattle.jpa_stored.specs.objects.Sets.{StoredSet, fault_of}
use Rattle.jpa_rows.specs.rows.Cells.{CanBeHeld}
use Rattle.jpql_bulk.specs.kept.Fits.{AreInherited}
use Rattle.jpa_updates.specs.Updates.{with_view}
use Rattle.jpa_work.specs.heap.Objects.{object_at}
use Rattle.jpa_work.specs.context.Work.{Work}
use Rattle.jpa_work.specs.context.Steps.{Outcome, Done, Refused}
use Rattle.jpa_protocol.specs.declared.call.Call.{Call}
use Rattle.jpa_machine.specs.machine.Going.{HoldsAfter}
use Rattle.jpa_machine.proofs.machine.Changed.{HasSet}
use Rattle.jpa_machine.proofs.machine.Laws.{Steps}
use Rattle.jpa_machine.proofs.machine.Going.{only}
use Rattle.jpa_machine.proofs.machine.Instances.{at_work}
use Rattle.jpa_machine.proofs.machine.Unheld.{empty_unheld}
use Rattle.jpa_machine.proofs.machine.Flushed.{flush_goes, viewed_at_work}
use Rattle.jpa_machine.specs.machine.Machine.{Machine, manager_at, has_transaction, flushes_first, begun_set, work_of}
use Rattle.jpa_machine.specs.machine.Updating.{MakesRepresentable, update_outcome}
use Rattle.jpa_machine.proofs.machine.Updated.{update_call_goes}
use Rattle.jpa_machine.specs.machine.Querying.{query_call, query_single_call}
use Rattle.jpa_machine.proofs.machine.Queried.{query_call_goes, query_single_call_goes}
use Rattle.jpa_machine.specs.machine.Transactions.{commit_work, is_current}
use Rattle.jpa_open.specs.Differences.{merged}
use Rattle.jpa_machine.proofs.machine.MergedHeld.{merged_held}
use Rattle.jpa_machine.proofs.machine.Facts.{held_more, numbers_trans}
use Rattle.jpa_flush.specs.flush.Flush.{flush}
use Rattle.jpa_machine.specs.machine.Routes.{route, holder_in, get_call, set_call, add_call, take_out_call, persist_call, remove_call, refresh_call, detach_call, merge_call, lock_call, flush_call, find_call, get_reference_call}
use Rattle.jpa_machine.specs.machine.Invariant.{IsMachine, hands_representable}
use Rattle.jpa_machine.proofs.machine.AtWork.{others_of, IsAtWork, IsOpen, MayReturn, taken, holder_may, may_still}
use Rattle.jpa_machine.proofs.machine.Handed.{get_call_goes, get_call_unheld, add_call_goes, add_call_unheld, take_out_call_goes, take_out_call_unheld, set_call_holds, persist_call_goes, remove_call_goes, refresh_call_goes, detach_call_goes, merge_call_goes, lock_call_goes, flush_call_goes, find_call_goes, get_reference_call_goes, commit_work_holds}
use Rattle.jpa_machine.proofs.machine.Ways.{Does}
use Rattle.jpa_operations.specs.fetch.Orderly.{IsOrderly}

-- ---- of a manager that is open, and of whoever holds an object

module _ (world : World) (M : Machine) (P K : ℕ → Work → Type 0) (steps : (m : ℕ) → Steps world (P m)) (give : (m : ℕ) (w : Work) → P m w → MayReturn M m w → K m w)
    (viewed : (m : ℕ) (w : Work) (s : StoredSet) → P m w → CanBeHeld world s w.numbers → P m (with_view s w))
    (commits : (m : ℕ) (v : Work) → P m v → is_current world.model M.committed (begun_set M m) v ≡ true → fault_of world.model (merged M.committed (begun_set M m) v.view) ≡ None → P m (with_view (merged M.committed (begun_set M m) v.view) v)) (convertible : AnswersConvertible world) (inherited : AreInherited world.model) where
  of_open : {A : Type 0} (m : ℕ) → IsOpen M m → (o : Outcome A) → HoldsAfter (λ a w. P m w) o → HoldsAfter (λ a w. K m w) o
  of_open m is_open (Done a w) p = give m w p (inl is_open)
  of_open m is_open (Refused r events) p = tt

  of_set : {A : Type 0} (m : ℕ) (v : Work) → P m v → MayReturn M m v → (o : Outcome A) → HoldsAfter (λ a w. HasSet world v w) o → HoldsAfter (λ a w. K m w) o
  of_set m v p may (Done a w) s = give m w (subst (P m) (sym s.4) ((steps m).sets s.0 s.1 v p s.2 s.3)) (may_still v w (ap (λ (u : Work). u.context) s.4) may)
  of_set m v p may (Refused r events) s = tt

  -- its holder keeps what it did; nobody's context stays as it is
  of_object : {A : Type 0} (m : ℕ) (v : Work) → MayReturn M m v → (o : Outcome A) → HoldsAfter (λ a w. P m w) o → (v.context ≡ [] → HoldsAfter (λ a w. w.context ≡ v.context) o) → HoldsAfter (λ a w. K m w) o
  of_object m v may (Refused r events) p same = tt
  of_object m v (inl o) (Done a w) p same = give m w p (inl o)
  of_object m v (inr n) (Done a w) p same = give m w p (may_still v w (same n.1) (inr n))

  -- ---- each call

  does_by : IsOrderly world.model → IsMachine world M → ((m : ℕ) → P m (work_of M m)) → ((m : ℕ) (w : Work) → P m w → HoldsAfter (λ u v. P m v) (flush world w)) →
      (call : Call) → hands_representable call ≡ true → MakesRepresentable world M call → Does world M K (route call)
  does_by orderly h start flushes Call.CreateEntityManager rep made = tt
  does_by orderly h start flushes (Call.NewObject name) rep made = tt
  does_by orderly h start flushes (Call.SetValue object name value) rep made = λ n l.
      let m = holder_in M (object_at M.objects n).life in
      of_set m (work_of M m) (start m) (holder_may n l h) (set_call world name value n (work_of M m)) (set_call_holds world orderly (work_of M m) n name value l rep)
  does_by orderly h start flushes (Call.Get object name) rep made = λ n l.
      let m = holder_in M (object_at M.objects n).life in
      let w = work_of M m in
      of_object m w (holder_may n l h) (get_call world name n w) (get_call_goes (steps m) orderly name n w (start m) l) (λ empty. get_call_unheld world name n w (empty_unheld (taken m h) empty n l))
  does_by orderly h start flushes (Call.Add object name member) rep made = λ n l.
      let m = holder_in M (object_at M.objects n).life in
      let w = work_of M m in
      of_object m w (holder_may n l h) (add_call world name member n w) (add_call_goes (steps m) orderly name member n w (start m) l) (λ empty. add_call_unheld (steps m) orderly name member n w (start m) l (empty_unheld (taken m h) empty n l))
  does_by orderly h start flushes (Call.TakeOut object name member) rep made = λ n l.
      let m = holder_in M (object_at M.objects n).life in
      let w = work_of M m in
      of_object m w (holder_may n l h) (take_out_call world name member n w) (take_out_call_goes (steps m) orderly name member n w (start m) l) (λ empty. take_out_call_unheld (steps m) orderly name member n w (start m) l (empty_unheld (taken m h) empty n l))
  does_by orderly h start flushes (Call.Begin em) rep made = tt
  does_by orderly h start flushes (Call.Persist em object) rep made = λ m o. of_open m o (persist_call world object (work_of M m)) (persist_call_goes (steps m) object (work_of M m) (start m))
  does_by orderly h start flushes (Call.Remove em object) rep made = λ m o. of_open m o (remove_call world object (work_of M m)) (remove_call_goes (steps m) object (work_of M m) (start m))
  does_by orderly h start flushes (Call.Refresh em object) rep made = λ m o. of_open m o (refresh_call world object (work_of M m)) (refresh_call_goes (steps m) object (work_of M m) (start m))
  does_by orderly h start flushes (Call.Detach em object) rep made = λ m o. of_open m o (detach_call world object (work_of M m)) (detach_call_goes (steps m) object (work_of M m) (start m))
  does_by orderly h start flushes (Call.Merge em object) rep made = λ m o. of_open m o (merge_call world object (work_of M m)) (merge_call_goes (steps m) orderly object (work_of M m) (start m))
  does_by orderly h start flushes (Call.Lock em object mode) rep made = λ m o. of_open m o (lock_call world object mode (work_of M m)) (lock_call_goes (steps m) object mode (work_of M m) (start m))
  does_by orderly h start flushes (Call.Flush em) rep made = λ m o. of_open m o (flush_call world (work_of M m)) (flush_call_goes world (P m) (work_of M m) (flushes m (work_of M m) (start m)))
  does_by orderly h start flushes (Call.Commit em) rep made = λ m o. of_open m o (commit_work world M.committed (begun_set M m) (work_of M m))
      (commit_work_holds world (P m) (work_of M m) (flushes m (work_of M m) (start m)) M.committed (begun_set M m) (P m) (commits m))
  does_by orderly h start flushes (Call.Rollback em) rep made = tt
  does_by orderly h start flushes (Call.SetRollbackOnly em) rep made = tt
  does_by orderly h start flushes (Call.GetReference em name key) rep made = λ m o. of_open m o (get_reference_call world name key (work_of M m)) (get_reference_call_goes (steps m) name key (work_of M m) (start m))
  does_by orderly h start flushes (Call.Contains em object) rep made = tt
  does_by orderly h start flushes (Call.Clear em) rep made = tt
  does_by orderly h start flushes (Call.Close em) rep made = tt
  does_by orderly h start flushes (Call.SetFlushMode em mode) rep made = tt
  does_by orderly h start flushes (Call.Values objects) rep made = tt
  does_by orderly h start flushes (Call.Pending em) rep made = tt
  does_by orderly h start flushes Call.Restart rep made = tt
  does_by orderly h start flushes (Call.Index entity name) rep made = tt
  does_by orderly h start flushes (Call.Query em text parameters first max) rep made = λ m o.
      of_open m o (query_call text parameters first max (flushes_first M m) world (work_of M m)) (query_call_goes (steps m) (flushes m) text parameters first max (flushes_first M m) (work_of M m) (start m))
  does_by orderly h start flushes (Call.QuerySingle em text parameters first max) rep made = λ m o.
      of_open m o (query_single_call text parameters first max (flushes_first M m) world (work_of M m)) (query_single_call_goes (steps m) (flushes m) text parameters first max (flushes_first M m) (work_of M m) (start m))
  does_by orderly h start flushes (Call.Find em name key) rep made = λ m o. of_open m o (find_call world name key (work_of M m)) (find_call_goes (steps m) name key (work_of M m) (start m))
  does_by orderly h start flushes (Call.ExecuteUpdate em text parameters) rep made = λ m e o.
      of_open m o (update_outcome world M text parameters m)
      (update_call_goes (steps m) convertible inherited (flushes m) (viewed m) text parameters (has_transaction (manager_at M m)) (flushes_first M m) (work_of M m) (start m) (made m e))

-- ---- what holds of the machine

-- the machine may take the work back
pub record IsDone (world : World) (M : Machine) (m : ℕ) (w : Work) : Type 0 where
  pub at : IsAtWork world M m w
  pub back : MayReturn M m w

pub does : (world : World) (M : Machine) → IsOrderly world.model → IsRegular world → AreInherited world.model → (call : Call) → hands_representable call ≡ true → MakesRepresentable world M call → IsMachine world M →
    Does world M (IsDone world M) (route call)
does world M orderly regular inherited call rep made h =
    does_by world M (IsAtWork world M) (IsDone world M) (λ m. at_work (others_of M) m orderly regular.heard) (λ m w p b. record { at = p; back = b }) (λ m w s p held. viewed_at_work s held p)
    (λ m v p current sound. viewed_at_work (merged M.committed (begun_set M m) v.view) (merged_held M.committed (begun_set M m) v.view v.numbers (held_more v.numbers h.committed (numbers_trans M.stored_numbers M.numbers v.numbers h.stored p.raised) p.numbered) p.view sound) p) regular.convertible inherited
    orderly h (λ m. taken m h) (λ m w p. only (IsAtWork world M m) w (flush world w) (flush_goes orderly regular p)) call rep made

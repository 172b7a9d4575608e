-- What an operation leaves of a manager at work: what holds while it works holds then.
use Rattle.std.proofs.Common.{◌≡◌, ◌<◌, ℕ, Bool, true, List, length, sym, subst}
use Rattle.jpa_behaviour.specs.Behaviour.{World, IsRegular}
use Rattle.jpa_work.specs.context.Work.{Work}
use Rattle.jpa_work.specs.context.Steps.{Done, Op, Outcome, Refused}
use Rattle.jpa_operations.specs.fetch.Orderly.{IsOrderly}
use Rattle.jpa_flush.specs.flush.Flush.{flush}
use Rattle.jpa_merge.specs.Merge.{merge}
use Rattle.jpa_operations.specs.ops.States.{persist, remove, refresh, detach, lock}
use Rattle.jpa_rows.specs.rows.Cells.{all_representable}
use Rattle.jpql_bulk.specs.kept.Fits.{AreInherited}
use Rattle.jpa_protocol.specs.declared.call.Call.{Call}
use Rattle.jpa_protocol.specs.declared.call.Parameter.{Parameter}
use Rattle.jpa_protocol.specs.declared.reply.Answer.{Answer}
use Rattle.jpa_machine.specs.machine.Going.{HoldsAfter}
use Rattle.jpa_machine.proofs.machine.Changed.{HasSet}
use Rattle.jpa_machine.proofs.machine.Flushed.{flush_goes, viewed_at_work}
use Rattle.jpa_machine.proofs.machine.Going.{More, only}
use Rattle.jpa_machine.proofs.machine.Instances.{at_work}
use Rattle.jpa_machine.proofs.machine.Laws.{Steps, persist_goes, remove_goes, refresh_goes, detach_goes, lock_goes}
use Rattle.jpa_machine.proofs.machine.Merging.{merge_goes}
use Rattle.jpa_machine.specs.machine.Machine.{Machine, work_of}
use Rattle.jpa_machine.specs.machine.Calls.{nothing, object_told, told_as}
use Rattle.jpa_machine.specs.machine.Invariant.{IsMachine, hands_representable}
use Rattle.jpa_machine.specs.machine.Querying.{update_call}
use Rattle.jpa_machine.specs.machine.Routes.{set_call, flush_call, lock_of}
use Rattle.jpa_machine.proofs.machine.AtWork.{IsAtWork, others_of, taken}
use Rattle.jpa_machine.proofs.machine.Handed.{told_holds, get_call_goes, add_call_goes, take_out_call_goes, set_call_holds, find_call_goes, get_reference_call_goes, flush_call_goes}
use Rattle.jpa_machine.proofs.machine.Queried.{query_call_goes, query_single_call_goes}
use Rattle.jpa_machine.proofs.machine.Updated.{update_call_goes}
use Rattle.jpa_provider.specs.Operations.{at_object, by_key, by_query}

module _ (world : World) (M : Machine) (m : ℕ) (orderly : IsOrderly world.model) (regular : IsRegular world) (h : IsMachine world M) where
  abbrev P : Work → Type 0
  P v = IsAtWork world M m v

  abbrev w : Work
  w = work_of M m

  steps : Steps world (IsAtWork world M m)
  steps = at_work (others_of M) m orderly regular.heard

  start : IsAtWork world M m (work_of M m)
  start = taken m h

  of_set : (o : Outcome Answer) → HoldsAfter (λ a v. HasSet world w v) o → HoldsAfter (λ a v. P v) o
  of_set (Done a v) s = subst P (sym s.4) (steps.sets s.0 s.1 w start s.2 s.3)
  of_set (Refused r events) s = tt

  -- ---- on an object

  done_so : (op : Op (Unit {0})) → HoldsAfter (λ u v. P v × More w v) (op w) → HoldsAfter (λ a v. P v) (told_as nothing op w)
  done_so op h = told_holds P nothing (op w) (only P w (op w) h)

  merged_so : (o : Outcome ℕ) → HoldsAfter (λ k v. P v × More w v × (k < length v.objects)) o → HoldsAfter (λ k v. P v) o
  merged_so (Done k v) g = g.0
  merged_so (Refused r events) g = tt

  pub operates : (call : Call) → hands_representable call ≡ true → (n : ℕ) → n < length w.objects → HoldsAfter (λ a v. P v) (at_object call world n w)
  operates (Call.Get object name) rep n l = get_call_goes steps orderly name n w start l
  operates (Call.SetValue object name value) rep n l = of_set (set_call world name value n w) (set_call_holds world orderly w n name value l rep)
  operates (Call.Add object name member) rep n l = add_call_goes steps orderly name member n w start l
  operates (Call.TakeOut object name member) rep n l = take_out_call_goes steps orderly name member n w start l
  operates (Call.Persist em object) rep n l = done_so (persist world n) (persist_goes steps n w start l)
  operates (Call.Remove em object) rep n l = done_so (remove world n) (remove_goes steps n w start l)
  operates (Call.Refresh em object) rep n l = done_so (refresh world n) (refresh_goes steps n w start l)
  operates (Call.Detach em object) rep n l = done_so (detach world n) (detach_goes steps n w start l)
  operates (Call.Merge em object) rep n l = told_holds P object_told (merge world n w) (merged_so (merge world n w) (merge_goes orderly steps n w start l))
  operates (Call.Lock em object mode) rep n l = done_so (lock world n (lock_of mode)) (lock_goes steps n (lock_of mode) w start)
  operates call rep n l = start

  -- ---- by a key

  pub finds : (call : Call) → HoldsAfter (λ a v. P v) (by_key call world w)
  finds (Call.Find em name key) = find_call_goes steps name key w start
  finds (Call.GetReference em name key) = get_reference_call_goes steps name key w start
  finds call = start

  -- ---- flush, queries, updates

  flushed : (v : Work) → P v → HoldsAfter (λ u v'. P v') (flush world v)
  flushed v p = only P v (flush world v) (flush_goes orderly regular p)

  pub flushes : HoldsAfter (λ a v. P v) (flush_call world w)
  flushes = flush_call_goes world P w (flushed w start)

  pub asks : (call : Call) (first : Bool) → HoldsAfter (λ a v. P v) (by_query call first world w)
  asks (Call.Query em text parameters from most) first = query_call_goes steps flushed text parameters from most first w start
  asks (Call.QuerySingle em text parameters from most) first = query_single_call_goes steps flushed text parameters from most first w start
  asks call first = start

  pub updates : AreInherited world.model → (text : List ℕ) (ps : List Parameter) (is_active first : Bool) →
      HoldsAfter (λ (a : Answer) v. all_representable v.view ≡ true) (update_call text ps is_active first world w) → HoldsAfter (λ a v. P v) (update_call text ps is_active first world w)
  updates inherited text ps is_active first made = update_call_goes steps regular.convertible inherited flushed (λ v s p held. viewed_at_work s held p) text ps is_active first w start made

-- What the operations of calls keep, with what the calls hand in: from the laws of the operations on a work.
use Rattle.std.proofs.Common.{◌≡◌, ◌<◌, ℕ, zero, suc, true, false, List, length, refl, ap, sym, subst, ◌∙◌}
use Rattle.std.specs.Prelude.{nat_lt, Bool, Option, Some, None, if◌then◌else◌, ℤ, pos, negsuc, is_some}
use Rattle.std.specs.List.{list_all}
use Rattle.std.specs.Option.{unwrap_or}
use Rattle.std.proofs.lemmas.Bool.{true≢false, ltb-true}
use Rattle.jpa_value.specs.declared.refusal.Argument.{Argument}
use Rattle.jpa_value.specs.declared.refusal.Cause.{Cause}
use Rattle.jpa_model.specs.Chains.{root_of, class_of}
use Rattle.jpa_behaviour.specs.Behaviour.{World, is_short}
use Rattle.jpa_protocol.specs.declared.call.Given.{Given}
use Rattle.jpa_protocol.specs.declared.call.LockMode.{LockMode}
use Rattle.jpa_protocol.specs.declared.reply.Answer.{Answer}
use Rattle.jpa_work.specs.heap.Objects.{place_of}
use Rattle.jpa_work.specs.heap.Shape.{IsInHeap}
use Rattle.jpa_work.specs.context.Work.{Work, state_of}
use Rattle.jpa_work.specs.context.Steps.{Outcome, Done, Refused, Op, after, give, change}
use Rattle.jpa_operations.specs.fetch.Load.{find}
use Rattle.jpa_operations.specs.fetch.Members.{get, set, add, take_out, is_held}
use Rattle.jpa_operations.specs.ops.States.{persist, remove, refresh, detach, lock}
use Rattle.jpa_merge.specs.Merge.{merge}
use Rattle.jpa_flush.specs.flush.Flush.{flush, reads_hold, sound_or}
use Rattle.jpa_machine.specs.machine.Calls.{object_numbered, handed, got, nothing, truth, object_told, object_or_null, told_as, give_or, class_named, key_given, is_short_given, whole_key}
use Rattle.jpa_value.specs.declared.refusal.PersistenceFault.{PersistenceFault}
use Rattle.jpa_stored.specs.objects.Sets.{StoredSet, fault_of}
use Rattle.jpa_open.specs.Differences.{merged}
use Rattle.jpa_updates.specs.Updates.{with_view}
use Rattle.jpa_machine.specs.machine.Transactions.{commit_work, is_current}
use Rattle.jpa_machine.specs.machine.Routes.{get_call, set_call, add_call, take_out_call, persist_call, remove_call, refresh_call, detach_call, merge_call, lock_call, lock_of, flush_call, find_call, get_reference_call, there_must_be}
use Rattle.jpa_machine.specs.machine.Invariant.{given_representable}
use Rattle.jpa_machine.specs.machine.Going.{HoldsAfter}
use Rattle.jpa_operations.specs.fetch.Orderly.{IsOrderly}
use Rattle.jpa_machine.proofs.machine.Going.{after_holds, require_holds, More, only}
use Rattle.jpa_machine.proofs.machine.Setting.{handed_representable}
use Rattle.jpa_machine.proofs.machine.Changed.{HasSet, set_holds}
use Rattle.jpa_machine.proofs.machine.Fetching.{get_goes, add_goes, take_out_goes}
use Rattle.jpa_machine.proofs.machine.Unheld.{get_unheld, add_unheld, take_out_unheld}
use Rattle.jpa_machine.proofs.machine.Laws.{Steps, persist_goes, remove_goes, refresh_goes, detach_goes, lock_goes, find_goes}
use Rattle.jpa_machine.proofs.machine.Merging.{merge_goes}

-- ---- what is handed in

abbrev pub InHeap : Work → ℕ → Work → Type 0
InHeap w k w' = (k < length w.objects) × (w' ≡ w)

place_step : (b : Bool) (n k : ℕ) → (if b then Some n else None) ≡ Some k → (b ≡ true) × (n ≡ k)
place_step true n k e = (refl, ap (λ o. unwrap_or o n) e)
place_step false n k e = absurd (true≢false (sym (ap is_some e)))

pub place_within : (count : ℕ) (z : ℤ) (k : ℕ) → place_of count z ≡ Some k → k < count
place_within count (pos zero) k e = absurd (true≢false (sym (ap is_some e)))
place_within count (pos (suc n)) k e =
    let h = place_step (nat_lt n count) n k e in
    subst (λ j. j < count) h.1 (ltb-true n count h.0)
place_within count (negsuc n) k e = absurd (true≢false (sym (ap is_some e)))

place_given : (o : Option ℕ) (w : Work) → ((k : ℕ) → o ≡ Some k → k < length w.objects) → HoldsAfter (InHeap w) (give_or Cause.NoSuchObject o w)
place_given None w h = tt
place_given (Some k) w h = (h k refl, refl)

pub numbered_holds : (z : ℤ) (w : Work) → HoldsAfter (InHeap w) (object_numbered z w)
numbered_holds z w = place_given (place_of (length w.objects) z) w (place_within (length w.objects) z)

handed_holds : (g : Given) (w : Work) → given_representable g ≡ true → HoldsAfter (λ v w'. ((handed_representable v ≡ true) × IsInHeap w.objects v) × (w' ≡ w)) (handed g w)
handed_holds (Given.Plain v) w h = require_holds _ (is_short v) Cause.Limit w _ (λ short. ((h, tt), refl))
handed_holds (Given.Object z) w h = after_holds _ (InHeap w) (object_numbered z w) _ (numbered_holds z w) (λ k w' e. ((refl, e.0), e.1))

-- ---- the operations of calls

-- the answer of an operation, told so
pub told_holds : {A : Type 0} (K : Work → Type 0) (f : A → Answer) (o : Outcome A) → HoldsAfter (λ a w. K w) o → HoldsAfter (λ a w. K w) (after o (λ a. give (f a)))
told_holds K f (Done a w) k = k
told_holds K f (Refused r events) k = tt

pub set_call_holds : (world : World) → IsOrderly world.model → (w : Work) (n : ℕ) (name : List ℕ) (g : Given) → n < length w.objects → given_representable g ≡ true →
    HoldsAfter (λ a w'. HasSet world w w') (set_call world name g n w)
set_call_holds world orderly w n name g l rep =
    after_holds _ (λ v w'. ((handed_representable v ≡ true) × IsInHeap w.objects v) × (w' ≡ w)) (handed g w) (λ v. told_as nothing (set world n name v)) (handed_holds g w rep)
    (λ v w' h. subst (λ u. HoldsAfter (λ a w''. HasSet world w w'') (told_as nothing (set world n name v) u)) (sym h.1)
    (told_holds (HasSet world w) nothing (set world n name v w) (set_holds world orderly w n name v l (h.0).0 (h.0).1)))

weaker : {A : Type 0} (Q R : Work → Type 0) (o : Outcome A) → ((v : Work) → Q v → R v) → HoldsAfter (λ a v. Q v) o → HoldsAfter (λ a v. R v) o
weaker Q R (Done a v) k h = k v h
weaker Q R (Refused r events) k h = tt

-- of an object that the manager doesn't hold
pub get_call_unheld : (world : World) (name : List ℕ) (n : ℕ) (w : Work) → is_held (state_of w n) ≡ false → HoldsAfter (λ a v. v.context ≡ w.context) (get_call world name n w)
get_call_unheld world name n w apart =
    told_holds (λ v. v.context ≡ w.context) got (get world n name w)
    (weaker (λ v. v ≡ w) (λ v. v.context ≡ w.context) (get world n name w) (λ v e. ap (λ (u : Work). u.context) e) (get_unheld world n w apart name))

-- an operation that is handed another object by its number
with_member : {A : Type 0} (R : Work → Work → Type 0) (f : A → Answer) (op : ℕ → Op A) (number : ℤ) (w : Work) → ((k : ℕ) → k < length w.objects → HoldsAfter (λ a v. R w v) (op k w)) →
    HoldsAfter (λ a v. R w v) (after (object_numbered number w) (λ k. told_as f (op k)))
with_member R f op number w goes =
    after_holds (λ a v. R w v) (InHeap w) (object_numbered number w) (λ k. told_as f (op k)) (numbered_holds number w)
    (λ k v e. subst (λ v'. HoldsAfter (λ a u. R w u) (told_as f (op k) v')) (sym e.1) (told_holds (R w) f (op k w) (goes k e.0)))

given_or : {A : Type 0} (r : Cause) (o : Option A) (w : Work) → HoldsAfter (λ a w'. w' ≡ w) (give_or r o w)
given_or r None w = tt
given_or r (Some a) w = refl

there_holds : (K : Work → Type 0) (a : Answer) (w : Work) → K w → HoldsAfter (λ b w'. K w') (there_must_be a w)
there_holds K Answer.Null w k = tt
there_holds K (Answer.Truth b) w k = k
there_holds K (Answer.Number n) w k = k
there_holds K (Answer.Value v) w k = k
there_holds K (Answer.Object n) w k = k
there_holds K (Answer.Objects ns) w k = k
there_holds K (Answer.Row items) w k = k
there_holds K (Answer.Rows rows) w k = k
there_holds K (Answer.Shown xs) w k = k
there_holds K (Answer.Due ds) w k = k

-- with what the steps keep
module _ {world : World} {P : Work → Type 0} (steps : Steps world P) where
  -- an operation on an object by its number
  numbered_goes : (op : ℕ → Op (Unit {0})) → ((n : ℕ) (w : Work) → P w → n < length w.objects → HoldsAfter (λ u v. P v × More w v) (op n w)) →
      (number : ℤ) (w : Work) → P w → HoldsAfter (λ a v. P v) (after (object_numbered number w) (λ n. told_as nothing (op n)))
  numbered_goes op goes number w p =
      after_holds (λ a v. P v) (InHeap w) (object_numbered number w) (λ n. told_as nothing (op n)) (numbered_holds number w)
      (λ n v e. subst (λ v'. HoldsAfter (λ a u. P u) (told_as nothing (op n) v')) (sym e.1) (told_holds P nothing (op n w) (only P w (op n w) (goes n w p e.0))))

  pub get_call_goes : IsOrderly world.model → (name : List ℕ) (n : ℕ) (w : Work) → P w → n < length w.objects → HoldsAfter (λ a v. P v) (get_call world name n w)
  get_call_goes orderly name n w p l = told_holds P got (get world n name w) (only P w (get world n name w) (get_goes orderly steps n name w p l))

  pub add_call_goes : IsOrderly world.model → (name : List ℕ) (number : ℤ) (n : ℕ) (w : Work) → P w → n < length w.objects → HoldsAfter (λ a v. P v) (add_call world name number n w)
  add_call_goes orderly name number n w p l =
      with_member (λ u v. P v) nothing (add world n name) number w (λ k j. only P w (add world n name k w) (add_goes orderly steps n name k w p l j))

  pub take_out_call_goes : IsOrderly world.model → (name : List ℕ) (number : ℤ) (n : ℕ) (w : Work) → P w → n < length w.objects → HoldsAfter (λ a v. P v) (take_out_call world name number n w)
  take_out_call_goes orderly name number n w p l =
      with_member (λ u v. P v) truth (take_out world n name) number w (λ k j. only P w (take_out world n name k w) (take_out_goes orderly steps n name k w p l j))

  -- on an object that the manager doesn't hold: its context stays as it is
  pub add_call_unheld : IsOrderly world.model → (name : List ℕ) (number : ℤ) (n : ℕ) (w : Work) → P w → n < length w.objects → is_held (state_of w n) ≡ false →
      HoldsAfter (λ a v. v.context ≡ w.context) (add_call world name number n w)
  add_call_unheld orderly name number n w p l apart =
      with_member (λ u v. v.context ≡ u.context) nothing (add world n name) number w
      (λ k j. weaker (HasSet world w) (λ v. v.context ≡ w.context) (add world n name k w) (λ v s. ap (λ (u : Work). u.context) s.4) (add_unheld orderly steps n name k w p l j apart))

  pub take_out_call_unheld : IsOrderly world.model → (name : List ℕ) (number : ℤ) (n : ℕ) (w : Work) → P w → n < length w.objects → is_held (state_of w n) ≡ false →
      HoldsAfter (λ a v. v.context ≡ w.context) (take_out_call world name number n w)
  take_out_call_unheld orderly name number n w p l apart =
      with_member (λ u v. v.context ≡ u.context) truth (take_out world n name) number w
      (λ k j. weaker (HasSet world w) (λ v. v.context ≡ w.context) (take_out world n name k w) (λ v s. ap (λ (u : Work). u.context) s.4) (take_out_unheld orderly steps n name k w p l j apart))

  pub persist_call_goes : (number : ℤ) (w : Work) → P w → HoldsAfter (λ a v. P v) (persist_call world number w)
  persist_call_goes = numbered_goes (persist world) (persist_goes steps)

  pub remove_call_goes : (number : ℤ) (w : Work) → P w → HoldsAfter (λ a v. P v) (remove_call world number w)
  remove_call_goes = numbered_goes (remove world) (remove_goes steps)

  pub refresh_call_goes : (number : ℤ) (w : Work) → P w → HoldsAfter (λ a v. P v) (refresh_call world number w)
  refresh_call_goes = numbered_goes (refresh world) (refresh_goes steps)

  pub merge_call_goes : IsOrderly world.model → (number : ℤ) (w : Work) → P w → HoldsAfter (λ a v. P v) (merge_call world number w)
  merge_call_goes orderly number w p = with_member (λ u v. P v) object_told (merge world) number w (λ n l. merged_only w (merge world n w) (merge_goes orderly steps n w p l))
    where
      merged_only : (w : Work) (o : Outcome ℕ) → HoldsAfter (λ k v. P v × More w v × (k < length v.objects)) o → HoldsAfter (λ k v. P v) o
      merged_only w (Done k v) h = h.0
      merged_only w (Refused r events) h = tt

  pub lock_call_goes : (number : ℤ) (mode : LockMode) (w : Work) → P w → HoldsAfter (λ a v. P v) (lock_call world number mode w)
  lock_call_goes number mode = numbered_goes (λ n. lock world n (lock_of mode)) (λ n w p l. lock_goes steps n (lock_of mode) w p) number

  pub detach_call_goes : (number : ℤ) (w : Work) → P w → HoldsAfter (λ a v. P v) (detach_call world number w)
  detach_call_goes = numbered_goes (detach world) (detach_goes steps)

  pub find_call_goes : (name : List ℕ) (key : List Given) (w : Work) → P w → HoldsAfter (λ a v. P v) (find_call world name key w)
  find_call_goes name key w p =
      require_holds (λ a v. P v) (list_all is_short_given key) Cause.Limit w _ (λ short.
      after_holds (λ a v. P v) (λ class v. v ≡ w) (class_named world name w) _ (given_or (Cause.IllegalArgument Argument.Entity) (class_of world.model name) w) (λ class v e.
      after_holds (λ a u. P u) (λ vs u. u ≡ v) (key_given world class key v) _ (given_or (Cause.IllegalArgument Argument.Key) (whole_key (root_of world.model class).key key) v) (λ vs u e'.
      subst (λ w'. HoldsAfter (λ a u'. P u') (told_as object_or_null (find world class vs) w')) (sym (e' ∙ e)) (told_holds P object_or_null (find world class vs w) (find_goes steps class vs w p)))))

  pub get_reference_call_goes : (name : List ℕ) (key : List Given) (w : Work) → P w → HoldsAfter (λ a v. P v) (get_reference_call world name key w)
  get_reference_call_goes name key w p =
      after_holds (λ a v. P v) (λ a v. P v) (find_call world name key w) there_must_be (find_call_goes name key w p) (λ a v k. there_holds P a v k)

-- ---- with what a flush keeps

module _ (world : World) (P : Work → Type 0) (w : Work) (flushes : HoldsAfter (λ u v. P v) (flush world w)) where
  pub flush_call_goes : HoldsAfter (λ a v. P v) (flush_call world w)
  flush_call_goes = told_holds P nothing (flush world w) flushes

  -- what a commit makes of what is flushed, where it is current and the set that comes of it is sound
  pub commit_work_holds : (committed begun : StoredSet) (Q : Work → Type 0) →
      ((v : Work) → P v → is_current world.model committed begun v ≡ true → fault_of world.model (merged committed begun v.view) ≡ None → Q (with_view (merged committed begun v.view) v)) →
      HoldsAfter (λ u v. Q v) (commit_work world committed begun w)
  commit_work_holds committed begun Q makes =
      after_holds (λ u v. Q v) (λ u v. P v) (flush world w) _ flushes (λ u v p.
      require_holds (λ u' v'. Q v') (is_current world.model committed begun v) Cause.OptimisticLock v _ (λ current.
      require_holds (λ u' v'. Q v') (reads_hold world.model v) Cause.OptimisticLock v _ (λ hold.
      by_fault v (merged committed begun v.view) (fault_of world.model (merged committed begun v.view)) (λ sound. makes v p current sound))))
    where
      by_fault : (v : Work) (s : StoredSet) (f : Option PersistenceFault) → (f ≡ None → Q (with_view s v)) → HoldsAfter (λ u' v'. Q v') (after (sound_or f v) (λ u'. change (with_view s)))
      by_fault v s None k = k refl
      by_fault v s (Some fault) k = tt

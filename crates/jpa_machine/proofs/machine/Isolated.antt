-- Each step of the machine is a move of the committed set and of open transactions, so that the law of isolation holds of every run.
use Rattle.std.proofs.Common.{◌≡◌, ◌≢◌, ◌<◌, inl, inr, ℕ, zero, suc, Bool, true, false, List, [], ◌∷◌, ◌++◌, length, map, refl, ap, sym, subst, ◌∙◌}
use Rattle.std.specs.Prelude.{◌&&◌, ◌||◌, not, Option, Some, None, slice_index_or, slice_set}
use Rattle.std.proofs.lemmas.Bool.{and_parts, false≢true, true≢false}
use Rattle.std.proofs.Math.Seq.{map-set_same}
use Rattle.jpa_behaviour.specs.Behaviour.{World, IsRegular}
use Rattle.jpa_stored.specs.objects.Sets.{StoredSet}
use Rattle.jpa_work.specs.heap.Objects.{object_at}
use Rattle.jpa_work.specs.context.Work.{Work}
use Rattle.jpa_work.specs.context.Steps.{Outcome, Done, Refused}
use Rattle.jpa_operations.specs.fetch.Orderly.{IsOrderly}
use Rattle.jpa_flush.specs.flush.Flush.{flush}
use Rattle.jpa_protocol.specs.declared.call.Call.{Call}
use Rattle.jpa_protocol.specs.declared.reply.Reply.{Reply}
use Rattle.jpa_open.specs.Differences.{all_agree, differing, merged}
use Rattle.jpa_open.specs.Moves.{Snapshot, Move, Creates, Begins, Works, Ends, Commits, Restarts, Rests, transaction_at, begun_in, begun_of, seen_in}
use Rattle.jpa_machine.specs.machine.Going.{HoldsAfter}
use Rattle.jpa_machine.proofs.machine.Changed.{HasSet}
use Rattle.jpa_machine.proofs.machine.Instances.{at_work}
use Rattle.jpa_machine.specs.machine.Machine as machine
use Rattle.jpa_machine.specs.machine.Machine.{Machine, Manager, Transaction, no_manager, manager_at, has_transaction, any_begun, begun_set, work_of, marked_in, view}
use Rattle.jpa_value.specs.declared.refusal.Refusal.{Refusal}
use Rattle.jpa_protocol.specs.declared.reply.Answer.{Answer}
use Rattle.jpa_work.specs.context.Work.{unlocked}
use Rattle.std.specs.List.{filter, list_any}
use Rattle.jpa_machine.specs.machine.Calls.{accepted, refused, because, marked_if}
use Rattle.jpa_machine.specs.machine.Transactions.{is_current, locked_ids, commit_work, begun}
use Rattle.jpa_machine.specs.machine.Routes.{Route, OfManager, ToQuery, ToUpdate, InTransaction, OfObject, ToCreate, ToMake, ToBegin, ToCommit, ToRollBack, ToMark, ToAsk, ToClear, ToSetMode, ToClose, ToRead, ToRestart, route, commits, holder_in, get_call, set_call, add_call, take_out_call}
use Rattle.jpa_machine.specs.machine.Invariant.{IsMachine, hands_representable}
use Rattle.jpa_machine.specs.machine.Step.{Step, IsGivenUp}
use Rattle.jpa_machine.specs.machine.Isolated.{snapshot_of, snapshot_in, scene_of, named_in, is_ok, IsMoveAlong, IsSomeMove}
use Rattle.jpa_machine.proofs.machine.AtWork.{IsOpen, IsAtWork, others_of, taken}
use Rattle.jpa_machine.proofs.machine.Handed.{get_call_goes, add_call_goes, take_out_call_goes, set_call_holds, commit_work_holds}
use Rattle.jpa_machine.proofs.machine.SameView.{same_view}
use Rattle.jpa_machine.proofs.machine.Ways.{IsOther, Named, Names, is_of_object, Ways, Does, holds_anyway, on_route}

-- ---- scenes

place_in : (xs : List Manager) (m : ℕ) → slice_index_or (map snapshot_in xs) m None ≡ snapshot_in (slice_index_or xs m no_manager)
place_in [] m = refl
place_in (x ∷ xs) zero = refl
place_in (x ∷ xs) (suc m) = place_in xs m

pub transaction_in : (M : Machine) (m : ℕ) → transaction_at (scene_of M) m ≡ snapshot_in (manager_at M m)
transaction_in M m = place_in M.managers m

set_in : (xs : List Manager) (m : ℕ) (x : Manager) → map snapshot_in (slice_set xs m x) ≡ slice_set (map snapshot_in xs) m (snapshot_in x)
set_in [] m x = refl
set_in (y ∷ ys) zero x = refl
set_in (y ∷ ys) (suc m) x = ap (λ ts. snapshot_in y ∷ ts) (set_in ys m x)

one_more : (xs : List Manager) (x : Manager) → map snapshot_in (xs ++ x ∷ []) ≡ map snapshot_in xs ++ snapshot_in x ∷ []
one_more [] x = refl
one_more (y ∷ ys) x = ap (λ ts. snapshot_in y ∷ ts) (one_more ys x)

long : (xs : List Manager) → length (map snapshot_in xs) ≡ length xs
long [] = refl
long (x ∷ xs) = ap suc (long xs)

begun_same : (M : Machine) (t : Option Transaction) → begun_in (snapshot_of t) M.committed ≡ machine.begun_in t M.committed
begun_same M None = refl
begun_same M (Some t) = refl

pub begun_at : (M : Machine) (m : ℕ) → begun_of (scene_of M) m ≡ begun_set M m
begun_at M m = ap (λ t. begun_in t M.committed) (transaction_in M m) ∙ begun_same M (manager_at M m).transaction

marks_same : (t : Option Transaction) → snapshot_of (marked_in t) ≡ snapshot_of t
marks_same None = refl
marks_same (Some t) = refl

sees_same : (t : Option Transaction) (s : StoredSet) → snapshot_of (machine.seen_in t s) ≡ seen_in s (snapshot_of t)
sees_same None s = refl
sees_same (Some t) s = refl

there : (t : Option Transaction) → machine.is_begun t ≡ true → (s : Snapshot) × (snapshot_of t ≡ Some s)
there None e = absurd (false≢true e)
there (Some t) e = (record { begun = t.begun; view = t.view }, refl)

closed_none : (t : Option Transaction) → machine.is_begun t ≡ false → snapshot_of t ≡ None
closed_none None e = refl
closed_none (Some t) e = absurd (true≢false e)

or_parts : (a b : Bool) → (a || b) ≡ false → (a ≡ false) × (b ≡ false)
or_parts true b e = absurd (true≢false e)
or_parts false b e = (refl, e)

none_there : (t : Option Transaction) → t ≡ None → snapshot_of t ≡ None
none_there t e = ap snapshot_of e

-- where no manager has one open, none has
none_open : (xs : List Manager) → list_any has_transaction xs ≡ false → (m : ℕ) → snapshot_in (slice_index_or xs m no_manager) ≡ None
none_open [] e zero = refl
none_open [] e (suc m) = refl
none_open (x ∷ xs) e zero = closed_none x.transaction (or_parts (has_transaction x) (list_any has_transaction xs) e).0
none_open (x ∷ xs) e (suc m) = none_open xs (or_parts (has_transaction x) (list_any has_transaction xs) e).1 m

-- a manager replaced by one with the same sets
still_scene : (M N : Machine) (m : ℕ) (x : Manager) → N.committed ≡ M.committed → N.managers ≡ slice_set M.managers m x → snapshot_in x ≡ snapshot_in (manager_at M m) → scene_of N ≡ scene_of M
still_scene M N m x c e same = λ i. record { committed = c i; transactions = (ap (map snapshot_in) e ∙ map-set_same snapshot_in M.managers m x no_manager same) i }

-- ---- what is known of a work that is done, by the route of its call

-- a commit's flush was done, and is current
pub record IsCommit (world : World) (M : Machine) (m : ℕ) (w : Work) : Type 0 where
  pub flushed : Work
  pub is_flushed : flush world (work_of M m) ≡ Done tt flushed
  pub current : is_current world.model M.committed (begun_set M m) flushed ≡ true
  pub takes : w.view ≡ merged M.committed (begun_set M m) flushed.view

abbrev Known : World → Machine → Route → ℕ → Work → Type 0
Known world M (ToCommit em) m w = IsCommit world M m w
Known world M (OfObject number op) m w = w.view ≡ view M m
Known world M (OfManager em op) m w = Unit {0}
Known world M (ToQuery em op) m w = Unit {0}
Known world M (ToUpdate em op) m w = Unit {0}
Known world M (InTransaction em given op) m w = Unit {0}
Known world M ToCreate m w = Unit {0}
Known world M (ToMake name) m w = Unit {0}
Known world M (ToBegin em) m w = Unit {0}
Known world M (ToRollBack em) m w = Unit {0}
Known world M (ToMark em) m w = Unit {0}
Known world M (ToAsk em question) m w = Unit {0}
Known world M (ToClear em) m w = Unit {0}
Known world M (ToSetMode em mode) m w = Unit {0}
Known world M (ToClose em) m w = Unit {0}
Known world M (ToRead question) m w = Unit {0}
Known world M ToRestart m w = Unit {0}

-- a commit's
done_there : (o : Outcome (Unit {0})) → HoldsAfter (λ u v. o ≡ Done tt v) o
done_there (Done u v) = refl
done_there (Refused r events) = tt

commit_known : (world : World) (M : Machine) (m : ℕ) → HoldsAfter (λ u w. IsCommit world M m w) (commit_work world M.committed (begun_set M m) (work_of M m))
commit_known world M m =
    commit_work_holds world (λ v. flush world (work_of M m) ≡ Done tt v) (work_of M m) (done_there (flush world (work_of M m))) M.committed (begun_set M m) (λ w. IsCommit world M m w)
    (λ v p current sound. record { flushed = v; is_flushed = p; current = current; takes = refl })

second : {A : Type 0} (P R : Work → Type 0) (o : Outcome A) → HoldsAfter (λ a v. P v × R v) o → HoldsAfter (λ a v. R v) o
second P R (Done a v) h = h.1
second P R (Refused r events) h = tt

set_same : {A : Type 0} (world : World) (w : Work) (o : Outcome A) → HoldsAfter (λ a v. HasSet world w v) o → HoldsAfter (λ a v. v.view ≡ w.view) o
set_same world w (Done a v) s = ap (λ (u : Work). u.view) s.4
set_same world w (Refused r events) s = tt

module _ {world : World} (M : Machine) (orderly : IsOrderly world.model) (regular : IsRegular world) (h : IsMachine world M) where
  knows : (call : Call) → hands_representable call ≡ true → Does world M (Known world M (route call)) (route call)
  knows Call.CreateEntityManager rep = tt
  knows (Call.NewObject name) rep = tt
  knows (Call.SetValue object name value) rep = λ n l.
      let m = holder_in M (object_at M.objects n).life in
      set_same world (work_of M m) (set_call world name value n (work_of M m)) (set_call_holds world orderly (work_of M m) n name value l rep)
  knows (Call.Get object name) rep = λ n l.
      let m = holder_in M (object_at M.objects n).life in
      second (IsAtWork world M m) (λ v. v.view ≡ view M m) (get_call world name n (work_of M m)) (get_call_goes (same_view (view M m) (at_work (others_of M) m orderly regular.heard)) orderly name n (work_of M m) (taken m h, refl) l)
  knows (Call.Add object name member) rep = λ n l.
      let m = holder_in M (object_at M.objects n).life in
      second (IsAtWork world M m) (λ v. v.view ≡ view M m) (add_call world name member n (work_of M m)) (add_call_goes (same_view (view M m) (at_work (others_of M) m orderly regular.heard)) orderly name member n (work_of M m) (taken m h, refl) l)
  knows (Call.TakeOut object name member) rep = λ n l.
      let m = holder_in M (object_at M.objects n).life in
      second (IsAtWork world M m) (λ v. v.view ≡ view M m) (take_out_call world name member n (work_of M m)) (take_out_call_goes (same_view (view M m) (at_work (others_of M) m orderly regular.heard)) orderly name member n (work_of M m) (taken m h, refl) l)
  knows (Call.Commit em) rep = λ m o. commit_known world M m
  knows (Call.Begin em) rep = tt
  knows (Call.Persist em object) rep = λ m o. holds_anyway _
  knows (Call.Remove em object) rep = λ m o. holds_anyway _
  knows (Call.Refresh em object) rep = λ m o. holds_anyway _
  knows (Call.Detach em object) rep = λ m o. holds_anyway _
  knows (Call.Merge em object) rep = λ m o. holds_anyway _
  knows (Call.Lock em object mode) rep = λ m o. holds_anyway _
  knows (Call.Flush em) rep = λ m o. holds_anyway _
  knows (Call.Rollback em) rep = tt
  knows (Call.SetRollbackOnly em) rep = tt
  knows (Call.Find em name key) rep = λ m o. holds_anyway _
  knows (Call.GetReference em name key) rep = λ m o. holds_anyway _
  knows (Call.Contains em object) rep = tt
  knows (Call.Clear em) rep = tt
  knows (Call.SetFlushMode em mode) rep = tt
  knows (Call.Values objects) rep = tt
  knows (Call.Pending em) rep = tt
  knows Call.Restart rep = tt
  knows (Call.Index entity name) rep = tt
  knows (Call.Query em text parameters first max) rep = λ m o. holds_anyway _
  knows (Call.QuerySingle em text parameters first max) rep = λ m o. holds_anyway _
  knows (Call.ExecuteUpdate em text parameters) rep = λ m e o. holds_anyway _
  knows (Call.Close em) rep = tt

-- ---- the move of a step

sees_kept : (C : StoredSet) (t : Option Transaction) (s : StoredSet) → s ≡ machine.view_in t C → snapshot_of (machine.seen_in t s) ≡ snapshot_of t
sees_kept C None s e = refl
sees_kept C (Some t) s e = ap (λ v. Some (record { begun = t.begun; view = v })) e

not_other : (M : Machine) (r : Route) (m k : ℕ) → Named M r m → named_in M r ≢ Some k → m ≢ k
not_other M r m k n other e = other (n ∙ ap Some e)

refused_none : (b : Bool) → (b && false) ≡ false
refused_none true = refl
refused_none false = refl

known_object : (world : World) (M : Machine) (r : Route) (m : ℕ) (w : Work) → is_of_object r ≡ true → Known world M r m w → w.view ≡ view M m
known_object world M (OfObject number op) m w e k = k
known_object world M (OfManager em op) m w e k = absurd (false≢true e)
known_object world M (ToQuery em op) m w e k = absurd (false≢true e)
known_object world M (ToUpdate em op) m w e k = absurd (false≢true e)
known_object world M (InTransaction em given op) m w e k = absurd (false≢true e)
known_object world M ToCreate m w e k = absurd (false≢true e)
known_object world M (ToMake name) m w e k = absurd (false≢true e)
known_object world M (ToBegin em) m w e k = absurd (false≢true e)
known_object world M (ToCommit em) m w e k = absurd (false≢true e)
known_object world M (ToRollBack em) m w e k = absurd (false≢true e)
known_object world M (ToMark em) m w e k = absurd (false≢true e)
known_object world M (ToAsk em question) m w e k = absurd (false≢true e)
known_object world M (ToClear em) m w e k = absurd (false≢true e)
known_object world M (ToSetMode em mode) m w e k = absurd (false≢true e)
known_object world M (ToClose em) m w e k = absurd (false≢true e)
known_object world M (ToRead question) m w e k = absurd (false≢true e)
known_object world M ToRestart m w e k = absurd (false≢true e)

known_commit : (world : World) (M : Machine) (r : Route) (m : ℕ) (w : Work) → commits r ≡ true → Known world M r m w → IsCommit world M m w
known_commit world M (ToCommit em) m w e k = k
known_commit world M (OfObject number op) m w e k = absurd (false≢true e)
known_commit world M (OfManager em op) m w e k = absurd (false≢true e)
known_commit world M (ToQuery em op) m w e k = absurd (false≢true e)
known_commit world M (ToUpdate em op) m w e k = absurd (false≢true e)
known_commit world M (InTransaction em given op) m w e k = absurd (false≢true e)
known_commit world M ToCreate m w e k = absurd (false≢true e)
known_commit world M (ToMake name) m w e k = absurd (false≢true e)
known_commit world M (ToBegin em) m w e k = absurd (false≢true e)
known_commit world M (ToRollBack em) m w e k = absurd (false≢true e)
known_commit world M (ToMark em) m w e k = absurd (false≢true e)
known_commit world M (ToAsk em question) m w e k = absurd (false≢true e)
known_commit world M (ToClear em) m w e k = absurd (false≢true e)
known_commit world M (ToSetMode em mode) m w e k = absurd (false≢true e)
known_commit world M (ToClose em) m w e k = absurd (false≢true e)
known_commit world M (ToRead question) m w e k = absurd (false≢true e)
known_commit world M ToRestart m w e k = absurd (false≢true e)

module _ (world : World) (M : Machine) (r : Route) where
  abbrev MovesTo : Reply × Machine → Type 0
  MovesTo o = (move : Move) × IsMoveAlong world M r o.0 o.1 move

  rests : (reply : Reply) (N : Machine) → scene_of N ≡ scene_of M → (commits r && is_ok reply.answer) ≡ false → MovesTo (reply, N)
  rests reply N e none = (Rests, record { allowed = tt; makes = e; acknowledged = sym none; flushed = tt; apart = λ m n. tt })

  not_commit : (b : Bool) → commits r ≡ false → (commits r && b) ≡ false
  not_commit b e = ap (λ c. c && b) e

  -- a manager replaced
  replaced : (N : Machine) (m : ℕ) (x : Manager) → N.managers ≡ slice_set M.managers m x → (scene_of N).transactions ≡ slice_set (scene_of M).transactions m (snapshot_in x)
  replaced N m x e = ap (map snapshot_in) e ∙ set_in M.managers m x

  marked_scene : (b : Bool) (m : ℕ) → scene_of (marked_if b M m) ≡ scene_of M
  marked_scene true m = still_scene M (marked_if true M m) m (record (manager_at M m) { transaction = marked_in (manager_at M m).transaction }) refl refl (marks_same (manager_at M m).transaction)
  marked_scene false m = refl

  works : IsOther r → (m : ℕ) (w : Work) (a : Answer) → Named M r m → MovesTo (accepted w.events a (machine.kept M m w))
  works other m w a n =
      let t = (manager_at M m).transaction in
      let x : Manager = record (manager_at M m) { context = w.context; transaction = machine.seen_in t w.view } in (
        Works m w.view,
        record {
          allowed = tt;
          makes = λ i. record { committed = M.committed; transactions = (replaced (machine.kept M m w) m x refl ∙ ap (slice_set (scene_of M).transactions m) (sees_same t w.view ∙ ap (seen_in w.view) (sym (transaction_in M m)))) i };
          acknowledged = sym (not_commit true other.no_commit);
          flushed = tt;
          apart = λ k not. not_other M r m k n not;
        },
      )

  works_on : IsOther r → (m : ℕ) (w : Work) (a : Answer) → Names M r m → Known world M r m w → MovesTo (accepted w.events a (machine.kept M m w))
  works_on other m w a (inl n) k = works other m w a n
  works_on other m w a (inr e) k =
      let t = (manager_at M m).transaction in
      let x : Manager = record (manager_at M m) { context = w.context; transaction = machine.seen_in t w.view } in
      rests (accepted w.events a (machine.kept M m w)).0 (machine.kept M m w) (still_scene M (machine.kept M m w) m x refl refl (sees_kept M.committed t w.view (known_object world M r m w e k))) (not_commit true other.no_commit)

  begins_one : IsOther r → (m : ℕ) → IsOpen M m → Named M r m → (manager_at M m).transaction ≡ None → MovesTo (accepted [] Answer.Null (begun M m))
  begins_one other m o n free = (
    Begins m,
    record {
      allowed = record { within = subst (λ l. m < l) (sym (long M.managers)) o.within; none = transaction_in M m ∙ ap snapshot_of free };
      makes = λ i. record { committed = M.committed; transactions = replaced (begun M m) m (record (manager_at M m) { transaction = Some (record { begun = M.committed; view = M.committed; is_marked = false }) }) refl i };
      acknowledged = sym (not_commit true other.no_commit);
      flushed = tt;
      apart = λ k not. not_other M r m k n not;
    },
  )

  ends_one : (reply : Reply) (m : ℕ) → Named M r m → (commits r && is_ok reply.answer) ≡ false → MovesTo (reply, machine.rolled_back M m)
  ends_one reply m n none = (
    Ends m,
    record {
      allowed = tt;
      makes = λ i. record { committed = M.committed; transactions = replaced (machine.rolled_back M m) m (record (manager_at M m) { context = []; transaction = None }) refl i };
      acknowledged = sym none;
      flushed = tt;
      apart = λ k not. not_other M r m k n not;
    },
  )

  stores_one : commits r ≡ true → (m : ℕ) (w : Work) → Named M r m → has_transaction (manager_at M m) ≡ true → IsCommit world M m w → MovesTo (accepted w.events Answer.Null (machine.committed_after M m w))
  stores_one writes m w n has k =
      let S = begun_set M m in
      let v = k.flushed in
      let ids = locked_ids world.model v in
      let both = and_parts (all_agree M.committed S (differing S v.view)) (all_agree M.committed S ids) k.current in
      let since = begun_at M m in
      let x : Manager = record (manager_at M m) { context = (manager_at (machine.committed_after M m w) m).context; transaction = None } in
      let open_since = there (manager_at M m).transaction has in (
        Commits m v.view ids,
        record {
          allowed = record {
            open_since = (open_since.0, transaction_in M m ∙ open_since.1);
            changed = ap (λ s. all_agree M.committed s (differing s v.view)) since ∙ both.0;
            read = ap (λ s. all_agree M.committed s ids) since ∙ both.1;
          };
          makes = λ i. record {
            committed = (k.takes ∙ ap (λ s. merged M.committed s v.view) (sym since)) i;
            transactions = set_in M.managers m (record (manager_at M m) { context = map unlocked (filter (λ e. not (machine.is_gone w e)) w.context); transaction = None }) i;
          };
          acknowledged = sym (ap (λ c. c && true) writes);
          flushed = (v, k.is_flushed, refl, refl);
          apart = λ j not. not_other M r m j n not;
        },
      )

  ways : Ways world M r MovesTo (Known world M r)
  ways =
      record {
        same = λ cause. rests (because M cause).0 M refl (refused_none (commits r));
        creates = λ other few. (
          Creates,
          record {
            allowed = tt;
            makes = λ i. record { committed = M.committed; transactions = one_more M.managers machine.new_manager i };
            acknowledged = sym (not_commit true other.no_commit);
            flushed = tt;
            apart = λ m n. tt;
          },
        );
        makes = λ other class within few. rests _ _ refl (not_commit true other.no_commit);
        keeps = λ other m w a n k. works_on other m w a n k;
        refuses = λ other m events cause b. rests (refused events (Refusal.Because cause) M).0 (marked_if b M m) (marked_scene b m) (refused_none (commits r));
        begins = λ other m o n free. begins_one other m o n free;
        marking = λ other m. rests (accepted [] Answer.Null M).0 (marked_if true M m) (marked_scene true m) (not_commit true other.no_commit);
        tells = λ other a. rests (accepted [] a M).0 M refl (not_commit true other.no_commit);
        clears = λ other m o. rests (accepted [] Answer.Null M).0 (machine.cleared M m) (still_scene M (machine.cleared M m) m (record (manager_at M m) { context = [] }) refl refl refl) (not_commit true other.no_commit);
        sets_mode = λ other m o mode. rests (accepted [] Answer.Null M).0 (machine.with_mode M m mode) (still_scene M (machine.with_mode M m mode) m (record (manager_at M m) { mode = mode }) refl refl refl) (not_commit true other.no_commit);
        closes = λ other m o none. rests (accepted [] Answer.Null M).0 (machine.closed M m) (still_scene M (machine.closed M m) m (record (manager_at M m) { is_open = false; context = [] }) refl refl refl) (not_commit true other.no_commit);
        restarts = λ other none. (
          Restarts,
          record {
            allowed = λ m. transaction_in M m ∙ none_open M.managers none m;
            makes = refl;
            acknowledged = sym (not_commit true other.no_commit);
            flushed = tt;
            apart = λ m n. tt;
          },
        );
        rolls = λ apart m o n. ends_one (accepted [] Answer.Null M).0 m n (not_commit true apart);
        stores = λ writes apart m w o n has k. stores_one writes m w n has (known_commit world M r m w writes k);
        undoes = λ writes apart m events why o n. ends_one (refused events why M).0 m n (refused_none (commits r));
      }

-- ---- of a step

gave_up : (reply : Reply) → IsGivenUp reply → is_ok reply.answer ≡ false
gave_up reply (inl e) = ap (λ (x : Reply). is_ok x.answer) e
gave_up reply (inr e) = ap (λ (x : Reply). is_ok x.answer) e

-- each step is a move
pub step_moves : {world : World} (M : Machine) → IsOrderly world.model → IsRegular world → IsMachine world M → (call : Call) → hands_representable call ≡ true → (reply : Reply) (N : Machine) → Step world M call reply N →
    IsSomeMove world M call reply N
step_moves {world} M orderly regular h call rep reply N (inl done) =
    let r = route call in
    subst (MovesTo world M r) done (on_route r (ways world M r) (knows M orderly regular h call rep))
step_moves {world} M orderly regular h call rep reply N (inr g) =
    let r = route call in
    rests world M r reply N (ap scene_of g.2) (ap (λ b. commits r && b) (gave_up reply g.1) ∙ refused_none (commits r))

-- The ways in which calls end: what holds in each of them holds of every call, by cases on its route.
use Rattle.std.proofs.Common.{◌≡◌, ◌<◌, ◌⊎◌, inl, inr, ℕ, ℤ, Bool, true, false, List, [], ◌∷◌, ◌++◌, length, refl, ap, sym, subst}
use Rattle.std.specs.Prelude.{Result, Ok, Err, Option, Some, None, ◌&&◌, suc, nat_lt, count_by}
use Rattle.std.proofs.lemmas.Bool.{and_parts, ltb-true, cond_both}
use Rattle.jpa_value.specs.Limits.{most_managers, most_objects, most_open_managers}
use Rattle.jpa_value.specs.declared.refusal.Argument.{Argument}
use Rattle.jpa_value.specs.declared.refusal.Cause.{Cause}
use Rattle.jpa_value.specs.declared.refusal.Refusal.{Refusal}
use Rattle.jpa_value.specs.declared.refusal.State.{State}
use Rattle.jpa_model.specs.Chains.{class_of}
use Rattle.jpa_behaviour.specs.Behaviour.{World}
use Rattle.jpa_work.specs.heap.Objects.{place_of, object_at, new_object}
use Rattle.jpa_work.specs.context.Work.{Work}
use Rattle.jpa_work.specs.context.Steps.{Outcome, Done, Refused, after}
use Rattle.jpa_protocol.specs.declared.call.Call.{Call}
use Rattle.jpa_protocol.specs.declared.call.FlushMode.{FlushMode}
use Rattle.jpa_protocol.specs.declared.event.Told.{Told}
use Rattle.jpa_protocol.specs.declared.reply.Answer.{Answer}
use Rattle.jpa_protocol.specs.declared.reply.Reply.{Reply}
use Rattle.jpa_machine.specs.machine.Machine.{Machine, Manager, Transaction, manager_at, new_manager, is_begun, has_transaction, begun_set, work_of, kept, marked, flushes_first, rolled_back, with_mode, cleared, closed, committed_after, any_begun, restarted}
use Rattle.jpa_machine.specs.machine.Calls.{accepted, refused, because, ended, marks, marks_if_callback, marked_if, give_or}
use Rattle.jpa_machine.specs.machine.Transactions.{begin, begin_in, begun, commit, commit_in, commit_if, commit_of, commit_work, rollback, rollback_in, set_rollback_only, only_rollback_in}
use Rattle.jpa_machine.specs.machine.Routes.{Route, OfManager, ToQuery, ToUpdate, InTransaction, OfObject, ToCreate, ToMake, ToBegin, ToCommit, ToRollBack, ToMark, ToAsk, ToClear, ToSetMode, ToClose, ToRead, ToRestart, answered, by_route, if_open, if_begun, transaction_required, by_manager, close, made_new, holder, holder_in, commits, rolls_back}
use Rattle.jpa_machine.specs.machine.Step.{Step, outcome}
use Rattle.jpa_machine.specs.machine.Isolated.{named_in}
use Rattle.jpa_machine.specs.machine.Going.{HoldsAfter}
use Rattle.jpa_machine.proofs.machine.AtWork.{IsOpen}
use Rattle.jpa_machine.proofs.machine.Created.{class_within}
use Rattle.jpa_machine.proofs.machine.Handed.{place_within}

-- no commit and no rollback
pub record IsOther (r : Route) : Type 0 where
  pub no_commit : commits r ≡ false
  pub no_rollback : rolls_back r ≡ false

-- the manager at work is the one that the call names, or the one that holds the object
abbrev pub is_of_object : Route → Bool
is_of_object (OfObject number op) = true
is_of_object (OfManager em op) = false
is_of_object (ToQuery em op) = false
is_of_object (ToUpdate em op) = false
is_of_object (InTransaction em given op) = false
is_of_object ToCreate = false
is_of_object (ToMake name) = false
is_of_object (ToBegin em) = false
is_of_object (ToCommit em) = false
is_of_object (ToRollBack em) = false
is_of_object (ToMark em) = false
is_of_object (ToAsk em question) = false
is_of_object (ToClear em) = false
is_of_object (ToSetMode em mode) = false
is_of_object (ToClose em) = false
is_of_object (ToRead question) = false
is_of_object ToRestart = false

abbrev pub Named : Machine → Route → ℕ → Type 0
Named M r m = named_in M r ≡ Some m

abbrev pub Names : Machine → Route → ℕ → Type 0
Names M r m = Named M r m ⊎ (is_of_object r ≡ true)

-- P holds of the reply and the machine after it in each way to end; K is known of the work of an operation that is done
pub record Ways (world : World) (M : Machine) (r : Route) (P : Reply × Machine → Type 0) (K : ℕ → Work → Type 0) : Type 0 where
  pub same : (cause : Cause) → P (because M cause)
  pub creates : IsOther r → length M.managers < most_managers → P (accepted [] (Answer.Number (suc (length M.managers))) (record M { managers = M.managers ++ new_manager ∷ [] }))
  pub makes : IsOther r → (class : ℕ) → nat_lt class (length (world.model).entities) ≡ true → length M.objects < most_objects →
      P (accepted [] (Answer.Object (suc (length M.objects))) (record M { objects = M.objects ++ new_object world.model class ∷ [] }))
  pub keeps : IsOther r → (m : ℕ) (w : Work) (a : Answer) → Names M r m → K m w → P (accepted w.events a (kept M m w))
  pub refuses : IsOther r → (m : ℕ) (events : List Told) (cause : Cause) (b : Bool) → P (refused events (Refusal.Because cause) (marked_if b M m))
  pub begins : IsOther r → (m : ℕ) → IsOpen M m → Named M r m → (manager_at M m).transaction ≡ None → P (accepted [] Answer.Null (begun M m))
  pub marking : IsOther r → (m : ℕ) → P (accepted [] Answer.Null (marked M m))
  pub tells : IsOther r → (a : Answer) → P (accepted [] a M)
  pub clears : IsOther r → (m : ℕ) → IsOpen M m → P (accepted [] Answer.Null (cleared M m))
  pub sets_mode : IsOther r → (m : ℕ) → IsOpen M m → (mode : FlushMode) → P (accepted [] Answer.Null (with_mode M m mode))
  pub closes : IsOther r → (m : ℕ) → IsOpen M m → has_transaction (manager_at M m) ≡ false → P (accepted [] Answer.Null (closed M m))
  pub restarts : IsOther r → any_begun M ≡ false → P (accepted [] Answer.Null (restarted M))
  pub rolls : commits r ≡ false → (m : ℕ) → IsOpen M m → Named M r m → P (accepted [] Answer.Null (rolled_back M m))
  pub stores : commits r ≡ true → rolls_back r ≡ false → (m : ℕ) (w : Work) → IsOpen M m → Named M r m → has_transaction (manager_at M m) ≡ true → K m w → P (accepted w.events Answer.Null (committed_after M m w))
  pub undoes : commits r ≡ true → rolls_back r ≡ false → (m : ℕ) (events : List Told) (why : Refusal) → IsOpen M m → Named M r m → P (refused events why (rolled_back M m))

-- what the operation of a route leaves where it is done
abbrev pub Does : World → Machine → (ℕ → Work → Type 0) → Route → Type 0
Does world M K (OfManager em op) = (m : ℕ) → IsOpen M m → HoldsAfter (λ a w. K m w) (op world (work_of M m))
Does world M K (ToQuery em op) = (m : ℕ) → IsOpen M m → HoldsAfter (λ a w. K m w) (op (flushes_first M m) world (work_of M m))
Does world M K (ToUpdate em op) = (m : ℕ) → place_of (length M.managers) em ≡ Some m → IsOpen M m → HoldsAfter (λ a w. K m w) (op (has_transaction (manager_at M m)) (flushes_first M m) world (work_of M m))
Does world M K (InTransaction em given op) = (m : ℕ) → IsOpen M m → HoldsAfter (λ a w. K m w) (op world (work_of M m))
Does world M K (OfObject number op) = (n : ℕ) → n < length M.objects → let m = holder_in M (object_at M.objects n).life in HoldsAfter (λ a w. K m w) (op world n (work_of M m))
Does world M K (ToCommit em) = (m : ℕ) → IsOpen M m → HoldsAfter (λ u w. K m w) (commit_work world M.committed (begun_set M m) (work_of M m))
Does world M K ToCreate = Unit {0}
Does world M K (ToMake name) = Unit {0}
Does world M K (ToBegin em) = Unit {0}
Does world M K (ToRollBack em) = Unit {0}
Does world M K (ToMark em) = Unit {0}
Does world M K (ToAsk em question) = Unit {0}
Does world M K (ToClear em) = Unit {0}
Does world M K (ToSetMode em mode) = Unit {0}
Does world M K (ToClose em) = Unit {0}
Does world M K (ToRead question) = Unit {0}
Does world M K ToRestart = Unit {0}

-- nothing need be known
pub holds_anyway : {A : Type 0} (o : Outcome A) → HoldsAfter (λ a w. Unit {0}) o
holds_anyway (Done a w) = tt
holds_anyway (Refused r events) = tt

pub does_something : (world : World) (M : Machine) (r : Route) → Does world M (λ m w. Unit {0}) r
does_something world M (OfManager em op) = λ m o. holds_anyway (op world (work_of M m))
does_something world M (ToQuery em op) = λ m o. holds_anyway (op (flushes_first M m) world (work_of M m))
does_something world M (ToUpdate em op) = λ m e o. holds_anyway (op (has_transaction (manager_at M m)) (flushes_first M m) world (work_of M m))
does_something world M (InTransaction em given op) = λ m o. holds_anyway (op world (work_of M m))
does_something world M (OfObject number op) = λ n l. holds_anyway (op world n (work_of M (holder_in M (object_at M.objects n).life)))
does_something world M (ToCommit em) = λ m o. holds_anyway (commit_work world M.committed (begun_set M m) (work_of M m))
does_something world M ToCreate = tt
does_something world M (ToMake name) = tt
does_something world M (ToBegin em) = tt
does_something world M (ToRollBack em) = tt
does_something world M (ToMark em) = tt
does_something world M (ToAsk em question) = tt
does_something world M (ToClear em) = tt
does_something world M (ToSetMode em mode) = tt
does_something world M (ToClose em) = tt
does_something world M (ToRead question) = tt
does_something world M ToRestart = tt

module _ {world : World} {M : Machine} {r : Route} {P : Reply × Machine → Type 0} {K : ℕ → Work → Type 0} (h : Ways world M r P K) where
  ends : IsOther r → (rule : Cause → Bool) (m : ℕ) → Names M r m → (o : Outcome Answer) → HoldsAfter (λ a w. K m w) o → P (ended rule M m o)
  ends other rule m n (Done a w) k = h.keeps other m w a n k
  ends other rule m n (Refused cause events) k = h.refuses other m events cause (rule cause)

  by_required : (given : Outcome (Unit {0})) → P (transaction_required M given)
  by_required (Done u w) = h.same Cause.TransactionRequired
  by_required (Refused cause events) = h.same cause

  by_begun : IsOther r → (m : ℕ) → Names M r m → (given : Outcome (Unit {0})) (o : Outcome Answer) → HoldsAfter (λ a w. K m w) o → P (if_begun M m given (ended marks M m o))
  by_begun other m n given o k =
      cond_both (has_transaction (manager_at M m)) (ended marks M m o) (transaction_required M given) P (λ begun. ends other marks m n o k) (λ none. by_required given)

  by_close : IsOther r → (m : ℕ) → IsOpen M m → P (close M m)
  by_close other m o =
      cond_both (has_transaction (manager_at M m)) (because M (Cause.IllegalState State.Active)) (accepted [] Answer.Null (closed M m)) P
      (λ begun. h.same (Cause.IllegalState State.Active)) (λ none. h.closes other m o none)

  by_open : (next : ℕ → Reply × Machine) → ((m : ℕ) → IsOpen M m → P (next m)) → (o : Option ℕ) → ((m : ℕ) → o ≡ Some m → m < length M.managers) → P (if_open M o next)
  by_open next f None l = h.same Cause.NoSuchManager
  by_open next f (Some m) l =
      cond_both (manager_at M m).is_open (next m) (because M Cause.NoSuchManager) P (λ is_open. f m (record { within = l m refl; is_open = is_open })) (λ shut. h.same Cause.NoSuchManager)

  by_name : (next : ℕ → Reply × Machine) → ((m : ℕ) → IsOpen M m → P (next m)) → (em : ℤ) → P (by_manager M em next)
  by_name next f em = by_open next f (place_of (length M.managers) em) (place_within (length M.managers) em)

  -- with the number that names it
  by_number : (next : ℕ → Reply × Machine) (em : ℤ) → ((m : ℕ) → place_of (length M.managers) em ≡ Some m → IsOpen M m → P (next m)) → P (by_manager M em next)
  by_number next em f = by_place (place_of (length M.managers) em) refl
    where
      by_place : (o : Option ℕ) → place_of (length M.managers) em ≡ o → P (if_open M o next)
      by_place None e = h.same Cause.NoSuchManager
      by_place (Some m) e =
          cond_both (manager_at M m).is_open (next m) (because M Cause.NoSuchManager) P (λ is_open. f m e (record { within = place_within (length M.managers) em m e; is_open = is_open })) (λ shut. h.same Cause.NoSuchManager)

  by_object : ((m : ℕ) → Names M r m) → IsOther r → (op : World → ℕ → Work → Outcome Answer) → ((n : ℕ) → n < length M.objects → let m = holder_in M (object_at M.objects n).life in HoldsAfter (λ a w. K m w) (op world n (work_of M m))) →
      (o : Option ℕ) → ((n : ℕ) → o ≡ Some n → n < length M.objects) →
      P (ended marks_if_callback M (holder M o) (after (give_or Cause.NoSuchObject o (work_of M (holder M o))) (op world)))
  by_object n other op k None l = h.refuses other (length M.managers) [] Cause.NoSuchObject false
  by_object named other op k (Some n) l = let m = holder_in M (object_at M.objects n).life in ends other marks_if_callback m (named m) (op world n (work_of M m)) (k n (l n refl))

  by_class : IsOther r → length M.objects < most_objects → (o : Option ℕ) → ((class : ℕ) → o ≡ Some class → nat_lt class (length (world.model).entities) ≡ true) → P (made_new world M o)
  by_class other few None k = h.same (Cause.IllegalArgument Argument.Entity)
  by_class other few (Some class) k = h.makes other class (k class refl) few

  by_begin : IsOther r → (m : ℕ) → IsOpen M m → Named M r m → (t : Option Transaction) → (manager_at M m).transaction ≡ t → P (begin_in M m t)
  by_begin other m o n (Some t) e = h.same (Cause.IllegalState State.Active)
  by_begin other m o n None e = h.begins other m o n e

  by_rollback : commits r ≡ false → (m : ℕ) → IsOpen M m → Named M r m → (t : Option Transaction) → P (rollback_in M m t)
  by_rollback apart m o n None = h.same (Cause.IllegalState State.Inactive)
  by_rollback apart m o n (Some t) = h.rolls apart m o n

  by_mark : IsOther r → (m : ℕ) (t : Option Transaction) → P (only_rollback_in M m t)
  by_mark other m None = h.same (Cause.IllegalState State.Inactive)
  by_mark other m (Some t) = h.marking other m

  by_answer : IsOther r → (a : Result Answer Cause) → P (answered M a)
  by_answer other (Ok a) = h.tells other a
  by_answer other (Err cause) = h.same cause

  by_flush : commits r ≡ true → rolls_back r ≡ false → (m : ℕ) → IsOpen M m → Named M r m → has_transaction (manager_at M m) ≡ true → (o : Outcome (Unit {0})) → HoldsAfter (λ u w. K m w) o → P (commit_of M m o)
  by_flush writes apart m o n has (Done u w) k = h.stores writes apart m w o n has k
  by_flush writes apart m o n has (Refused cause events) k = h.undoes writes apart m events (Refusal.Rollback cause) o n

  by_commit : commits r ≡ true → rolls_back r ≡ false → (m : ℕ) → IsOpen M m → Named M r m → HoldsAfter (λ u w. K m w) (commit_work world M.committed (begun_set M m) (work_of M m)) → (t : Option Transaction) → (manager_at M m).transaction ≡ t → P (commit_in world M m t)
  by_commit writes apart m o n k None e = h.same (Cause.IllegalState State.Inactive)
  by_commit writes apart m o n k (Some t) e = by_mark_of t.is_marked
    where
      by_mark_of : (b : Bool) → P (commit_if world M m b)
      by_mark_of true = h.undoes writes apart m [] Refusal.RollbackMarked o n
      by_mark_of false = by_flush writes apart m o n (ap is_begun e) (commit_work world M.committed (begun_set M m) (work_of M m)) k

-- whichever route it is
pub on_route : {world : World} {M : Machine} {P : Reply × Machine → Type 0} {K : ℕ → Work → Type 0} (r : Route) → Ways world M r P K → Does world M K r → P (by_route world M r)
on_route {world} {M} (OfManager em op) h k =
    by_number h (λ m. ended marks M m (op world (work_of M m))) em (λ m n o. ends h (record { no_commit = refl; no_rollback = refl }) marks m (inl n) (op world (work_of M m)) (k m o))
on_route {world} {M} (ToQuery em op) h k =
    let o : ℕ → Outcome Answer = λ m. op (flushes_first M m) world (work_of M m) in
    by_number h (λ m. ended marks M m (o m)) em (λ m n is_open. ends h (record { no_commit = refl; no_rollback = refl }) marks m (inl n) (o m) (k m is_open))
on_route {world} {M} (ToUpdate em op) h k =
    let o : ℕ → Outcome Answer = λ m. op (has_transaction (manager_at M m)) (flushes_first M m) world (work_of M m) in
    by_number h (λ m. ended marks M m (o m)) em (λ m e is_open. ends h (record { no_commit = refl; no_rollback = refl }) marks m (inl e) (o m) (k m e is_open))
on_route {world} {M} (InTransaction em given op) h k =
    by_number h (λ m. if_begun M m (given (work_of M m)) (ended marks M m (op world (work_of M m)))) em (λ m n o. by_begun h (record { no_commit = refl; no_rollback = refl }) m (inl n) (given (work_of M m)) (op world (work_of M m)) (k m o))
on_route {world} {M} (OfObject number op) h k =
    by_object h (λ m. inr refl) (record { no_commit = refl; no_rollback = refl }) op k (place_of (length M.objects) number) (place_within (length M.objects) number)
on_route {world} {M} {P} ToCreate h k =
    cond_both (nat_lt (count_by (λ (x : Manager). x.is_open) M.managers) most_open_managers && nat_lt (length M.managers) most_managers) _ (because M Cause.Limit) P
    (λ l. h.creates (record { no_commit = refl; no_rollback = refl })
    (ltb-true (length M.managers) most_managers (and_parts (nat_lt (count_by (λ (x : Manager). x.is_open) M.managers) most_open_managers) (nat_lt (length M.managers) most_managers) l).1))
    (λ l. h.same Cause.Limit)
on_route {world} {M} {P} (ToMake name) h k =
    cond_both (nat_lt (length M.objects) most_objects) (made_new world M (class_of world.model name)) (because M Cause.Limit) P
    (λ l. by_class h (record { no_commit = refl; no_rollback = refl }) (ltb-true (length M.objects) most_objects l) (class_of world.model name) (class_within world.model name))
    (λ l. h.same Cause.Limit)
on_route {world} {M} (ToBegin em) h k = by_number h (begin M) em (λ m n o. by_begin h (record { no_commit = refl; no_rollback = refl }) m o n (manager_at M m).transaction refl)
on_route {world} {M} (ToCommit em) h k = by_number h (commit world M) em (λ m n o. by_commit h refl refl m o n (k m o) (manager_at M m).transaction refl)
on_route {world} {M} (ToRollBack em) h k = by_number h (rollback M) em (λ m n o. by_rollback h refl m o n (manager_at M m).transaction)
on_route {world} {M} (ToAsk em question) h k = by_name h (λ m. answered M (question M m)) (λ m o. by_answer h (record { no_commit = refl; no_rollback = refl }) (question M m)) em
on_route {world} {M} (ToClear em) h k = by_name h (λ m. accepted [] Answer.Null (cleared M m)) (λ m o. h.clears (record { no_commit = refl; no_rollback = refl }) m o) em
on_route {world} {M} (ToSetMode em mode) h k = by_name h (λ m. accepted [] Answer.Null (with_mode M m mode)) (λ m o. h.sets_mode (record { no_commit = refl; no_rollback = refl }) m o mode) em
on_route {world} {M} (ToClose em) h k = by_name h (close M) (λ m o. by_close h (record { no_commit = refl; no_rollback = refl }) m o) em
on_route {world} {M} (ToMark em) h k = by_name h (set_rollback_only M) (λ m o. by_mark h (record { no_commit = refl; no_rollback = refl }) m (manager_at M m).transaction) em
on_route {world} {M} (ToRead question) h k = by_answer h (record { no_commit = refl; no_rollback = refl }) (question world M)
on_route {world} {M} {P} ToRestart h k =
    cond_both (any_begun M) (because M (Cause.IllegalState State.Active)) (accepted [] Answer.Null (restarted M)) P
    (λ begun. h.same (Cause.IllegalState State.Active)) (λ none. h.restarts (record { no_commit = refl; no_rollback = refl }) none)

-- ---- of a step

-- what holds of the outcome, and where nothing was done, holds of each step
pub on_step : (world : World) {M N : Machine} (call : Call) {reply : Reply} (P : Reply × Machine → Type 0) → P (outcome world M call) → P (reply, M) → Step world M call reply N → P (reply, N)
on_step world call P done gave (inl e) = subst P e done
on_step world call {reply = reply} P done gave (inr g) = subst (λ (N : Machine). P (reply, N)) (sym g.2) gave

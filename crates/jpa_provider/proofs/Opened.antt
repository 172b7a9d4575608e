-- How managers and objects are made, and transactions begin, are marked and roll back.
use Rattle.jpa_work.specs.context.Marks.{none_marked}
use Rattle.jpa_value.specs.Limits.{most_managers, most_objects, most_open_managers}
use Rattle.std.proofs.Common.{◌≡◌, ◌<◌, ◌≤◌, ◌+◌, inl, inr, ℕ, suc, ℤ, drop, get_or, Bool, true, false, List, [], ◌∷◌, ◌++◌, length, refl, ap, sym, ◌∙◌}
use Rattle.std.specs.Prelude.{Option, Some, None, Ok, Err, if◌then◌else◌, slice_get, slice_set, nat_lt, count_by, ◌&&◌}
use Rattle.std.proofs.lemmas.Bool.{lt-ltb, le-ltb, false≢true}
use Rattle.std.proofs.lemmas.List.{map-append, set-set, get_or-set_same, drop_more}
use Rattle.std.proofs.lemmas.Option.{get_or_from_slice_get}
use Rattle.jpa_value.specs.declared.refusal.Cause.{Cause}
use Rattle.jpa_value.specs.declared.refusal.Refusal.{Refusal}
use Rattle.jpa_value.specs.declared.refusal.State.{State}
use Rattle.jpa_value.specs.declared.refusal.Argument.{Argument}
use Rattle.jpa_model.specs.Chains.{class_of}
use Rattle.jpa_stored.specs.objects.Sets.{StoredSet}
use Rattle.jpa_open.specs.Opened.{no_layers, begun_over, seen_over}
use Rattle.jpa_behaviour.specs.Behaviour.{World}
use Rattle.jpa_protocol.specs.declared.call.Call.{Call}
use Rattle.jpa_protocol.specs.declared.call.FlushMode.{FlushMode}
use Rattle.jpa_protocol.specs.declared.reply.Answer.{Answer}
use Rattle.jpa_protocol.specs.declared.reply.Reply.{Reply}
use Rattle.jpa_work.specs.declared.heap.LiveObject.{LiveObject}
use Rattle.jpa_work.specs.declared.heap.Life.{Life}
use Rattle.jpa_work.specs.heap.Objects.{new_object, no_object, object_at}
use Rattle.jpa_work.specs.declared.context.Entry.{Entry}
use Rattle.jpa_work.specs.declared.context.work.UnitOfWork.{UnitOfWork}
use Rattle.jpa_operations.specs.ops.States.{detach_each}
use Rattle.jpa_provider.specs.declared.session.Status.{Status}
use Rattle.jpa_provider.specs.declared.session.EntityManager.{EntityManager}
use Rattle.jpa_provider.specs.declared.session.Session.{Session}
use Rattle.jpa_machine.specs.machine.Machine.{Machine, Manager, Transaction, manager_at, new_manager, is_begun, marked, rolled_back, cleared, with_manager}
use Rattle.jpa_machine.specs.machine.Calls.{because}
use Rattle.jpa_machine.specs.machine.Transactions.{begin, begin_in, begun, rollback, rollback_in, set_rollback_only, only_rollback_in}
use Rattle.jpa_machine.specs.machine.Routes.{made_new}
use Rattle.jpa_machine.specs.machine.Step.{outcome}
use Rattle.jpa_provider.specs.Serving.{transaction_in, is_open_status, is_begun_status, manager_of, managers_of, manager_in, nobody, machine_of, named, detached_at, detached_all, IsCounted, IsIdle, Serves}
use Rattle.jpa_provider.proofs.Counted.{as_counted, begun_is_open}
use Rattle.jpa_provider.proofs.Sessions.{manager_there, managers_changed, managers_count, none_begun, nothing_begun, nothing_seen, begun_there, replaced}
use Rattle.jpa_provider.proofs.Worked.{of_manager, of_nobody, named_open}

abbrev pub told : Answer → Reply
told a = record { events = []; answer = Ok a }

abbrev pub refusal : Cause → Reply
refusal r = record { events = []; answer = Err (Refusal.Because r) }

-- ---- createEntityManager

abbrev may_open : ℕ → ℕ → Bool
may_open opened made = nat_lt opened most_open_managers && nat_lt made most_managers

may_create : (s : Session) → IsCounted s → may_open (count_by (λ (x : Manager). x.is_open) (machine_of s).managers) (length (machine_of s).managers) ≡ may_open (length s.open_places.items) (length s.managers.items)
may_create s h = λ i. may_open (as_counted (s.work.view).committed s h i) (managers_count s i)

few : (opened made : ℕ) → opened < most_open_managers → made < most_managers → may_open opened made ≡ true
few opened made k l = ap (λ b. b && nat_lt made most_managers) (lt-ltb opened most_open_managers k) ∙ lt-ltb made most_managers l

-- as many are open as may be
pub many_open : (opened made : ℕ) → most_open_managers ≤ opened → may_open opened made ≡ false
many_open opened made l = ap (λ b. b && nat_lt made most_managers) (le-ltb opened most_open_managers l)

-- or as many were made
pub many_made : (opened made : ℕ) → most_managers ≤ made → may_open opened made ≡ false
many_made opened made l = ap (λ b. nat_lt opened most_open_managers && b) (le-ltb made most_managers l) ∙ and_false (nat_lt opened most_open_managers)
  where
    and_false : (b : Bool) → (b && false) ≡ false
    and_false true = refl
    and_false false = refl

pub not_created : (world : World) (s : Session) → IsCounted s → may_open (length s.open_places.items) (length s.managers.items) ≡ false → Serves world s Call.CreateEntityManager (refusal Cause.Limit) s
not_created world s h l =
    let M = machine_of s in
    inl (ap (λ b. if b then (told (Answer.Number (suc (length M.managers))), record M { managers = M.managers ++ new_manager ∷ [] }) else because M Cause.Limit) (may_create s h ∙ l))

pub create_gives_up : (world : World) (s t : Session) → machine_of t ≡ machine_of s → Serves world s Call.CreateEntityManager (refusal Cause.OutOfMemory) t
create_gives_up world s t e = inr (refl, inl refl, e)

pub created : (world : World) (s t : Session) (x : EntityManager) → IsCounted s → length s.open_places.items < most_open_managers → length s.managers.items < most_managers → t.managers.items ≡ s.managers.items ++ x ∷ [] →
    x.status ≡ Status.Inactive → x.mode ≡ FlushMode.Auto → x.context.now ≡ [] → t.work ≡ s.work → t.stored ≡ s.stored → Serves world s Call.CreateEntityManager (told (Answer.Number (suc (length s.managers.items)))) t
created world s t x h l k e st o c w d =
    let M = machine_of s in
    inl (ap (λ b. if b then (told (Answer.Number (suc (length M.managers))), record M { managers = M.managers ++ new_manager ∷ [] }) else because M Cause.Limit)
    (may_create s h ∙ few (length s.open_places.items) (length s.managers.items) l k)
    ∙ (λ i. (told (Answer.Number (suc (managers_count s i))), sym same i)))
  where
    C : StoredSet
    C = (s.work.view).committed

    fresh : manager_of C x ≡ new_manager
    fresh = λ i. record { is_open = is_open_status (st i); mode = o i; context = c i; transaction = transaction_in (st i) (begun_over x.layers C) (seen_over x.layers C) }

    same : machine_of t ≡ record (machine_of s) { managers = (machine_of s).managers ++ new_manager ∷ [] }
    same =
        (λ i. record {
          objects = (w i).objects.now;
          managers = managers_of ((w i).view).committed (e i);
          numbers = (w i).numbers.now;
          stored_numbers = d i;
          committed = ((w i).view).committed;
        })
        ∙ (λ i. record (machine_of s) {
          managers = (map-append (manager_of C) s.managers.items (x ∷ []) ∙ ap (λ y. (machine_of s).managers ++ y ∷ []) fresh) i;
        })

-- ---- the transaction of a manager

pub transaction_there : (s : Session) (m : ℕ) →
    (manager_at (machine_of s) m).transaction
    ≡ transaction_in (manager_in s.managers.items m).status (begun_over (manager_in s.managers.items m).layers (s.work.view).committed) (seen_over (manager_in s.managers.items m).layers (s.work.view).committed)
transaction_there s m = ap (λ (x : Manager). x.transaction) (manager_there s m)

-- none is open
pub none_there : (s : Session) (m : ℕ) → is_begun_status (manager_in s.managers.items m).status ≡ false → (manager_at (machine_of s) m).transaction ≡ None
none_there s m h =
    let x = manager_in s.managers.items m in
    let C = (s.work.view).committed in
    transaction_there s m ∙ none_begun x.status (begun_over x.layers C) (seen_over x.layers C) h

-- ---- begin

pub begin_alone : (world : World) (s : Session) (em : ℤ) → named s em ≡ None → Serves world s (Call.Begin em) (refusal Cause.NoSuchManager) s
begin_alone world s em e = inl (of_nobody s (begin (machine_of s)) em e)

begin_open : (M : Machine) (m : ℕ) (t : Option Transaction) → is_begun t ≡ true → begin_in M m t ≡ because M (Cause.IllegalState State.Active)
begin_open M m None h = absurd (false≢true h)
begin_open M m (Some t) h = refl

pub begin_refused : (world : World) (s : Session) (em : ℤ) (m : ℕ) → named s em ≡ Some m → is_begun_status (manager_in s.managers.items m).status ≡ true →
    Serves world s (Call.Begin em) (refusal (Cause.IllegalState State.Active)) s
begin_refused world s em m e h =
    inl (of_manager s (begin (machine_of s)) em m e ∙ begin_open (machine_of s) m (manager_at (machine_of s) m).transaction (begun_there s m ∙ h))

-- a manager without a transaction has no layers, so that it sees what is committed
pub begin_begins : (world : World) (s t : Session) (em : ℤ) (m : ℕ) → named s em ≡ Some m → is_begun_status (manager_in s.managers.items m).status ≡ false → IsIdle s.managers.items m →
    t.managers.items ≡ slice_set s.managers.items m (record (manager_in s.managers.items m) { status = Status.Active }) → t.work ≡ s.work → t.stored ≡ s.stored → Serves world s (Call.Begin em) (told Answer.Null) t
begin_begins world s t em m e h idle f w k =
    let M = machine_of s in
    inl (of_manager s (begin M) em m e ∙ ap (begin_in M m) (none_there s m h) ∙ (λ i. (told Answer.Null, sym same i)))
  where
    same : machine_of t ≡ begun (machine_of s) m
    same =
        let C = (s.work.view).committed in
        let at = manager_there s m in
        let none = idle h in
        let is_open : true ≡ (manager_at (machine_of s) m).is_open = sym (ap (λ (x : Manager). x.is_open) at ∙ named_open s em m e) in
        replaced s t m (record (manager_in s.managers.items m) { status = Status.Active }) f (ap (λ (u : UnitOfWork). (u.view).committed) w) (ap (λ (u : UnitOfWork). u.numbers.now) w) k
        ∙ (λ i. record (machine_of s) {
          objects = (w i).objects.now;
          managers = with_manager (machine_of s) m (record {
            is_open = is_open i;
            mode = (sym at i).mode;
            context = (sym at i).context;
            transaction = Some (record {
              begun = (ap (λ a. begun_over a C) none ∙ nothing_begun C) i;
              view = (ap (λ a. seen_over a C) none ∙ nothing_seen C) i;
              is_marked = false;
            });
          });
        })

-- ---- setRollbackOnly and rollback

pub mark_alone : (world : World) (s : Session) (em : ℤ) → named s em ≡ None → Serves world s (Call.SetRollbackOnly em) (refusal Cause.NoSuchManager) s
mark_alone world s em e = inl (of_nobody s (set_rollback_only (machine_of s)) em e)

pub rollback_alone : (world : World) (s : Session) (em : ℤ) → named s em ≡ None → Serves world s (Call.Rollback em) (refusal Cause.NoSuchManager) s
rollback_alone world s em e = inl (of_nobody s (rollback (machine_of s)) em e)

pub mark_inactive : (world : World) (s : Session) (em : ℤ) (m : ℕ) → named s em ≡ Some m → is_begun_status (manager_in s.managers.items m).status ≡ false →
    Serves world s (Call.SetRollbackOnly em) (refusal (Cause.IllegalState State.Inactive)) s
mark_inactive world s em m e h = inl (of_manager s (set_rollback_only (machine_of s)) em m e ∙ ap (only_rollback_in (machine_of s) m) (none_there s m h))

pub rollback_inactive : (world : World) (s : Session) (em : ℤ) (m : ℕ) → named s em ≡ Some m → is_begun_status (manager_in s.managers.items m).status ≡ false →
    Serves world s (Call.Rollback em) (refusal (Cause.IllegalState State.Inactive)) s
rollback_inactive world s em m e h = inl (of_manager s (rollback (machine_of s)) em m e ∙ ap (rollback_in (machine_of s) m) (none_there s m h))

mark_open : (M : Machine) (m : ℕ) (t : Option Transaction) → is_begun t ≡ true → only_rollback_in M m t ≡ (told Answer.Null, marked M m)
mark_open M m None h = absurd (false≢true h)
mark_open M m (Some t) h = refl

rollback_open : (M : Machine) (m : ℕ) (t : Option Transaction) → is_begun t ≡ true → rollback_in M m t ≡ (told Answer.Null, rolled_back M m)
rollback_open M m None h = absurd (false≢true h)
rollback_open M m (Some t) h = refl

pub mark_marks : (world : World) (s t : Session) (em : ℤ) (m : ℕ) → named s em ≡ Some m → is_begun_status (manager_in s.managers.items m).status ≡ true → machine_of t ≡ marked (machine_of s) m →
    Serves world s (Call.SetRollbackOnly em) (told Answer.Null) t
mark_marks world s t em m e h f =
    inl (of_manager s (set_rollback_only (machine_of s)) em m e ∙ mark_open (machine_of s) m (manager_at (machine_of s) m).transaction (begun_there s m ∙ h) ∙ (λ i. (told Answer.Null, sym f i)))

pub rollback_rolls : (world : World) (s t : Session) (em : ℤ) (m : ℕ) → named s em ≡ Some m → is_begun_status (manager_in s.managers.items m).status ≡ true → machine_of t ≡ rolled_back (machine_of s) m →
    Serves world s (Call.Rollback em) (told Answer.Null) t
rollback_rolls world s t em m e h f =
    inl (of_manager s (rollback (machine_of s)) em m e ∙ rollback_open (machine_of s) m (manager_at (machine_of s) m).transaction (begun_there s m ∙ h) ∙ (λ i. (told Answer.Null, sym f i)))

-- a slot that is set twice
pub twice : (xs : List EntityManager) (m : ℕ) (x : EntityManager) (st : Status) → m < length xs →
    slice_set (slice_set xs m x) m (record (manager_in (slice_set xs m x) m) { status = st }) ≡ slice_set xs m (record x { status = st })
twice xs m x st l = ap (λ (y : EntityManager). slice_set (slice_set xs m x) m (record y { status = st })) (get_or-set_same xs m x nobody l) ∙ set-set xs m x (record x { status = st })

-- its layers go with the transaction
pub ended_twice : (xs : List EntityManager) (m : ℕ) (x : EntityManager) → m < length xs →
    slice_set (slice_set xs m x) m (record (manager_in (slice_set xs m x) m) { status = Status.Inactive; layers = no_layers }) ≡ slice_set xs m (record x { status = Status.Inactive; layers = no_layers })
ended_twice xs m x l =
    ap (λ (y : EntityManager). slice_set (slice_set xs m x) m (record y { status = Status.Inactive; layers = no_layers })) (get_or-set_same xs m x nobody l) ∙ set-set xs m x (record x { status = Status.Inactive; layers = no_layers })

-- of a session whose manager was cleared
pub rolled_there : (s u t : Session) (m : ℕ) → is_begun_status (manager_in s.managers.items m).status ≡ true → machine_of u ≡ cleared (machine_of s) m → u.work.view ≡ s.work.view →
    t.managers.items ≡ slice_set s.managers.items m (record (manager_in s.managers.items m) { status = Status.Inactive; layers = no_layers; context = record { now = []; since = []; marks = none_marked } }) →
    t.work ≡ u.work → t.stored ≡ u.stored → machine_of t ≡ rolled_back (machine_of s) m
rolled_there s u t m begun clear v f w k =
    let M = machine_of s in
    let C = (s.work.view).committed in
    let x : EntityManager = record (manager_in s.managers.items m) { status = Status.Inactive; layers = no_layers; context = record { now = []; since = []; marks = none_marked } } in
    let mode : x.mode ≡ (manager_at M m).mode = sym (ap (λ (y : Manager). y.mode) (manager_there s m)) in
    let is_open : true ≡ (manager_at M m).is_open = sym (ap (λ (y : Manager). y.is_open) (manager_there s m) ∙ begun_is_open (manager_in s.managers.items m) begun) in
    let view : t.work.view ≡ s.work.view = ap (λ (y : UnitOfWork). y.view) w ∙ v in
    (λ i. record {
      objects = (ap (λ (y : UnitOfWork). y.objects.now) w ∙ ap (λ (N : Machine). N.objects) clear) i;
      managers = ((λ j. managers_of (view j).committed (f j)) ∙ managers_changed C s.managers.items m x) i;
      numbers = (ap (λ (y : UnitOfWork). y.numbers.now) w ∙ ap (λ (N : Machine). N.numbers) clear) i;
      stored_numbers = (k ∙ ap (λ (N : Machine). N.stored_numbers) clear) i;
      committed = (view i).committed;
    })
    ∙ (λ i. record (rolled_back M m) { managers = with_manager M m (record { is_open = is_open i; mode = mode i; context = []; transaction = None }) })

-- ---- new

pub new_limit : (world : World) (s : Session) (name : List ℕ) → most_objects ≤ length s.work.objects.now → Serves world s (Call.NewObject name) (refusal Cause.Limit) s
new_limit world s name l =
    inl (ap (λ b. if b then made_new world (machine_of s) (class_of world.model name) else because (machine_of s) Cause.Limit) (le-ltb (length s.work.objects.now) most_objects l))

new_made : (world : World) (s : Session) (name : List ℕ) (o : Option ℕ) → length s.work.objects.now < most_objects → class_of world.model name ≡ o →
    outcome world (machine_of s) (Call.NewObject name) ≡ made_new world (machine_of s) o
new_made world s name o l e =
    ap (λ b. if b then made_new world (machine_of s) (class_of world.model name) else because (machine_of s) Cause.Limit) (lt-ltb (length s.work.objects.now) most_objects l)
    ∙ ap (made_new world (machine_of s)) e

pub new_nameless : (world : World) (s : Session) (name : List ℕ) → length s.work.objects.now < most_objects → class_of world.model name ≡ None → Serves world s (Call.NewObject name) (refusal (Cause.IllegalArgument Argument.Entity)) s
new_nameless world s name l e = inl (new_made world s name None l e)

-- a call that gave up for want of memory
pub new_gives_up : (world : World) (s t : Session) (name : List ℕ) → machine_of t ≡ machine_of s → Serves world s (Call.NewObject name) (refusal Cause.OutOfMemory) t
new_gives_up world s t name e = inr (refl, inl refl, e)

-- another session with these objects
pub with_objects : (s t : Session) (os : List LiveObject) → t.managers ≡ s.managers → t.stored ≡ s.stored → t.work.objects.now ≡ os → t.work.numbers.now ≡ s.work.numbers.now → t.work.view ≡ s.work.view →
    machine_of t ≡ record (machine_of s) { objects = os }
with_objects s t os m k o n v = λ i. record { objects = o i; managers = managers_of (v i).committed (m i).items; numbers = n i; stored_numbers = k i; committed = (v i).committed }

pub new_serves : (world : World) (s t : Session) (name : List ℕ) (class : ℕ) → length s.work.objects.now < most_objects → class_of world.model name ≡ Some class →
    machine_of t ≡ record (machine_of s) { objects = s.work.objects.now ++ new_object world.model class ∷ [] } → Serves world s (Call.NewObject name) (told (Answer.Object (suc (length s.work.objects.now)))) t
new_serves world s t name class l e f = inl (new_made world s name (Some class) l e ∙ (λ i. (told (Answer.Object (suc (length s.work.objects.now))), sym f i)))

-- ---- an object is detached in place

pub detached_one : (es : List Entry) (os : List LiveObject) (i : ℕ) (e : Entry) → i < length es → e ≡ get_or es i e → detach_each (drop (i + 1) es) (detached_at e.object os) ≡ detach_each (drop i es) os
detached_one es os i e l is = sym (ap (λ xs. detach_each xs os) (drop_more es i e l ∙ ap (λ (y : Entry). y ∷ drop (i + 1) es) (sym is)))

pub detached_next : (ns : List ℕ) (os : List LiveObject) (i n : ℕ) → i < length ns → n ≡ get_or ns i n → detached_all (drop (i + 1) ns) (detached_at n os) ≡ detached_all (drop i ns) os
detached_next ns os i n l is = sym (ap (λ xs. detached_all xs os) (drop_more ns i n l ∙ ap (λ (k : ℕ). k ∷ drop (i + 1) ns) (sym is)))

pub detached_twice : (os : List LiveObject) (n : ℕ) (x blank : LiveObject) → slice_get os n ≡ Some x → slice_set (slice_set os n blank) n (record x { life = Life.Detached }) ≡ detached_at n os
detached_twice os n x blank at =
    let same : object_at os n ≡ x = get_or_from_slice_get os n x no_object at in
    set-set os n blank (record x { life = Life.Detached }) ∙ ap (λ (y : LiveObject). slice_set os n (record y { life = Life.Detached })) (sym same)

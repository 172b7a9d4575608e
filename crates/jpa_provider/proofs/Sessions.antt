-- How a session and its machine go together: managers at their places, and one of them at work.
use Rattle.jpa_work.specs.context.Marks.{Entries}
use Rattle.std.proofs.Common.{◌≡◌, ◌≢◌, ◌<◌, ◌⊎◌, inl, inr, ℕ, zero, suc, Bool, true, false, List, [], ◌∷◌, ◌++◌, length, refl, ap, sym, subst, ◌∙◌}
use Rattle.std.specs.Prelude.{slice_set, slice_index_or, Option, Some, None}
use Rattle.std.proofs.lemmas.Bool.{true≢false}
use Rattle.std.proofs.lemmas.Bool.Decides.{eqb_tells}
use Rattle.std.proofs.Math.Dec.{eqb}
use Rattle.std.proofs.lemmas.List.{get_or-set_same, get_or-set_other, map-set, set-set, set-get_or, length-set, length-map}
use Rattle.jpa_stored.specs.objects.Sets.{StoredSet}
use Rattle.jpa_open.specs.Opened.{Opened, Away, no_layers, begun_over, seen_over, after_keeping, after_undoing}
use Rattle.jpa_open.proofs.Found.{nothing_over}
use Rattle.jpa_work.specs.declared.context.work.UnitOfWork.{UnitOfWork}
use Rattle.jpa_work.specs.context.Work.{Work}
use Rattle.jpa_work.specs.context.Undo.{now, now_kept, since, IsKept}
use Rattle.jpa_provider.specs.declared.session.Status.{Status}
use Rattle.jpa_provider.specs.declared.session.EntityManager.{EntityManager}
use Rattle.jpa_provider.specs.declared.session.Session.{Session}
use Rattle.jpa_machine.specs.machine.Machine.{Machine, Manager, Transaction, manager_at, with_manager, no_manager, is_begun, work_of, view_in, seen_in, kept, marked, marked_in, with_mode}
use Rattle.jpa_protocol.specs.declared.call.FlushMode.{FlushMode}
use Rattle.jpa_provider.specs.Serving.{transaction_in, is_open_status, is_begun_status, manager_of, managers_of, manager_in, nobody, machine_of, marked_status, IsCounted, IsIdle, IsResting, IsSettled, IsAway, IsWorking}
use Rattle.jpa_provider.specs.Turns.{HaveTurned}

-- ---- managers at their places

pub there : (C : StoredSet) (xs : List EntityManager) (m : ℕ) → slice_index_or (managers_of C xs) m no_manager ≡ manager_of C (manager_in xs m)
there C [] m = refl
there C (x ∷ xs) zero = refl
there C (x ∷ xs) (suc m) = there C xs m

pub manager_there : (s : Session) (m : ℕ) → manager_at (machine_of s) m ≡ manager_of (s.work.view).committed (manager_in s.managers.items m)
manager_there s m = there (s.work.view).committed s.managers.items m

pub managers_changed : (C : StoredSet) (xs : List EntityManager) (m : ℕ) (x : EntityManager) → managers_of C (slice_set xs m x) ≡ slice_set (managers_of C xs) m (manager_of C x)
managers_changed C xs m x = map-set (manager_of C) xs m x

pub managers_count : (s : Session) → length (machine_of s).managers ≡ length s.managers.items
managers_count s = length-map s.managers.items (manager_of (s.work.view).committed)

pub placed : (xs : List EntityManager) (m : ℕ) (x : EntityManager) → m < length xs → manager_in (slice_set xs m x) m ≡ x
placed xs m x l = get_or-set_same xs m x nobody l

pub elsewhere : (xs : List EntityManager) (m k : ℕ) (x : EntityManager) → k ≢ m → manager_in (slice_set xs m x) k ≡ manager_in xs k
elsewhere xs m k x n = get_or-set_other xs m k x nobody n

-- ---- the transaction in a state

pub begun_same : (status : Status) (B V : StoredSet) → is_begun (transaction_in status B V) ≡ is_begun_status status
begun_same Status.Closed B V = refl
begun_same Status.Inactive B V = refl
begun_same Status.Active B V = refl
begun_same Status.RollbackOnly B V = refl

pub none_begun : (status : Status) (B V : StoredSet) → is_begun_status status ≡ false → transaction_in status B V ≡ None
none_begun Status.Closed B V h = refl
none_begun Status.Inactive B V h = refl
none_begun Status.Active B V h = absurd (true≢false h)
none_begun Status.RollbackOnly B V h = absurd (true≢false h)

-- where none is open it has no sets
shut_alike : (status : Status) (B V C W : StoredSet) → is_begun_status status ≡ false → transaction_in status B V ≡ transaction_in status C W
shut_alike status B V C W h = none_begun status B V h ∙ sym (none_begun status C W h)

-- what a manager sees
view_begun : (status : Status) (B V C : StoredSet) → is_begun_status status ≡ true → view_in (transaction_in status B V) C ≡ V
view_begun Status.Closed B V C h = absurd (true≢false (sym h))
view_begun Status.Inactive B V C h = absurd (true≢false (sym h))
view_begun Status.Active B V C h = refl
view_begun Status.RollbackOnly B V C h = refl

view_none : (status : Status) (B V C : StoredSet) → is_begun_status status ≡ false → view_in (transaction_in status B V) C ≡ C
view_none status B V C h = ap (λ t. view_in t C) (none_begun status B V h)

-- and what its transaction sees when it sees this set
seen_put : (status : Status) (B V S : StoredSet) → seen_in (transaction_in status B V) S ≡ transaction_in status B S
seen_put Status.Closed B V S = refl
seen_put Status.Inactive B V S = refl
seen_put Status.Active B V S = refl
seen_put Status.RollbackOnly B V S = refl

unseen : (t : Option Transaction) (S : StoredSet) → is_begun t ≡ false → seen_in t S ≡ t
unseen None S h = refl
unseen (Some t) S h = absurd (true≢false h)

marked_transaction : (status : Status) (B V : StoredSet) → transaction_in (marked_status status) B V ≡ marked_in (transaction_in status B V)
marked_transaction Status.Closed B V = refl
marked_transaction Status.Inactive B V = refl
marked_transaction Status.Active B V = refl
marked_transaction Status.RollbackOnly B V = refl

pub marked_open : (status : Status) → is_open_status (marked_status status) ≡ is_open_status status
marked_open Status.Closed = refl
marked_open Status.Inactive = refl
marked_open Status.Active = refl
marked_open Status.RollbackOnly = refl

pub marked_begun : (status : Status) → is_begun_status (marked_status status) ≡ is_begun_status status
marked_begun Status.Closed = refl
marked_begun Status.Inactive = refl
marked_begun Status.Active = refl
marked_begun Status.RollbackOnly = refl

pub begun_there : (s : Session) (m : ℕ) → is_begun (manager_at (machine_of s) m).transaction ≡ is_begun_status (manager_in s.managers.items m).status
begun_there s m =
    let x = manager_in s.managers.items m in
    let C = (s.work.view).committed in
    ap (λ (y : Manager). is_begun y.transaction) (manager_there s m) ∙ begun_same x.status (begun_over x.layers C) (seen_over x.layers C)

-- ---- managers without a transaction

pub nothing_begun : (s : StoredSet) → begun_over no_layers s ≡ s
nothing_begun s = nothing_over s

pub nothing_seen : (s : StoredSet) → seen_over no_layers s ≡ s
nothing_seen s = nothing_over (begun_over no_layers s) ∙ nothing_over s

abbrev pub HasNone : EntityManager → Type 0
HasNone x = is_begun_status x.status ≡ false → x.layers ≡ no_layers

-- all but one have no layers, and neither has the one that is put in its place
pub idle_set : (xs : List EntityManager) (m : ℕ) (x : EntityManager) → m < length xs → HasNone x → ((k : ℕ) → k ≢ m → IsIdle xs k) → (k : ℕ) → IsIdle (slice_set xs m x) k
idle_set xs m x l own others k = by_place (eqb_tells k m)
  where
    by_place : ((eqb k m ≡ true) × (k ≡ m)) ⊎ ((eqb k m ≡ false) × (k ≢ m)) → IsIdle (slice_set xs m x) k
    by_place (inl e) = subst (λ j. IsIdle (slice_set xs m x) j) (sym e.1) (subst HasNone (sym (placed xs m x l)) own)
    by_place (inr n) = subst HasNone (sym (elsewhere xs m k x n.1)) (others k n.1)

-- a manager is changed in place
pub idle_changed : (xs ys : List EntityManager) (m : ℕ) (x : EntityManager) → m < length xs → ys ≡ slice_set xs m x → HasNone x → ((k : ℕ) → IsIdle xs k) → (k : ℕ) → IsIdle ys k
idle_changed xs ys m x l e own all k = subst (λ zs. IsIdle zs k) (sym e) (idle_set xs m x l own (λ j n. all j) k)

-- the same managers
pub idle_here : (xs ys : List EntityManager) → ys ≡ xs → ((k : ℕ) → IsIdle xs k) → (k : ℕ) → IsIdle ys k
idle_here xs ys e all k = subst (λ zs. IsIdle zs k) (sym e) (all k)

-- a manager is made
pub idle_made : (xs ys : List EntityManager) (x : EntityManager) → ys ≡ xs ++ x ∷ [] → HasNone x → ((k : ℕ) → IsIdle xs k) → (k : ℕ) → IsIdle ys k
idle_made xs ys x e own all k = subst (λ zs. IsIdle zs k) (sym e) (at xs all k)
  where
    at : (zs : List EntityManager) → ((k : ℕ) → IsIdle zs k) → (k : ℕ) → IsIdle (zs ++ x ∷ []) k
    at [] h zero = own
    at [] h (suc k) = h k
    at (z ∷ zs) h zero = h zero
    at (z ∷ zs) h (suc k) = at zs (λ j. h (suc j)) k

-- whether it has a transaction or not
either : {A : Type 0} (b : Bool) → (b ≡ true → A) → (b ≡ false → A) → A
either true f g = f refl
either false f g = g refl

-- ---- a manager goes to work

-- the manager's layers and its context are set, one after the other
pub both_set : (xs : List EntityManager) (m : ℕ) (a : Away) (c : Entries) → m < length xs →
    slice_set (slice_set xs m (record (manager_in xs m) { layers = a })) m (record (manager_in (slice_set xs m (record (manager_in xs m) { layers = a })) m) { context = c })
    ≡ slice_set xs m (record (manager_in xs m) { layers = a; context = c })
both_set xs m a c l =
    let y : EntityManager = record (manager_in xs m) { layers = a } in
    ap (λ (z : EntityManager). slice_set (slice_set xs m y) m (record z { context = c })) (placed xs m y l) ∙ set-set xs m y (record y { context = c })

-- its context and its layers are those that were at work before
module _ (s t : Session) (m : ℕ) (c : Entries) (zs : List EntityManager) (l : m < length s.managers.items) (turned : HaveTurned s.managers.items m s.work.view zs t.work.view)
    (e : t.managers.items ≡ slice_set s.managers.items m (record (manager_in s.managers.items m) { layers = turned.layers; context = c })) (h : IsSettled s) where
  abbrev X : EntityManager
  X = manager_in s.managers.items m

  abbrev Y : EntityManager
  Y = record X { layers = turned.layers; context = c }

  abbrev C : StoredSet
  C = (s.work.view).committed

  own_taken : manager_in t.managers.items m ≡ Y
  own_taken = ap (λ ys. manager_in ys m) e ∙ placed s.managers.items m Y l

  sets_taken : transaction_in X.status (t.work.view).begun (t.work.view).kept ≡ transaction_in X.status (begun_over X.layers C) (seen_over X.layers C)
  sets_taken =
      either (is_begun_status X.status) (λ q. let x = turned.begun q in λ i. transaction_in X.status (x.begun i) (x.kept i))
      (λ q. shut_alike X.status (t.work.view).begun (t.work.view).kept (begun_over X.layers C) (seen_over X.layers C) q)

  -- the resting layers went away
  home_taken : begun_over turned.layers C ≡ C
  home_taken =
      either (is_begun_status X.status) (λ q. (turned.begun q).begun_away ∙ (h.resting).begun)
      (λ q. ap (λ a. begun_over a C) ((turned.none q).0 ∙ h.idle m q) ∙ nothing_begun C)

  home_too_taken : seen_over turned.layers C ≡ C
  home_too_taken =
      either (is_begun_status X.status) (λ q. (turned.begun q).seen_away ∙ (h.resting).kept)
      (λ q. ap (λ a. seen_over a C) ((turned.none q).0 ∙ h.idle m q) ∙ nothing_seen C)

  pub taken_away : IsCounted t → t.stored ≡ s.stored → IsAway (machine_of s) m t
  taken_away counted f =
      let xs = s.managers.items in
      let at = manager_there s m in
      record {
        within = subst (λ n. m < n) (sym (ap length e ∙ length-set xs m Y)) l;
        committed = turned.committed;
        stored = f;
        status = ap (λ (z : EntityManager). transaction_in z.status (t.work.view).begun (t.work.view).kept) own_taken ∙ sets_taken ∙ sym (ap (λ (x : Manager). x.transaction) at);
        apart = λ none.
            let q : is_begun_status X.status ≡ false = sym (ap (λ (z : EntityManager). is_begun_status z.status) own_taken) ∙ none in
            let still = turned.none q in
            (subst IsResting (sym still.1) h.resting, ap (λ (z : EntityManager). z.layers) own_taken ∙ still.0 ∙ h.idle m q);
        home = (λ i. begun_over (own_taken i).layers (turned.committed i)) ∙ home_taken ∙ sym turned.committed;
        home_too = (λ i. seen_over (own_taken i).layers (turned.committed i)) ∙ home_too_taken ∙ sym turned.committed;
        managers = λ z. ap (λ ys. managers_of C (slice_set ys m z)) e ∙ ap (managers_of C) (set-set xs m Y z) ∙ managers_changed C xs m z;
        is_open = ap (λ (z : EntityManager). is_open_status z.status) own_taken ∙ sym (ap (λ (x : Manager). x.is_open) at);
        mode = ap (λ (z : EntityManager). z.mode) own_taken ∙ sym (ap (λ (x : Manager). x.mode) at);
        idle = λ k n. subst HasNone (sym (ap (λ ys. manager_in ys k) e ∙ elsewhere xs m k Y n)) (h.idle k);
        counted = counted;
      }

  pub taken_works : IsCounted t → t.stored ≡ s.stored → (since t.work).objects ≡ s.work.objects.since → (since t.work).context ≡ X.context.now → (since t.work).numbers ≡ s.work.numbers.since →
      IsWorking (machine_of s) m t
  taken_works counted f o k n = record {
    away = taken_away counted f;
    objects = o ∙ (h.kept).objects;
    context = k ∙ sym (ap (λ (x : Manager). x.context) (manager_there s m));
    numbers = n ∙ (h.kept).numbers;
  }

  -- it sees what its transaction sees, or what is committed
  view_taken : (t.work.view).seen ≡ view_in (transaction_in X.status (begun_over X.layers C) (seen_over X.layers C)) C
  view_taken =
      either (is_begun_status X.status)
      (λ q. let x = turned.begun q in x.seen ∙ x.kept ∙ sym (view_begun X.status (begun_over X.layers C) (seen_over X.layers C) C q))
      (λ q. ap (λ (v : Opened). v.seen) (turned.none q).1 ∙ (h.kept).view ∙ (h.resting).kept ∙ sym (view_none X.status (begun_over X.layers C) (seen_over X.layers C) C q))

  -- and what it wrote before is kept
  pub seen_taken : (t.work.view).seen ≡ (t.work.view).kept
  seen_taken =
      either (is_begun_status X.status) (λ q. (turned.begun q).seen)
      (λ q. let still = (turned.none q).1 in ap (λ (v : Opened). v.seen) still ∙ (h.kept).view ∙ sym (ap (λ (v : Opened). v.kept) still))

  pub taken_work : (w : Work) →
      w ≡ record { manager = m; objects = s.work.objects.now; context = X.context.now; numbers = s.work.numbers.now; view = (t.work.view).seen; events = s.work.events } → w ≡ work_of (machine_of s) m
  taken_work w is =
      let at = manager_there s m in
      is
      ∙ (λ i. record {
        manager = m;
        objects = s.work.objects.now;
        context = (sym at i).context;
        numbers = s.work.numbers.now;
        view = (view_taken ∙ ap (λ (x : Manager). view_in x.transaction C) (sym at)) i;
        events = (h.quiet) i;
      })

-- ---- it comes back

-- the view at work, once what was written is kept or undone
pub record IsLeft (is_begun : Bool) (before after : Opened) : Type 0 where
  pub committed : after.committed ≡ before.committed
  pub begun : after.begun ≡ before.begun
  pub seen : after.seen ≡ after.kept
  pub kept : is_begun ≡ false → after.kept ≡ before.kept

pub left_keeping : (b : Bool) (v w : Opened) → w ≡ after_keeping b v → IsLeft b v w
left_keeping b v w e = subst (IsLeft b v) (sym e) (by_flag b)
  where
    by_flag : (b : Bool) → IsLeft b v (after_keeping b v)
    by_flag true = record { committed = refl; begun = refl; seen = refl; kept = λ q. absurd (true≢false q) }
    by_flag false = record { committed = refl; begun = refl; seen = refl; kept = λ q. refl }

pub left_undoing : (b : Bool) (v w : Opened) → w ≡ after_undoing v → IsLeft b v w
left_undoing b v w e = subst (IsLeft b v) (sym e) (record { committed = refl; begun = refl; seen = refl; kept = λ q. refl })

-- what it worked on is what it was, but for the set that it sees
kept_by : {A : Type 0} (f : Work → A) → ((w : Work) (set : StoredSet) → f (record w { view = set }) ≡ f w) → (b : Bool) (u v : UnitOfWork) → now v ≡ now_kept b u → f (now v) ≡ f (now u)
kept_by f same true u v e = ap f e
kept_by f same false u v e = ap f e ∙ same (now u) (u.view).kept

pub kept_objects : (b : Bool) (u v : UnitOfWork) → now v ≡ now_kept b u → v.objects.now ≡ u.objects.now
kept_objects b u v e = kept_by (λ (w : Work). w.objects) (λ w set. refl) b u v e

pub kept_context : (b : Bool) (u v : UnitOfWork) → now v ≡ now_kept b u → v.context.now ≡ u.context.now
kept_context b u v e = kept_by (λ (w : Work). w.context) (λ w set. refl) b u v e

pub kept_numbers : (b : Bool) (u v : UnitOfWork) → now v ≡ now_kept b u → v.numbers.now ≡ u.numbers.now
kept_numbers b u v e = kept_by (λ (w : Work). w.numbers) (λ w set. refl) b u v e

pub kept_events : (b : Bool) (u v : UnitOfWork) → now v ≡ now_kept b u → v.events ≡ u.events
kept_events b u v e = kept_by (λ (w : Work). w.events) (λ w set. refl) b u v e

module _ (M : Machine) (s t : Session) (m : ℕ) (v : Opened) (c : Entries) (zs : List EntityManager) (h : IsAway M m s)
    (left : IsLeft (is_begun_status (manager_in s.managers.items m).status) s.work.view v) (turned : HaveTurned s.managers.items m v zs t.work.view)
    (e : t.managers.items ≡ slice_set s.managers.items m (record (manager_in s.managers.items m) { layers = turned.layers; context = c })) where
  abbrev P : EntityManager
  P = manager_in s.managers.items m

  abbrev Q : EntityManager
  Q = record P { layers = turned.layers; context = c }

  committed_back : (t.work.view).committed ≡ M.committed
  committed_back = turned.committed ∙ left.committed ∙ h.committed

  -- its transaction is what was at work
  sets_back : transaction_in P.status (begun_over turned.layers M.committed) (seen_over turned.layers M.committed) ≡ transaction_in P.status (s.work.view).begun v.kept
  sets_back =
      let C = sym (left.committed ∙ h.committed) in
      either (is_begun_status P.status)
      (λ q. let x = turned.begun q in
      λ i. transaction_in P.status ((ap (begun_over turned.layers) C ∙ x.begun_away ∙ left.begun) i) ((ap (seen_over turned.layers) C ∙ x.seen_away) i))
      (λ q. shut_alike P.status (begun_over turned.layers M.committed) (seen_over turned.layers M.committed) (s.work.view).begun v.kept q)

  pub seen_back : (t.work.view).seen ≡ (t.work.view).kept
  seen_back =
      either (is_begun_status P.status) (λ q. (turned.begun q).seen)
      (λ q. let still = (turned.none q).1 in ap (λ (w : Opened). w.seen) still ∙ left.seen ∙ sym (ap (λ (w : Opened). w.kept) still))

  pub resting_back : IsResting t.work.view
  resting_back =
      either (is_begun_status P.status)
      (λ q. let x = turned.begun q in record {
        begun = x.begun ∙ ap (begun_over P.layers) left.committed ∙ h.home ∙ sym (turned.committed ∙ left.committed);
        kept = x.kept ∙ ap (seen_over P.layers) left.committed ∙ h.home_too ∙ sym (turned.committed ∙ left.committed);
      })
      (λ q. let still = (turned.none q).1 in let rests = (h.apart q).0 in record {
        begun = ap (λ (w : Opened). w.begun) still ∙ left.begun ∙ rests.begun ∙ sym (turned.committed ∙ left.committed);
        kept = ap (λ (w : Opened). w.kept) still ∙ left.kept q ∙ rests.kept ∙ sym (turned.committed ∙ left.committed);
      })

  pub idle_back : (k : ℕ) → IsIdle t.managers.items k
  idle_back k = subst (λ ys. IsIdle ys k) (sym e) (idle_set s.managers.items m Q h.within (λ q. (turned.none q).0 ∙ (h.apart q).1) h.idle k)

  machine_back : t.stored ≡ s.stored → machine_of t ≡ record M { objects = t.work.objects.now; managers = with_manager M m (manager_of M.committed Q); numbers = t.work.numbers.now }
  machine_back g = λ i. record {
    objects = t.work.objects.now;
    managers = ((λ j. managers_of (committed_back j) (e j)) ∙ h.managers Q) i;
    numbers = t.work.numbers.now;
    stored_numbers = (g ∙ h.stored) i;
    committed = committed_back i;
  }

  -- with what its work changed
  pub kept_back : t.stored ≡ s.stored → (is_begun_status P.status ≡ true → v.kept ≡ (s.work.view).seen) → t.work.objects.now ≡ s.work.objects.now → t.work.numbers.now ≡ s.work.numbers.now →
      c.now ≡ s.work.context.now → machine_of t ≡ kept M m (now s.work)
  kept_back g sees o n f =
      let S = (s.work.view).seen in
      let B = (s.work.view).begun in
      let K = (s.work.view).kept in
      let T = (manager_at M m).transaction in
      let same : transaction_in P.status (begun_over turned.layers M.committed) (seen_over turned.layers M.committed) ≡ seen_in T S =
      sets_back
      ∙ either (is_begun_status P.status)
      (λ q. ap (transaction_in P.status B) (sees q) ∙ sym (seen_put P.status B K S) ∙ ap (λ r. seen_in r S) h.status)
      (λ q. shut_alike P.status B v.kept B K q ∙ h.status ∙ sym (unseen T S (ap is_begun (sym h.status) ∙ begun_same P.status B K ∙ q))) in
      machine_back g
      ∙ (λ i. record M {
        objects = o i;
        managers = with_manager M m (record { is_open = h.is_open i; mode = h.mode i; context = f i; transaction = same i });
        numbers = n i;
      })

  -- with what it had
  pub restored_back : IsWorking M m s → t.stored ≡ s.stored → v.kept ≡ (s.work.view).kept → t.work.objects.now ≡ (since s.work).objects → t.work.numbers.now ≡ (since s.work).numbers →
      c.now ≡ (since s.work).context → machine_of t ≡ M
  restored_back working g sees o n f =
      let same : manager_of M.committed Q ≡ manager_at M m = λ i. record {
        is_open = h.is_open i;
        mode = h.mode i;
        context = (f ∙ working.context) i;
        transaction = (sets_back ∙ ap (transaction_in P.status (s.work.view).begun) sees ∙ h.status) i;
      } in
      machine_back g
      ∙ (λ i. record M {
        objects = (o ∙ working.objects) i;
        managers = (ap (with_manager M m) same ∙ set-get_or M.managers m no_manager) i;
        numbers = (n ∙ working.numbers) i;
      })

  pub settled_back : IsKept t.work → t.work.events ≡ [] → IsCounted t → IsSettled t
  settled_back kept quiet counted = record { kept = kept; quiet = quiet; resting = resting_back; idle = idle_back; counted = counted }

-- ---- a manager is changed in place

-- the manager of another session in a new state, over what is committed
pub replaced : (s t : Session) (m : ℕ) (x : EntityManager) → t.managers.items ≡ slice_set s.managers.items m x → (t.work.view).committed ≡ (s.work.view).committed → t.work.numbers.now ≡ s.work.numbers.now → t.stored ≡ s.stored →
    machine_of t ≡ record (machine_of s) { objects = t.work.objects.now; managers = with_manager (machine_of s) m (manager_of (s.work.view).committed x) }
replaced s t m x e v n d =
    λ i. record {
      objects = t.work.objects.now;
      managers = ((λ j. managers_of (v j) (e j)) ∙ managers_changed (s.work.view).committed s.managers.items m x) i;
      numbers = n i;
      stored_numbers = d i;
      committed = v i;
    }

-- its transaction is marked
pub marked_there : (s t : Session) (m : ℕ) → t.work ≡ s.work → t.stored ≡ s.stored →
    t.managers.items ≡ slice_set s.managers.items m (record (manager_in s.managers.items m) { status = marked_status (manager_in s.managers.items m).status }) →
    machine_of t ≡ marked (machine_of s) m
marked_there s t m w k e =
    let x = manager_in s.managers.items m in
    let C = (s.work.view).committed in
    let y : EntityManager = record x { status = marked_status x.status } in
    let same : manager_of C y ≡ record (manager_at (machine_of s) m) { transaction = marked_in (manager_at (machine_of s) m).transaction } =
    (λ i. record { is_open = marked_open x.status i; mode = x.mode; context = x.context.now; transaction = marked_transaction x.status (begun_over x.layers C) (seen_over x.layers C) i })
    ∙ ap (λ (z : Manager). record z { transaction = marked_in z.transaction }) (sym (manager_there s m)) in
    replaced s t m y e (ap (λ (u : UnitOfWork). (u.view).committed) w) (ap (λ (u : UnitOfWork). u.numbers.now) w) k
    ∙ (λ i. record (machine_of s) { objects = (w i).objects.now; managers = with_manager (machine_of s) m (same i) })

-- its flush mode is another
pub mode_there : (s t : Session) (m : ℕ) (mode : FlushMode) → t.work ≡ s.work → t.stored ≡ s.stored → t.managers.items ≡ slice_set s.managers.items m (record (manager_in s.managers.items m) { mode = mode }) →
    machine_of t ≡ with_mode (machine_of s) m mode
mode_there s t m mode w k e =
    let y : EntityManager = record (manager_in s.managers.items m) { mode = mode } in
    replaced s t m y e (ap (λ (u : UnitOfWork). (u.view).committed) w) (ap (λ (u : UnitOfWork). u.numbers.now) w) k
    ∙ (λ i. record (machine_of s) { objects = (w i).objects.now; managers = ap (λ (z : Manager). with_manager (machine_of s) m (record z { mode = mode })) (sym (manager_there s m)) i })

-- What marks say between calls and in one: of each manager's context, and of that of the manager at work.
use Rattle.std.proofs.Common.{◌≡◌, ◌≢◌, ◌<◌, ◌≤◌, ◌+◌, ◌⊎◌, inl, inr, ℕ, zero, suc, Bool, true, false, List, [], ◌∷◌, ◌++◌, length, refl, ap, sym, subst, ◌∙◌, arith}
use Rattle.std.specs.Prelude.{slice_set, ◌==◌, Result, Ok, Err, OnOk, if◌then◌else◌}
use Rattle.std.specs.List.{All, list_any}
use Rattle.std.proofs.lemmas.Bool.{cases_eq, cases_lt, eq-eqb, eqb-true, false≢true, true≢false}
use Rattle.std.proofs.lemmas.List.{get_or-set_other, get_or_append_left, length-append, set-get_or}
use Rattle.std.proofs.Math.Seq.{take-append_seam}
use Rattle.std.proofs.lemmas.List.Elements.{All-nil, All-weaker}
use Rattle.jpa_behaviour.specs.Behaviour.{World}
use Rattle.jpa_model.specs.declared.unit.PersistenceUnit.{PersistenceUnit}
use Rattle.jpa_value.specs.declared.refusal.Cause.{Cause}
use Rattle.jpa_work.specs.declared.heap.Life.{Life}
use Rattle.jpa_work.specs.declared.heap.LiveObject.{LiveObject}
use Rattle.jpa_work.specs.heap.Objects.{no_object, object_at}
use Rattle.jpa_work.specs.undo.Undo.{Changes}
use Rattle.jpa_work.specs.declared.context.Entry.{Entry}
use Rattle.jpa_work.specs.declared.context.EntityState.{EntityState}
use Rattle.jpa_work.specs.declared.context.work.UnitOfWork.{UnitOfWork}
use Rattle.jpa_work.specs.context.Marks.{Entries, Marks, all_marked, is_marked}
use Rattle.jpa_work.specs.context.Undo.{now, since, undone, Since, IsKept}
use Rattle.jpa_work.specs.context.Work.{Work, object, state_from, is_managed}
use Rattle.jpa_work.specs.context.Steps.{Outcome, Meets}
use Rattle.jpa_protocol.specs.declared.event.Told.{Told}
use Rattle.jpa_operations.specs.fetch.Grown.{IsReady}
use Rattle.jpa_flush.specs.flush.Marked.{AreEntered, AreMarked, GoesOn, IsMarked, IsNamedStill, IsUntouched, before}
use Rattle.jpa_flush.specs.marking.Shared.{OthersGoOn, seen_by}
use Rattle.jpa_machine.specs.machine.Consistent.{contexts, stands_in}
use Rattle.jpa_machine.specs.machine.Going.{HoldsAfter}
use Rattle.jpa_machine.proofs.machine.Ready.{ready_at_work}
use Rattle.jpa_machine.specs.machine.Machine.{Machine, Manager, kept, manager_at, no_manager, seen_in, with_manager, work_of}
use Rattle.jpa_machine.specs.machine.Invariant.{context_of}
use Rattle.jpa_machine.proofs.machine.AtWork.{IsAtWork, others_of, taken}
use Rattle.jpa_provider.specs.declared.session.EntityManager.{EntityManager}
use Rattle.jpa_provider.specs.declared.session.Session.{Session}
use Rattle.jpa_provider.specs.Serving.{machine_of, manager_in, manager_of, marks_in, nobody, AreAllMarked, AreMarkedAway, AreMarkedNow, IsAway, IsServing, IsWorking, KeepsMarks}
use Rattle.jpa_provider.proofs.Sessions.{elsewhere, manager_there, placed, replaced}
use Rattle.jpa_provider.proofs.Worked.{still_away}

-- ---- of which works marks say the same

abbrev IsSaid : PersistenceUnit → Work → Marks → Entry → Type 0
IsSaid u w k e = is_marked k e.object ≡ false → IsUntouched u w k.linked e

-- of those of the same manager, objects and context
pub carried : (u : PersistenceUnit) (k : Marks) (w v : Work) → v.manager ≡ w.manager → v.objects ≡ w.objects → v.context ≡ w.context → AreMarked u w k → AreMarked u v k
carried u k w v m o c h =
    let t : Work = record { manager = v.manager; objects = v.objects; context = v.context; numbers = w.numbers; view = w.view; events = w.events } in
    let e : w ≡ t = λ i. record { manager = sym m i; objects = sym o i; context = sym c i; numbers = w.numbers; view = w.view; events = w.events } in
    All-weaker (IsSaid u t k) (IsSaid u v k) (λ x said free. let a = said free in record { calm = a.calm; links = a.links }) v.context (subst (λ y. AreMarked u y k) e h)

-- of an empty context nothing is said
pub nothing_marked : (u : PersistenceUnit) (k : Marks) (w : Work) → w.context ≡ [] → AreMarked u w k
nothing_marked u k w e = subst (All (IsSaid u w k)) (sym e) (All-nil (IsSaid u w k))

-- nor where each object is marked
pub whole_marked : (u : PersistenceUnit) (k : Marks) (w : Work) → k ≡ all_marked → AreMarked u w k
whole_marked u k w e = subst (AreMarked u w) (sym e) (all_of w.context)
  where
    all_of : (es : List Entry) → All (IsSaid u w all_marked) es
    all_of es = λ i d l marked. absurd (true≢false marked)

-- ---- between calls

pub context_there : (s : Session) (k : ℕ) → context_of (machine_of s) k ≡ (manager_in s.managers.items k).context.now
context_there s k = ap (λ (x : Manager). x.context) (manager_there s k)

-- objects and contexts are as they were
pub same_marked : (u : PersistenceUnit) (s t : Session) → t.work.objects.now ≡ s.work.objects.now → ((k : ℕ) → (manager_in t.managers.items k).context ≡ (manager_in s.managers.items k).context) → AreAllMarked u s →
    AreAllMarked u t
same_marked u s t o same h k =
    subst (AreMarked u (work_of (machine_of t) k)) (sym (ap (λ (c : Entries). c.marks) (same k)))
    (carried u (marks_in s k) (work_of (machine_of s) k) (work_of (machine_of t) k) refl o (context_there t k ∙ ap (λ (c : Entries). c.now) (same k) ∙ sym (context_there s k)) (h k))

-- a manager is changed in place, but for its context
pub context_kept : (xs ys : List EntityManager) (m : ℕ) (x : EntityManager) → m < length xs → ys ≡ slice_set xs m x → x.context ≡ (manager_in xs m).context → (k : ℕ) → (manager_in ys k).context ≡ (manager_in xs k).context
context_kept xs ys m x l e c k = ap (λ zs. (manager_in zs k).context) e ∙ by_place (cases_eq k m)
  where
    by_place : (k ≡ m) ⊎ (k ≢ m) → (manager_in (slice_set xs m x) k).context ≡ (manager_in xs k).context
    by_place (inl q) = ap (λ j. (manager_in (slice_set xs m x) j).context) q ∙ ap (λ (y : EntityManager). y.context) (placed xs m x l) ∙ c ∙ ap (λ j. (manager_in xs j).context) (sym q)
    by_place (inr n) = ap (λ (y : EntityManager). y.context) (elsewhere xs m k x n)

-- one is made, in whose context nothing stands
pub context_made : (xs ys : List EntityManager) (x : EntityManager) → ys ≡ xs ++ x ∷ [] → x.context ≡ nobody.context → (k : ℕ) → (manager_in ys k).context ≡ (manager_in xs k).context
context_made xs ys x e c k = ap (λ zs. (manager_in zs k).context) e ∙ at xs k
  where
    at : (zs : List EntityManager) (k : ℕ) → (manager_in (zs ++ x ∷ []) k).context ≡ (manager_in zs k).context
    at [] zero = c
    at [] (suc k) = refl
    at (z ∷ zs) zero = refl
    at (z ∷ zs) (suc k) = at zs k

-- an object is made
pub made_marked : (u : PersistenceUnit) (s t : Session) (x : LiveObject) → OthersGoOn → t.work.objects.now ≡ s.work.objects.now ++ x ∷ [] →
    ((k : ℕ) → (manager_in t.managers.items k).context ≡ (manager_in s.managers.items k).context) → AreAllMarked u s → AreAllMarked u t
made_marked u s t x goes_on o same h k =
    let xs : List LiveObject = s.work.objects.now in
    let es = context_of (machine_of s) k in
    -- another one makes it
    let w : Work = record (work_of (machine_of s) k) { manager = suc k } in
    let v : Work = record w { objects = xs ++ x ∷ [] } in
    let goes : GoesOn w v = record {
      manager = refl;
      count = let more = length-append xs (x ∷ []) in omega (arith, more);
      names = λ n l old. subst (IsNamedStill (object w n)) (sym (get_or_append_left xs (x ∷ []) no_object n l)) (record { class = refl; key = refl; old = old });
    } in
    subst (AreMarked u (work_of (machine_of t) k)) (sym (ap (λ (c : Entries). c.marks) (same k)))
    (carried u (marks_in s k) (seen_by k es v) (work_of (machine_of t) k) refl o (context_there t k ∙ ap (λ (c : Entries). c.now) (same k) ∙ sym (context_there s k))
    (goes_on u k es (marks_in s k) w v [] (sym (take-append_seam xs (x ∷ []))) (λ e. omega (arith, e)) goes tt (h k)))

-- what stands where a number names no manager
pub nobody_in : (xs : List EntityManager) (k : ℕ) → length xs ≤ k → manager_in xs k ≡ nobody
nobody_in [] k l = refl
nobody_in (x ∷ xs) zero l = absurd (omega (arith, l))
nobody_in (x ∷ xs) (suc k) l = nobody_in xs k (omega (arith, l))

-- ---- a manager goes to work

-- its context is at work, and so are its marks
pub marked_away : (u : PersistenceUnit) (s t : Session) (m : ℕ) → IsKept s.work → t.work.manager ≡ m → t.work.objects ≡ s.work.objects → t.work.context.since ≡ (manager_in s.managers.items m).context.now →
    t.work.context.marks ≡ marks_in s m → ((k : ℕ) → k ≢ m → marks_in t k ≡ marks_in s k) → AreAllMarked u s → AreMarkedAway u (machine_of s) m t
marked_away u s t m kept at o c k others h =
    let M = machine_of s in
    let objects : (since t.work).objects ≡ M.objects = ap (λ (x : Changes LiveObject). x.since) o ∙ kept.objects in
    record {
      manager = at;
      own = subst (AreMarked u (before t.work)) (sym k) (carried u (marks_in s m) (work_of M m) (before t.work) at objects (c ∙ sym (context_there s m)) (h m));
      others = λ j n. subst (AreMarked u (seen_by j (context_of M j) (before t.work))) (sym (others j n)) (carried u (marks_in s j) (work_of M j) (seen_by j (context_of M j) (before t.work)) refl objects refl (h j));
    }

-- each managed object has an entry
pub entered : (world : World) (M : Machine) (m : ℕ) (w : Work) → IsAtWork world M m w → AreEntered w
entered world M m w h n managed = by_place (in_heap w.objects n)
  where
    in_heap : (xs : List LiveObject) (n : ℕ) → (n < length xs) ⊎ (object_at xs n ≡ no_object)
    in_heap [] n = inr refl
    in_heap (x ∷ xs) zero = inl (omega arith)
    in_heap (x ∷ xs) (suc n) = by_rest (in_heap xs n)
      where
        by_rest : (n < length xs) ⊎ (object_at xs n ≡ no_object) → (suc n < suc (length xs)) ⊎ (object_at xs n ≡ no_object)
        by_rest (inl l) = inl (omega (arith, l))
        by_rest (inr e) = inr e

    -- the context is that of the manager who holds it
    own : (b : Bool) (k : ℕ) → (k == w.manager) ≡ b → is_managed (if b then EntityState.Managed else EntityState.Detached) ≡ true → list_any (λ (e : Entry). e.object == n) (contexts (others_of M) m w k) ≡ true →
        list_any (λ (e : Entry). e.object == n) w.context ≡ true
    own true k e q stands = subst (λ b. list_any (λ (x : Entry). x.object == n) (if b then w.context else context_of M k) ≡ true) (eq-eqb k m (eqb-true k w.manager e ∙ h.manager)) stands
    own false k e q stands = absurd (false≢true q)

    other : (b : Bool) → is_managed (if b then EntityState.Removed else EntityState.Detached) ≡ true → ⊥
    other true q = false≢true q
    other false q = false≢true q

    by_life : (life : Life) → is_managed (state_from w.manager life) ≡ true → stands_in (contexts (others_of M) m w) n life ≡ true → list_any (λ (e : Entry). e.object == n) w.context ≡ true
    by_life Life.New q stands = absurd (false≢true q)
    by_life (Life.Managed k) q stands = own (k == w.manager) k refl q stands
    by_life (Life.Removed k) q stands = absurd (other (k == w.manager) q)
    by_life Life.Detached q stands = absurd (false≢true q)

    by_place : (n < length w.objects) ⊎ (object w n ≡ no_object) → list_any (λ (e : Entry). e.object == n) w.context ≡ true
    by_place (inl l) = by_life (object w n).life managed (h.placed n l)
    by_place (inr e) = absurd (false≢true (subst (λ (x : LiveObject). is_managed (state_from w.manager x.life) ≡ true) e managed))

-- what a flush of it stands on
pub taken_marked : (world : World) (s t : Session) (m : ℕ) → IsServing world s → now t.work ≡ work_of (machine_of s) m → AreMarkedAway world.model (machine_of s) m t → IsMarked world.model t.work
taken_marked world s t m serving work h = record { before = h.own; entered = subst AreEntered (sym work) (entered world (machine_of s) m (work_of (machine_of s) m) (taken m serving.machine)) }

-- ---- while it works

-- what undoing gives is the same
pub kept_since : (u : PersistenceUnit) (old new : UnitOfWork) → since new ≡ since old → KeepsMarks u old new
kept_since u old new e =
    record {
      manager = ap (λ (x : Since). x.manager) e;
      own = λ h. subst (λ (x : Since). AreMarked u (undone x.manager x) x.marks) (sym e) h;
      others = λ k es marks n h. subst (λ (x : Since). AreMarked u (seen_by k es (undone x.manager x)) marks) (sym e) h;
    }

pub keeps_away : {u : PersistenceUnit} {M : Machine} {m : ℕ} (s : Session) (w : UnitOfWork) → KeepsMarks u s.work w → AreMarkedAway u M m s → AreMarkedAway u M m (record s { work = w })
keeps_away {u} {M} {m} s w keeps h =
    record {
      manager = keeps.manager ∙ h.manager;
      own = keeps.own h.own;
      others = λ k n. keeps.others k (context_of M k) (marks_in s k) (λ e. n (e ∙ h.manager)) (h.others k n);
    }

pub still_marked : {u : PersistenceUnit} {M : Machine} {m : ℕ} (s : Session) (w : UnitOfWork) → AreMarkedAway u M m s → since w ≡ since s.work → AreMarkedAway u M m (record s { work = w })
still_marked {u} s w h e = keeps_away s w (kept_since u s.work w e) h

-- the marks of the others say what stood before the call
pub away_others : (u : PersistenceUnit) (M : Machine) (m : ℕ) (s : Session) → IsWorking M m s → AreMarkedAway u M m s → (k : ℕ) → k ≢ m → AreMarked u (work_of M k) (marks_in s k)
away_others u M m s working h k n = carried u (marks_in s k) (seen_by k (context_of M k) (before s.work)) (work_of M k) refl (sym working.objects) refl (h.others k n)

-- ---- it comes back

-- one manager, and the others
pub each_one : (P : ℕ → Type 0) (m : ℕ) → P m → ((k : ℕ) → k ≢ m → P k) → (k : ℕ) → P k
each_one P m own others k = by_place (cases_eq k m)
  where
    by_place : (k ≡ m) ⊎ (k ≢ m) → P k
    by_place (inl e) = subst P (sym e) own
    by_place (inr n) = others k n

-- with what it had
pub marked_back : (u : PersistenceUnit) (M : Machine) (m : ℕ) (s t : Session) → machine_of t ≡ M → IsWorking M m s → AreMarkedAway u M m s → marks_in t m ≡ s.work.context.marks → ((k : ℕ) → k ≢ m → marks_in t k ≡ marks_in s k) →
    AreAllMarked u t
marked_back u M m s t e working h own others =
    each_one (λ k. AreMarked u (work_of (machine_of t) k) (marks_in t k)) m
    (subst (λ (N : Machine). AreMarked u (work_of N m) (marks_in t m)) (sym e)
    (subst (AreMarked u (work_of M m)) (sym own) (carried u s.work.context.marks (before s.work) (work_of M m) (sym h.manager) (sym working.objects) (sym working.context) h.own)))
    (λ k n. subst (λ (N : Machine). AreMarked u (work_of N k) (marks_in t k)) (sym e) (subst (AreMarked u (work_of M k)) (sym (others k n)) (away_others u M m s working h k n)))

-- with what its work changed
pub marked_on : (u : PersistenceUnit) (M : Machine) (m : ℕ) (s t : Session) → machine_of t ≡ kept M m (now s.work) → AreMarkedNow u M m s → (manager_in t.managers.items m).context.now ≡ s.work.context.now →
    marks_in t m ≡ s.work.context.marks → ((k : ℕ) → k ≢ m → marks_in t k ≡ marks_in s k) → AreAllMarked u t
marked_on u M m s t e h context own others =
    let w = now s.work in
    let x = manager_at M m in
    let y : Manager = record x { context = w.context; transaction = seen_in x.transaction w.view } in
    let objects : (machine_of t).objects ≡ w.objects = ap (λ (N : Machine). N.objects) e in
    each_one (λ k. AreMarked u (work_of (machine_of t) k) (marks_in t k)) m
    (subst (AreMarked u (work_of (machine_of t) m)) (sym own) (carried u s.work.context.marks w (work_of (machine_of t) m) (sym h.manager) objects (context_there t m ∙ context) h.own))
    (λ k n. subst (AreMarked u (work_of (machine_of t) k)) (sym (others k n))
    (carried u (marks_in s k) (seen_by k (context_of M k) w) (work_of (machine_of t) k) refl objects
    (ap (λ (N : Machine). context_of N k) e ∙ ap (λ (z : Manager). z.context) (get_or-set_other M.managers m k y no_manager n)) (h.others k n)))

-- nobody's work is kept: each manager has the context that it had
pub nobody_marked : (u : PersistenceUnit) (s : Session) (v w : UnitOfWork) → v.objects.now ≡ w.objects.now → w.manager ≡ length s.managers.items →
    ((k : ℕ) (es : List Entry) (marks : Marks) → k ≢ w.manager → AreMarked u (seen_by k es (before w)) marks → AreMarked u (seen_by k es (now w)) marks) →
    ((k : ℕ) → k ≢ length s.managers.items → AreMarked u (seen_by k (context_of (machine_of s) k) (before w)) (marks_in s k)) → AreAllMarked u (record s { work = v })
nobody_marked u s v w o at stay said =
    let n = length s.managers.items in
    let t : Session = record s { work = v } in
    let context : (k : ℕ) → context_of (machine_of t) k ≡ context_of (machine_of s) k = λ k. context_there t k ∙ sym (context_there s k) in
    each_one (λ k. AreMarked u (work_of (machine_of t) k) (marks_in t k)) n
    (nothing_marked u (marks_in t n) (work_of (machine_of t) n) (context_there t n ∙ ap (λ (x : EntityManager). x.context.now) (nobody_in s.managers.items n (omega arith))))
    (λ k d. carried u (marks_in s k) (seen_by k (context_of (machine_of s) k) (now w)) (work_of (machine_of t) k) refl o (context k)
    (stay k (context_of (machine_of s) k) (marks_in s k) (λ e. d (e ∙ at)) (said k d)))

-- ---- where operations may go on

-- what an operation left, where it was done
pub ready_if : (world : World) (M : Machine) (m : ℕ) {A : Type 0} (answered : Result A Cause) (w : Work) (o : Outcome A) → Meets answered w o → OnOk answered (HoldsAfter (λ a v. IsAtWork world M m v) o) →
    OnOk answered (IsReady world.model w)
ready_if world M m (Ok a) w o met at = ready_at_work (subst (HoldsAfter (λ a v. IsAtWork world M m v)) met at)
ready_if world M m (Err r) w o met at = tt

pub ready_after : (world : World) (M : Machine) (m : ℕ) {A : Type 0} (answered : Result A Cause) (w : Work) (o : Outcome A) → Meets answered w o → HoldsAfter (λ a v. IsAtWork world M m v) o →
    OnOk answered (IsReady world.model w)
ready_after world M m (Ok a) w o met at = ready_if world M m (Ok a) w o met at
ready_after world M m (Err r) w o met at = tt

-- whatever was told
pub ready_silent : (u : PersistenceUnit) (w : Work) (events : List Told) → IsReady u w → IsReady u (record w { events = events })
ready_silent u w events h =
    let p = h.placed in
    record { placed = record { objects = p.objects; entries = p.entries; keyed = p.keyed; numbers = p.numbers; view = p.view }; linked = h.linked; distinct = h.distinct }

-- ---- where all is marked

-- a manager's marks are others
pub machine_remarked : (s t : Session) (m : ℕ) (c : Entries) → t.work ≡ s.work → t.stored ≡ s.stored → t.managers.items ≡ slice_set s.managers.items m (record (manager_in s.managers.items m) { context = c }) →
    c.now ≡ (manager_in s.managers.items m).context.now → machine_of t ≡ machine_of s
machine_remarked s t m c w k e same =
    let M = machine_of s in
    let x = manager_in s.managers.items m in
    let y : EntityManager = record x { context = c } in
    let C = (s.work.view).committed in
    let back : manager_of C y ≡ manager_at M m = (λ i. record (manager_of C x) { context = same i }) ∙ sym (manager_there s m) in
    replaced s t m y e (ap (λ (u : UnitOfWork). (u.view).committed) w) (ap (λ (u : UnitOfWork). u.numbers.now) w) k
    ∙ (λ i. record M { objects = (w i).objects.now; managers = (ap (with_manager M m) back ∙ set-get_or M.managers m no_manager) i })

-- each of so many looks at all
pub marked_whole : (u : PersistenceUnit) (s : Session) → ((k : ℕ) → k < length s.managers.items → marks_in s k ≡ all_marked) → AreAllMarked u s
marked_whole u s h k = by_place (cases_lt k (length s.managers.items))
  where
    by_place : (k < length s.managers.items) ⊎ (length s.managers.items ≤ k) → AreMarked u (work_of (machine_of s) k) (marks_in s k)
    by_place (inl l) = whole_marked u (marks_in s k) (work_of (machine_of s) k) (h k l)
    by_place (inr l) = nothing_marked u (marks_in s k) (work_of (machine_of s) k) (context_there s k ∙ ap (λ (x : EntityManager). x.context.now) (nobody_in s.managers.items k l))

-- one more
pub whole_more : (s t : Session) (m : ℕ) → marks_in t m ≡ all_marked → ((k : ℕ) → k ≢ m → marks_in t k ≡ marks_in s k) → ((k : ℕ) → k < m → marks_in s k ≡ all_marked) → (k : ℕ) → k < m + 1 → marks_in t k ≡ all_marked
whole_more s t m own others whole k l = by_place (cases_eq k m)
  where
    by_place : (k ≡ m) ⊎ (k ≢ m) → marks_in t k ≡ all_marked
    by_place (inl e) = ap (marks_in t) e ∙ own
    by_place (inr n) = others k n ∙ whole k (omega (arith, n, l))

-- the marks of the manager at work are others
pub remarked_away : {M : Machine} {m : ℕ} (s : Session) (w : UnitOfWork) → IsAway M m s → w ≡ record (s.work) { context = record (s.work.context) { marks = w.context.marks } } → IsAway M m (record s { work = w })
remarked_away s w h e = still_away s w h (ap (λ (u : UnitOfWork). (u.view).kept) e) (ap (λ (u : UnitOfWork). (u.view).begun) e) (ap (λ (u : UnitOfWork). (u.view).committed) e)

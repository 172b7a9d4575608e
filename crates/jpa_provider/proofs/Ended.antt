-- What the end of a transaction leaves of marks: of the manager whose context it changes, and of the others.
use Rattle.std.proofs.Common.{◌≡◌, ◌∙◌, ◌≢◌, ◌<◌, ℕ, List, [], length, refl, ap, sym, subst}
use Rattle.std.specs.Prelude.{map, not, slice_set}
use Rattle.std.specs.List.{filter}
use Rattle.std.proofs.lemmas.List.{get_or-set_other}
use Rattle.jpa_behaviour.specs.Behaviour.{World}
use Rattle.jpa_model.specs.declared.unit.PersistenceUnit.{PersistenceUnit}
use Rattle.jpa_work.specs.declared.heap.LiveObject.{LiveObject}
use Rattle.jpa_work.specs.undo.Undo.{Changes}
use Rattle.jpa_work.specs.declared.context.work.UnitOfWork.{UnitOfWork}
use Rattle.jpa_work.specs.context.Marks.{Entries, Marks}
use Rattle.jpa_work.specs.context.Undo.{now}
use Rattle.jpa_work.specs.context.Work.{Work, unlocked}
use Rattle.jpa_flush.specs.flush.Marked.{AreMarked, before}
use Rattle.jpa_flush.specs.marking.Shared.{LetsGo, OthersStay, OwnStay, TheirsStay, is_held_by, is_removed_by, seen_by}
use Rattle.jpa_flush.specs.marking.Shared as marking
use Rattle.jpa_operations.specs.ops.States.{detach_each}
use Rattle.jpa_machine.specs.machine.Machine.{Machine, Manager, committed_after, is_gone, manager_at, no_manager, work_of}
use Rattle.jpa_machine.specs.machine.Invariant.{IsMachine, context_of}
use Rattle.jpa_provider.specs.declared.session.EntityManager.{EntityManager}
use Rattle.jpa_provider.specs.declared.session.Session.{Session}
use Rattle.jpa_provider.specs.Beside.{AreHeld}
use Rattle.jpa_provider.specs.Serving.{machine_of, manager_in, marks_in, AreAllMarked, AreMarkedAway}
use Rattle.jpa_provider.proofs.Commits.{ended}
use Rattle.jpa_provider.proofs.Freed.{held_go, removed_go, removed_held}
use Rattle.jpa_provider.proofs.Marked.{carried, context_there, each_one, nothing_marked}
use Rattle.jpa_provider.proofs.Sessions.{elsewhere, placed}

-- ---- a manager's objects are detached and leave its context

pub cleared_marks : {world : World} (theirs : TheirsStay) (s t : Session) (m : ℕ) (x : EntityManager) → m < length s.managers.items → t.managers.items ≡ slice_set s.managers.items m x → x.context.now ≡ [] →
    t.work.objects.now ≡ detach_each (manager_at (machine_of s) m).context s.work.objects.now → IsMachine world (machine_of s) → AreAllMarked world.model s → AreAllMarked world.model t
cleared_marks {world} theirs s t m x within f e o h all k = each_one (λ j. AreMarked u (work_of (machine_of t) j) (marks_in t j)) m own other k
  where
    u : PersistenceUnit
    u = world.model

    xs : List EntityManager
    xs = s.managers.items

    own : AreMarked u (work_of (machine_of t) m) (marks_in t m)
    own =
        nothing_marked u (marks_in t m) (work_of (machine_of t) m)
        (context_there t m ∙ ap (λ (ys : List EntityManager). (manager_in ys m).context.now) f ∙ ap (λ (y : EntityManager). y.context.now) (placed xs m x within) ∙ e)

    other : (j : ℕ) → j ≢ m → AreMarked u (work_of (machine_of t) j) (marks_in t j)
    other j apart =
        let es = context_of (machine_of s) j in
        let w : Work = work_of (machine_of s) m in
        let v : Work = record w { objects = t.work.objects.now } in
        let same : manager_in t.managers.items j ≡ manager_in xs j = ap (λ (ys : List EntityManager). manager_in ys j) f ∙ elsewhere xs m j x apart in
        let go : LetsGo (is_held_by m) w.objects v.objects = subst (LetsGo (is_held_by m) w.objects) (sym o) (held_go m h) in
        let a : AreMarked u (seen_by j es w) (marks_in s j) = carried u (marks_in s j) (work_of (machine_of s) j) (seen_by j es w) refl refl refl (all j) in
        let b : AreMarked u (seen_by j es v) (marks_in s j) = theirs u j es (marks_in s j) w v apart go a in
        subst (AreMarked u (work_of (machine_of t) j)) (sym (ap (λ (y : EntityManager). (y.context).marks) same))
        (carried u (marks_in s j) (seen_by j es v) (work_of (machine_of t) j) refl refl
        (context_there t j ∙ ap (λ (y : EntityManager). y.context.now) same ∙ sym (context_there s j)) b)

-- ---- a transaction is committed

-- marks alone change, and then the context
pub same_work : (u w v : UnitOfWork) → w ≡ record u { context = record u.context { marks = w.context.marks } } → v ≡ record w { context = v.context } → v ≡ record u { context = v.context }
same_work u w v a b = b ∙ ap (λ (x : UnitOfWork). record x { context = v.context }) a

-- beside others for whom something was kept back the marks say what they said
pub away_beside : (u : PersistenceUnit) (M : Machine) (m : ℕ) (s t : Session) → t.work.manager ≡ s.work.manager → t.work.objects ≡ s.work.objects → t.work.context ≡ s.work.context →
    AreHeld (s.work.view).committed s.managers.items m (s.work.view).committed t.managers.items → AreMarkedAway u M m s → AreMarkedAway u M m t
away_beside u M m s t a o c held h =
    let objects = ap (λ (x : Changes LiveObject). x.since) o in
    record {
      manager = a ∙ h.manager;
      own = subst (AreMarked u (before t.work)) (ap (λ (x : Entries). x.marks) (sym c)) (carried u (s.work.context).marks (before s.work) (before t.work) a objects (ap (λ (x : Entries). x.since) c) h.own);
      others = λ k apart.
          subst (AreMarked u (seen_by k (context_of M k) (before t.work))) (sym (ap (λ (x : Entries). x.marks) ((held.others k apart).context)))
          (carried u (marks_in s k) (seen_by k (context_of M k) (before s.work)) (seen_by k (context_of M k) (before t.work)) refl objects refl (h.others k apart));
    }

-- what is kept for others goes by what undoing gives, and by who is at work
pub others_stay : {u : PersistenceUnit} {M : Machine} {m : ℕ} {s : Session} (x : Marks) (w : UnitOfWork) → w ≡ record s.work { context = record s.work.context { marks = x } } → AreMarkedAway u M m s → OthersStay w →
    (k : ℕ) → k ≢ m → AreMarked u (seen_by k (context_of M k) (now s.work)) (marks_in s k)
others_stay {u} {M} {m} {s} x w e away h k apart =
    subst (λ (v : UnitOfWork). AreMarked u (seen_by k (context_of M k) (before v)) (marks_in s k) → AreMarked u (seen_by k (context_of M k) (now v)) (marks_in s k)) e
    (h u k (context_of M k) (marks_in s k) (λ q. apart (q ∙ ap (λ (v : UnitOfWork). v.manager) e ∙ away.manager))) (away.others k apart)

module _ (owns : OwnStay) (theirs : TheirsStay) (u : PersistenceUnit) (M : Machine) (s t : Session) (m : ℕ) (c : Entries) (within : m < length s.managers.items) (away : AreMarkedAway u M m s)
    (f : t.managers.items ≡ slice_set s.managers.items m (ended (manager_in s.managers.items m) c)) (e : c.now ≡ map unlocked (filter (λ x. not (is_gone (now s.work) x)) s.work.context.now))
    (o : t.work.objects.now ≡ detach_each (filter (is_gone (now s.work)) s.work.context.now) s.work.objects.now) (there : machine_of t ≡ committed_after M m (now s.work)) where
  abbrev xs : List EntityManager
  xs = s.managers.items

  abbrev x : EntityManager
  x = ended (manager_in s.managers.items m) c

  own : AreMarked u (marking.ended (now s.work)) c.marks → AreMarked u (work_of (machine_of t) m) (marks_in t m)
  own anew =
      let w = now s.work in
      let v : Work = work_of (machine_of t) m in
      let same : manager_in t.managers.items m ≡ x = ap (λ (ys : List EntityManager). manager_in ys m) f ∙ placed xs m x within in
      subst (AreMarked u v) (sym (ap (λ (y : EntityManager). (y.context).marks) same))
      (owns u (marking.ended w) v c.marks (sym away.manager) (context_there t m ∙ ap (λ (y : EntityManager). y.context.now) same ∙ e)
      (subst (LetsGo (is_removed_by w.manager) w.objects) (sym o) (removed_go w)) anew)

  other : (k : ℕ) → k ≢ m → AreMarked u (seen_by k (context_of M k) (now s.work)) (marks_in s k) → AreMarked u (work_of (machine_of t) k) (marks_in t k)
  other k apart h =
      let w : Work = now s.work in
      let v : Work = record w { objects = t.work.objects.now } in
      let es = context_of M k in
      let go : LetsGo (is_held_by w.manager) w.objects v.objects = removed_held w.manager w.objects v.objects (subst (LetsGo (is_removed_by w.manager) w.objects) (sym o) (removed_go w)) in
      let b : AreMarked u (seen_by k es v) (marks_in s k) = theirs u k es (marks_in s k) w v (λ q. apart (q ∙ away.manager)) go h in
      let same : manager_in t.managers.items k ≡ manager_in xs k = ap (λ (ys : List EntityManager). manager_in ys k) f ∙ elsewhere xs m k x apart in
      let entries : context_of (machine_of t) k ≡ es =
      ap (λ (N : Machine). context_of N k) there ∙ ap (λ (y : Manager). y.context) (get_or-set_other M.managers m k _ no_manager apart) in
      subst (AreMarked u (work_of (machine_of t) k)) (sym (ap (λ (y : EntityManager). (y.context).marks) same)) (carried u (marks_in s k) (seen_by k es v) (work_of (machine_of t) k) refl refl entries b)

  pub committed_marks : AreMarked u (marking.ended (now s.work)) c.marks → ((k : ℕ) → k ≢ m → AreMarked u (seen_by k (context_of M k) (now s.work)) (marks_in s k)) → AreAllMarked u t
  committed_marks anew stay = each_one (λ k. AreMarked u (work_of (machine_of t) k) (marks_in t k)) m (own anew) (λ k apart. other k apart (stay k apart))

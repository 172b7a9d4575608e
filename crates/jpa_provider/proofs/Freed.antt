-- What leaves a manager's context is let go: each object is as it was, or it was the manager's and is detached.
use Rattle.std.proofs.Common.{◌≡◌, ◌∙◌, ◌<◌, ◌≤◌, ◌⊎◌, inl, inr, ℕ, Bool, true, false, List, [], ◌∷◌, length, refl, ap, sym, subst, arith}
use Rattle.std.specs.Prelude.{◌==◌, ◌||◌, if◌then◌else◌}
use Rattle.std.specs.List.{filter}
use Rattle.std.proofs.lemmas.Bool.{false≢true, cases_lt, eqb-true, or_cases}
use Rattle.std.proofs.lemmas.List.{get_or_past}
use Rattle.std.proofs.lemmas.List.Elements.{recursion_from_All}
use Rattle.jpa_behaviour.specs.Behaviour.{World}
use Rattle.jpa_work.specs.declared.heap.Life.{Life}
use Rattle.jpa_work.specs.declared.heap.LiveObject.{LiveObject}
use Rattle.jpa_work.specs.heap.Objects.{no_object, object_at, with_life}
use Rattle.jpa_work.specs.declared.context.Entry.{Entry}
use Rattle.jpa_work.specs.declared.context.EntityState.{EntityState}
use Rattle.jpa_work.specs.context.Work.{Work, is_managed, is_removed, state_from, state_of}
use Rattle.jpa_operations.specs.ops.States.{detach_each}
use Rattle.jpa_machine.specs.machine.Consistent.{IsEntry}
use Rattle.jpa_machine.specs.machine.Consistent as consistent
use Rattle.jpa_machine.proofs.machine.Detached.{detached_at, freed, length_detached, stands, stands_held}
use Rattle.jpa_flush.specs.marking.Shared.{LetsGo, is_held_by, is_removed_by}
use Rattle.jpa_machine.specs.machine.Machine.{Machine, is_gone, manager_at}
use Rattle.jpa_machine.specs.machine.Invariant.{IsMachine}
use Rattle.jpa_machine.proofs.machine.AtWork.{each_manager}

-- ---- objects of entries

lets_go : (test : Life → Bool) (es : List Entry) (os : List LiveObject) → ((n : ℕ) → stands n es ≡ true → test (object_at os n).life ≡ true) → LetsGo test os (detach_each es os)
lets_go test es os h = record { count = length_detached es os; each = λ n. by_place n (cases_lt n (length os)) }
  where
    by_stands : (n : ℕ) (b : Bool) → stands n es ≡ b → object_at (detach_each es os) n ≡ freed b (object_at os n) →
        (object_at (detach_each es os) n ≡ object_at os n) ⊎ ((test (object_at os n).life ≡ true) × (object_at (detach_each es os) n ≡ with_life (object_at os n) Life.Detached))
    by_stands n true s e = inr (h n s, e)
    by_stands n false s e = inl e

    by_place : (n : ℕ) → (n < length os) ⊎ (length os ≤ n) →
        (object_at (detach_each es os) n ≡ object_at os n) ⊎ ((test (object_at os n).life ≡ true) × (object_at (detach_each es os) n ≡ with_life (object_at os n) Life.Detached))
    by_place n (inl l) = by_stands n (stands n es) refl (detached_at es os n l)
    by_place n (inr past) =
        let same = length_detached es os in
        inl (get_or_past (detach_each es os) n no_object (omega (arith, same, past)) ∙ sym (get_or_past os n no_object past))

-- ---- those of a whole context

held_as : (m : ℕ) (life : Life) → consistent.is_held_by m life ≡ true → is_held_by m life ≡ true
held_as m Life.New h = absurd (false≢true h)
held_as m (Life.Managed k) h =
    ap (λ b. is_removed (if b then EntityState.Managed else EntityState.Detached) || is_managed (if b then EntityState.Managed else EntityState.Detached)) h
held_as m (Life.Removed k) h =
    ap (λ b. is_removed (if b then EntityState.Removed else EntityState.Detached) || is_managed (if b then EntityState.Removed else EntityState.Detached)) h
held_as m Life.Detached h = absurd (false≢true h)

-- a manager holds the objects of its entries
pub held_go : {world : World} {M : Machine} (m : ℕ) → IsMachine world M → LetsGo (is_held_by m) M.objects (detach_each (manager_at M m).context M.objects)
held_go {world} {M} m h =
    let es = (manager_at M m).context in
    lets_go (is_held_by m) es M.objects
    (λ n s. held_as m (object_at M.objects n).life
    (stands_held world.model M.objects M.numbers m n es (recursion_from_All (IsEntry world.model M.objects M.numbers m) es (each_manager h m).entries) s))

-- ---- those that are removed

removed_stands : (w : Work) (es : List Entry) (n : ℕ) → stands n (filter (is_gone w) es) ≡ true → is_removed (state_of w n) ≡ true
removed_stands w [] n s = absurd (false≢true s)
removed_stands w (e ∷ es) n s = by_test (is_gone w e) refl s (removed_stands w es n)
  where
    by_test : (b : Bool) → is_gone w e ≡ b → stands n (if b then e ∷ filter (is_gone w) es else filter (is_gone w) es) ≡ true →
        (stands n (filter (is_gone w) es) ≡ true → is_removed (state_of w n) ≡ true) → is_removed (state_of w n) ≡ true
    by_test true g s rest = either (or_cases (e.object == n) (stands n (filter (is_gone w) es)) s)
      where
        either : ((e.object == n) ≡ true) ⊎ (stands n (filter (is_gone w) es) ≡ true) → is_removed (state_of w n) ≡ true
        either (inl q) = subst (λ k. is_removed (state_of w k) ≡ true) (eqb-true e.object n q) g
        either (inr q) = rest q
    by_test false g s rest = rest s

pub removed_go : (w : Work) → LetsGo (is_removed_by w.manager) w.objects (detach_each (filter (is_gone w) w.context) w.objects)
removed_go w = lets_go (is_removed_by w.manager) (filter (is_gone w) w.context) w.objects (removed_stands w w.context)

-- what is removed for a manager is held by it
pub removed_held : (m : ℕ) (xs ys : List LiveObject) → LetsGo (is_removed_by m) xs ys → LetsGo (is_held_by m) xs ys
removed_held m xs ys h = record { count = h.count; each = λ n. by n (h.each n) }
  where
    by : (n : ℕ) → (object_at ys n ≡ object_at xs n) ⊎ ((is_removed_by m (object_at xs n).life ≡ true) × (object_at ys n ≡ with_life (object_at xs n) Life.Detached)) →
        (object_at ys n ≡ object_at xs n) ⊎ ((is_held_by m (object_at xs n).life ≡ true) × (object_at ys n ≡ with_life (object_at xs n) Life.Detached))
    by n (inl e) = inl e
    by n (inr e) = inr (ap (λ b. b || is_managed (state_from m (object_at xs n).life)) e.0, e.1)

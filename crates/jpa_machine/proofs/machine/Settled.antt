-- What holds of the machine is kept by what begins, marks and ends transactions, and by what makes managers and objects.
use Rattle.jpa_value.specs.Limits.{most_managers}
use Rattle.std.proofs.Common.{◌≡◌, ◌≢◌, ◌<◌, ◌≤◌, ◌⊎◌, inl, inr, ℕ, zero, suc, Bool, true, false, List, [], ◌∷◌, ◌++◌, length, refl, ap, sym, subst, ◌∙◌, arith}
use Rattle.std.specs.Prelude.{slice_index_or, slice_set, All, Option, Some, None}
use Rattle.std.proofs.lemmas.Bool.{false≢true, cases_lt}
use Rattle.std.proofs.lemmas.List.{length-set, length-append, get_or_append_left, get_or_push, set_past}
use Rattle.std.proofs.lemmas.List.Elements.{All-nil}
use Rattle.jpa_behaviour.specs.Behaviour.{World}
use Rattle.jpa_stored.specs.objects.Sets.{StoredSet, all_distinct}
use Rattle.jpa_rows.specs.rows.Cells.{CanBeHeld}
use Rattle.jpa_protocol.specs.declared.call.FlushMode.{FlushMode}
use Rattle.jpa_work.specs.declared.heap.LiveObject.{LiveObject}
use Rattle.jpa_work.specs.heap.Objects.{object_at}
use Rattle.jpa_work.specs.declared.context.Entry.{Entry}
use Rattle.jpa_machine.specs.machine.Machine.{Machine, Manager, Transaction, opened, restarted, manager_at, no_manager, new_manager, marked, marked_in, with_mode}
use Rattle.jpa_machine.specs.machine.Transactions.{begun}
use Rattle.jpa_machine.specs.machine.Consistent.{IsLive, IsEntry, are_one}
use Rattle.jpa_machine.specs.machine.Invariant.{IsMachine, IsManager, IsTransaction, is_idle, context_of}
use Rattle.jpa_machine.proofs.machine.Facts.{held_more, numbers_same}
use Rattle.jpa_machine.proofs.machine.Going.{stands_same}
use Rattle.jpa_machine.proofs.machine.AtWork.{manager_set, managers_set}

-- ---- as it is opened

pub opened_holds : {world : World} {set : StoredSet} {numbers : List ℕ} → CanBeHeld world set numbers → IsMachine world (opened set numbers)
opened_holds {world} {set} {numbers} h =
    record {
      objects = All-nil (IsLive world.model []);
      managers = λ m l. absurd (omega (arith, l));
      placed = λ n l. absurd (omega (arith, l));
      committed = h;
      numbered = h.numbered;
      stored = numbers_same numbers;
      objects_few = omega arith;
      managers_few = omega arith;
    }

-- ---- all managers and objects gone

pub restarted_holds : {world : World} {M : Machine} → IsMachine world M → IsMachine world (restarted M)
restarted_holds {world} {M} h =
    record {
      objects = All-nil (IsLive world.model []);
      managers = λ m l. absurd (omega (arith, l));
      placed = λ n l. absurd (omega (arith, l));
      committed = h.committed;
      numbered = h.numbered;
      stored = h.stored;
      objects_few = omega arith;
      managers_few = omega arith;
    }

-- ---- a manager replaced by one with the same context

-- contexts stay where the manager keeps its own
context_kept : (M : Machine) (m k : ℕ) (x : Manager) → m < length M.managers → x.context ≡ context_of M m →
    context_of M k ≡ (slice_index_or (slice_set M.managers m x) k no_manager).context
context_kept M m k x l e = by_cases (manager_set M.managers m k x l)
  where
    by_cases : ((k ≡ m) × (slice_index_or (slice_set M.managers m x) k no_manager ≡ x))
        ⊎ ((k ≢ m) × (slice_index_or (slice_set M.managers m x) k no_manager ≡ slice_index_or M.managers k no_manager)) →
        context_of M k ≡ (slice_index_or (slice_set M.managers m x) k no_manager).context
    by_cases (inl h) = ap (context_of M) h.0 ∙ sym e ∙ sym (ap (λ (y : Manager). y.context) h.1)
    by_cases (inr h) = sym (ap (λ (y : Manager). y.context) h.1)

pub same_context : {world : World} {M : Machine} (m : ℕ) (x : Manager) → m < length M.managers → IsMachine world M → x.context ≡ context_of M m →
    IsTransaction world M.numbers x.transaction → is_idle x.is_open x.context x.transaction ≡ true → IsMachine world (record M { managers = slice_set M.managers m x })
same_context {world} {M} m x l h e s idle =
    record {
      objects = h.objects;
      managers = managers_set M.managers m x l
          (record {
            entries = subst (All (IsEntry world.model M.objects M.numbers m)) (sym e) (h.managers m l).entries;
            distinct = ap (all_distinct (are_one world.model M.objects)) e ∙ (h.managers m l).distinct;
            transaction = s;
            idle = idle;
          })
          (λ k l' apart. h.managers k l');
      placed = λ n l'. stands_same (context_of M) _ n (object_at M.objects n).life (λ k. context_kept M m k x l e) (h.placed n l');
      committed = h.committed;
      numbered = h.numbered;
      stored = h.stored;
      objects_few = h.objects_few;
      managers_few = subst (λ n. n ≤ most_managers) (sym (length-set M.managers m x)) h.managers_few;
    }

-- another transaction of a manager
pub with_transaction : {world : World} {M : Machine} (m : ℕ) (t : Option Transaction) → m < length M.managers → IsMachine world M →
    IsTransaction world M.numbers t → is_idle (manager_at M m).is_open (context_of M m) t ≡ true →
    IsMachine world (record M { managers = slice_set M.managers m (record (manager_at M m) { transaction = t }) })
with_transaction {world} {M} m t l h s idle = same_context m (record (manager_at M m) { transaction = t }) l h refl s idle

open_idle : (b : Bool) (es : List Entry) (t s : Option Transaction) → b ≡ true → is_idle b es s ≡ true
open_idle true es t s e = refl
open_idle false es t s e = absurd (false≢true e)

-- begin
pub begun_holds : {world : World} {M : Machine} (m : ℕ) → m < length M.managers → (manager_at M m).is_open ≡ true → IsMachine world M → IsMachine world (begun M m)
begun_holds {world} {M} m l is_open h =
    let now = held_more M.numbers h.committed h.stored h.numbered in
    with_transaction m _ l h (now, now) (open_idle (manager_at M m).is_open (context_of M m) None _ is_open)

-- ---- the mark

marked_held : (world : World) (ns : List ℕ) (t : Option Transaction) → IsTransaction world ns t → IsTransaction world ns (marked_in t)
marked_held world ns None h = tt
marked_held world ns (Some t) h = h

marked_idle : (b : Bool) (es : List Entry) (t : Option Transaction) → is_idle b es t ≡ true → is_idle b es (marked_in t) ≡ true
marked_idle true es t h = refl
marked_idle false [] None h = h
marked_idle false [] (Some t) h = h
marked_idle false (e ∷ es) t h = h

-- where the place is no manager's, nothing is marked
nothing_marked : {world : World} {M : Machine} (m : ℕ) → length M.managers ≤ m → IsMachine world M → IsMachine world (marked M m)
nothing_marked {world} {M} m l h =
    subst (λ xs. IsMachine world (record M { managers = xs })) (sym (set_past M.managers m (record (manager_at M m) { transaction = marked_in (manager_at M m).transaction }) l)) h

pub marked_holds : {world : World} {M : Machine} (m : ℕ) → IsMachine world M → IsMachine world (marked M m)
marked_holds {world} {M} m h = by_cases (cases_lt m (length M.managers))
  where
    by_cases : (m < length M.managers) ⊎ (length M.managers ≤ m) → IsMachine world (marked M m)
    by_cases (inl l) =
        with_transaction m (marked_in (manager_at M m).transaction) l h (marked_held world M.numbers (manager_at M m).transaction (h.managers m l).transaction)
        (marked_idle (manager_at M m).is_open (context_of M m) (manager_at M m).transaction (h.managers m l).idle)
    by_cases (inr l) = nothing_marked m l h

-- ---- the flush mode

pub mode_holds : {world : World} {M : Machine} (m : ℕ) (mode : FlushMode) → m < length M.managers → IsMachine world M → IsMachine world (with_mode M m mode)
mode_holds {world} {M} m mode l h =
    same_context m (record (manager_at M m) { mode = mode }) l h refl (h.managers m l).transaction (h.managers m l).idle

-- ---- a new manager

context_at : (xs : List Manager) (x : Manager) (k : ℕ) → x.context ≡ [] → (slice_index_or xs k no_manager).context ≡ (slice_index_or (xs ++ x ∷ []) k no_manager).context
context_at [] x zero e = sym e
context_at [] x (suc k) e = refl
context_at (y ∷ ys) x zero e = refl
context_at (y ∷ ys) x (suc k) e = context_at ys x k e

new_manager_holds : (world : World) (objects : List LiveObject) (numbers : List ℕ) (m : ℕ) → IsManager world objects numbers m new_manager
new_manager_holds world objects numbers m = record { entries = All-nil (IsEntry world.model objects numbers m); distinct = refl; transaction = tt; idle = refl }

managers_more : {world : World} {objects : List LiveObject} {numbers : List ℕ} (xs : List Manager) →
    ((k : ℕ) → k < length xs → IsManager world objects numbers k (slice_index_or xs k no_manager)) →
    (k : ℕ) → k < length (xs ++ new_manager ∷ []) → IsManager world objects numbers k (slice_index_or (xs ++ new_manager ∷ []) k no_manager)
managers_more {world} {objects} {numbers} xs h k l = by_cases (cases_lt k (length xs))
  where
    by_cases : (k < length xs) ⊎ (length xs ≤ k) → IsManager world objects numbers k (slice_index_or (xs ++ new_manager ∷ []) k no_manager)
    by_cases (inl l') = subst (IsManager world objects numbers k) (sym (get_or_append_left xs (new_manager ∷ []) no_manager k l')) (h k l')
    by_cases (inr l') =
        let e : length xs ≡ k = let n = length-append xs (new_manager ∷ []) in omega (arith, l, l', n) in
        subst (IsManager world objects numbers k) (sym (get_or_push xs new_manager no_manager k e)) (new_manager_holds world objects numbers k)

pub created_holds : {world : World} {M : Machine} → IsMachine world M → length M.managers < most_managers → IsMachine world (record M { managers = M.managers ++ new_manager ∷ [] })
created_holds {world} {M} h l =
    record {
      objects = h.objects;
      managers = managers_more M.managers h.managers;
      placed = λ n l'. stands_same (context_of M) _ n (object_at M.objects n).life (λ k. context_at M.managers new_manager k refl) (h.placed n l');
      committed = h.committed;
      numbered = h.numbered;
      stored = h.stored;
      objects_few = h.objects_few;
      managers_few = let n = length-append M.managers (new_manager ∷ []) in omega (arith, n, l);
    }

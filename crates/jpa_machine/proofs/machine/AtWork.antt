-- What holds while a manager is at work, and how the machine gives the work and takes it back.
use Rattle.jpa_value.specs.Limits.{most_managers}
use Rattle.std.proofs.Common.{◌≡◌, ◌≢◌, ◌<◌, ◌≤◌, ◌⊎◌, inl, inr, ℕ, zero, suc, Bool, true, false, List, [], ◌∷◌, length, refl, ap, sym, subst, ◌∙◌, arith}
use Rattle.std.specs.Prelude.{slice_index_or, slice_set, nat_le, Option, Some, None, ◌==◌, if◌then◌else◌}
use Rattle.std.specs.List.{list_any}
use Rattle.std.proofs.lemmas.Bool.{false≢true, cases_eq, eqb-true, eq-eqb, ne_eqb}
use Rattle.std.proofs.lemmas.List.{get_or-set_same, get_or-set_other, length-set, set_past}
use Rattle.std.proofs.lemmas.List.Elements.{All-nil}
use Rattle.jpa_behaviour.specs.Behaviour.{World}
use Rattle.jpa_stored.specs.objects.Sets.{StoredSet, each_fits}
use Rattle.jpa_rows.specs.rows.Cells.{CanBeHeld, are_numbers}
use Rattle.jpa_work.specs.declared.heap.Life.{Life}
use Rattle.jpa_work.specs.declared.heap.LiveObject.{LiveObject}
use Rattle.jpa_work.specs.heap.Objects.{object_at}
use Rattle.jpa_work.specs.declared.context.Entry.{Entry}
use Rattle.jpa_work.specs.context.Work.{Work, object}
use Rattle.jpa_operations.specs.fetch.Grown.{IsReady}
use Rattle.jpa_machine.specs.machine.Consistent.{Others, IsContext, IsConsistent, contexts, IsEntry, stands_in}
use Rattle.jpa_machine.proofs.machine.Going.{stands_same}
use Rattle.jpa_machine.proofs.machine.Ready.{ready_at_work}
use Rattle.jpa_machine.proofs.machine.Kept.{KeepsHeld, others_kept}
use Rattle.jpa_machine.specs.machine.Machine.{Machine, Manager, Transaction, manager_at, no_manager, work_of, kept, seen_in, view_in}
use Rattle.jpa_machine.specs.machine.Routes.{holder_in}
use Rattle.jpa_machine.specs.machine.Invariant.{IsMachine, IsManager, IsTransaction, is_idle, context_of}
use Rattle.jpa_machine.proofs.machine.Facts.{held_more, numbers_same, numbers_trans}

-- ---- a manager at work

-- what stands beside the manager
abbrev pub others_of : Machine → Others
others_of M = record { count = length M.managers; context = context_of M; numbers = M.numbers }

abbrev pub IsAtWork : World → Machine → ℕ → Work → Type 0
IsAtWork world M m w = IsConsistent world (others_of M) m w

-- ---- a manager, where objects change

more_held : (world : World) (ns ms : List ℕ) (t : Option Transaction) → each_fits nat_le ns ms ≡ true → are_numbers world.model ms ≡ true → IsTransaction world ns t → IsTransaction world ms t
more_held world ns ms None l n h = tt
more_held world ns ms (Some t) l n h = (held_more ms h.0 l n, held_more ms h.1 l n)

abbrev pub context_in : {world : World} {os : List LiveObject} {ns : List ℕ} {k : ℕ} {x : Manager} → IsManager world os ns k x → IsContext world.model os ns k x.context
context_in h = record { entries = h.entries; distinct = h.distinct }

-- with its context as it is then
pub manager_then : {world : World} {os ps : List LiveObject} {ns ms : List ℕ} {k : ℕ} {x : Manager} → IsContext world.model ps ms k x.context → each_fits nat_le ns ms ≡ true → are_numbers world.model ms ≡ true →
    IsManager world os ns k x → IsManager world ps ms k x
manager_then {world} {os} {ps} {ns} {ms} {k} {x} c l n h = record { entries = c.entries; distinct = c.distinct; transaction = more_held world ns ms x.transaction l n h.transaction; idle = h.idle }

pub manager_kept : {world : World} {os ps : List LiveObject} {ns ms : List ℕ} {k : ℕ} {x : Manager} → KeepsHeld k os ps → each_fits nat_le ns ms ≡ true → are_numbers world.model ms ≡ true →
    IsManager world os ns k x → IsManager world ps ms k x
manager_kept keeps l n h = manager_then (others_kept keeps l (context_in h)) l n h

-- ---- the machine gives the work

view_held : (world : World) (C : StoredSet) (ns stored : List ℕ) (t : Option Transaction) → CanBeHeld world C stored → each_fits nat_le stored ns ≡ true →
    are_numbers world.model ns ≡ true → IsTransaction world ns t → CanBeHeld world (view_in t C) ns
view_held world C ns stored None c l n h = held_more ns c l n
view_held world C ns stored (Some t) c l n h = h.1

either : (b : Bool) (xs ys : List Entry) → (b ≡ true → xs ≡ ys) → ys ≡ (if b then xs else ys)
either true xs ys e = sym (e refl)
either false xs ys e = refl

contexts_same : (M : Machine) (m k : ℕ) → context_of M k ≡ contexts (others_of M) m (work_of M m) k
contexts_same M m k = either (k == m) (context_of M m) (context_of M k) (λ e. ap (context_of M) (sym (eqb-true k m e)))

-- a number names a manager, or what stands there is no manager's
pub nobody_at : (xs : List Manager) (m : ℕ) → (m < length xs) ⊎ (slice_index_or xs m no_manager ≡ no_manager)
nobody_at [] m = inr refl
nobody_at (x ∷ xs) zero = inl (omega arith)
nobody_at (x ∷ xs) (suc m) = by_cases (nobody_at xs m)
  where
    by_cases : (m < length xs) ⊎ (slice_index_or xs m no_manager ≡ no_manager) → (suc m < suc (length xs)) ⊎ (slice_index_or xs m no_manager ≡ no_manager)
    by_cases (inl l) = inl (omega (arith, l))
    by_cases (inr e) = inr e

-- what stands where a number names no manager has no context and no transaction
pub each_manager : {world : World} {M : Machine} → IsMachine world M → (m : ℕ) → IsManager world M.objects M.numbers m (manager_at M m)
each_manager {world} {M} h m = by_cases (nobody_at M.managers m)
  where
    by_cases : (m < length M.managers) ⊎ (manager_at M m ≡ no_manager) → IsManager world M.objects M.numbers m (manager_at M m)
    by_cases (inl l) = h.managers m l
    by_cases (inr e) =
        subst (IsManager world M.objects M.numbers m) (sym e)
        (record { entries = All-nil (IsEntry world.model M.objects M.numbers m); distinct = refl; transaction = tt; idle = refl })

pub taken : {world : World} {M : Machine} (m : ℕ) → IsMachine world M → IsAtWork world M m (work_of M m)
taken {world} {M} m h =
    let own = each_manager h m in
    record {
      manager = refl;
      objects = h.objects;
      entries = own.entries;
      distinct = own.distinct;
      others = λ k l' apart. context_in (h.managers k l');
      placed = λ n l'. stands_same (context_of M) (contexts (others_of M) m (work_of M m)) n (object_at M.objects n).life (contexts_same M m) (h.placed n l');
      view = view_held world M.committed M.numbers M.stored_numbers (manager_at M m).transaction h.committed h.stored h.numbered own.transaction;
      numbered = h.numbered;
      raised = numbers_same M.numbers;
      few = h.objects_few;
    }

pub work_ready : {world : World} {M : Machine} (m : ℕ) → IsMachine world M → IsReady world.model (work_of M m)
work_ready m h = ready_at_work (taken m h)

-- ---- the machine takes it back

-- the manager of a work again
abbrev back : Machine → ℕ → Work → Manager
back M m w = record (manager_at M m) { context = w.context; transaction = seen_in (manager_at M m).transaction w.view }

seen_held : (world : World) (ns ms : List ℕ) (set : StoredSet) (t : Option Transaction) → each_fits nat_le ns ms ≡ true → are_numbers world.model ms ≡ true →
    CanBeHeld world set ms → IsTransaction world ns t → IsTransaction world ms (seen_in t set)
seen_held world ns ms set None l n s h = tt
seen_held world ns ms set (Some t) l n s h = (held_more ms h.0 l n, s)

idle_open : (b : Bool) (es : List Entry) (t : Option Transaction) → b ≡ true → is_idle b es t ≡ true
idle_open true es t e = refl
idle_open false es t e = absurd (false≢true e)

pub manager_set : (xs : List Manager) (m k : ℕ) (x : Manager) → m < length xs →
    ((k ≡ m) × (slice_index_or (slice_set xs m x) k no_manager ≡ x)) ⊎ ((k ≢ m) × (slice_index_or (slice_set xs m x) k no_manager ≡ slice_index_or xs k no_manager))
manager_set xs m k x l = by_cases (cases_eq k m)
  where
    by_cases : (k ≡ m) ⊎ (k ≢ m) → ((k ≡ m) × (slice_index_or (slice_set xs m x) k no_manager ≡ x)) ⊎ ((k ≢ m) × (slice_index_or (slice_set xs m x) k no_manager ≡ slice_index_or xs k no_manager))
    by_cases (inl e) = inl (e, ap (λ j. slice_index_or (slice_set xs m x) j no_manager) e ∙ get_or-set_same xs m x no_manager l)
    by_cases (inr apart) = inr (apart, get_or-set_other xs m k x no_manager apart)

-- a machine whose manager m is replaced
pub managers_set : {world : World} {objects : List LiveObject} {numbers : List ℕ} (xs : List Manager) (m : ℕ) (x : Manager) → m < length xs →
    IsManager world objects numbers m x →
    ((k : ℕ) → k < length xs → k ≢ m → IsManager world objects numbers k (slice_index_or xs k no_manager)) →
    (k : ℕ) → k < length (slice_set xs m x) → IsManager world objects numbers k (slice_index_or (slice_set xs m x) k no_manager)
managers_set {world} {objects} {numbers} xs m x l own others k l' = by_cases (manager_set xs m k x l)
  where
    by_cases : ((k ≡ m) × (slice_index_or (slice_set xs m x) k no_manager ≡ x)) ⊎ ((k ≢ m) × (slice_index_or (slice_set xs m x) k no_manager ≡ slice_index_or xs k no_manager)) →
        IsManager world objects numbers k (slice_index_or (slice_set xs m x) k no_manager)
    by_cases (inl h) = subst (IsManager world objects numbers k) (sym h.1) (subst (λ j. IsManager world objects numbers j x) (sym h.0) own)
    by_cases (inr h) = subst (IsManager world objects numbers k) (sym h.1) (others k (subst (λ n. k < n) (length-set xs m x) l') h.0)

pub contexts_set : (xs : List Manager) (m k : ℕ) (x : Manager) → m < length xs →
    (if k == m then x.context else (slice_index_or xs k no_manager).context) ≡ (slice_index_or (slice_set xs m x) k no_manager).context
contexts_set xs m k x l = by_cases (manager_set xs m k x l)
  where
    by_cases : ((k ≡ m) × (slice_index_or (slice_set xs m x) k no_manager ≡ x)) ⊎ ((k ≢ m) × (slice_index_or (slice_set xs m x) k no_manager ≡ slice_index_or xs k no_manager)) →
        (if k == m then x.context else (slice_index_or xs k no_manager).context) ≡ (slice_index_or (slice_set xs m x) k no_manager).context
    by_cases (inl h) = ap (λ b. if b then x.context else (slice_index_or xs k no_manager).context) (eq-eqb k m h.0) ∙ sym (ap (λ (y : Manager). y.context) h.1)
    by_cases (inr h) = ap (λ b. if b then x.context else (slice_index_or xs k no_manager).context) (ne_eqb k m h.0) ∙ sym (ap (λ (y : Manager). y.context) h.1)

pub given_back : {world : World} {M : Machine} {m : ℕ} {w : Work} → m < length M.managers → (manager_at M m).is_open ≡ true → IsMachine world M → IsAtWork world M m w → IsMachine world (kept M m w)
given_back {world} {M} {m} {w} l is_open h at =
    record {
      objects = at.objects;
      managers = managers_set M.managers m (back M m w) l
          (record {
            entries = at.entries;
            distinct = at.distinct;
            transaction = seen_held world M.numbers w.numbers w.view (manager_at M m).transaction at.raised at.numbered at.view (h.managers m l).transaction;
            idle = idle_open (manager_at M m).is_open w.context (seen_in (manager_at M m).transaction w.view) is_open;
          })
          (λ k l' apart. manager_then (at.others k l' apart) at.raised at.numbered (h.managers k l'));
      placed = λ n l'. stands_same (contexts (others_of M) m w) (context_of (kept M m w)) n (object w n).life (λ k. contexts_set M.managers m k (back M m w) l) (at.placed n l');
      committed = h.committed;
      numbered = at.numbered;
      stored = numbers_trans M.stored_numbers M.numbers w.numbers h.stored at.raised;
      objects_few = at.few;
      managers_few = subst (λ n. n ≤ most_managers) (sym (length-set M.managers m (back M m w))) h.managers_few;
    }

-- ---- whoever it was

-- the manager is one that is open
pub record IsOpen (M : Machine) (m : ℕ) : Type 0 where
  pub within : m < length M.managers
  pub is_open : (manager_at M m).is_open ≡ true

-- a manager that is open; or nobody, in whose context nothing stands
abbrev pub MayReturn : Machine → ℕ → Work → Type 0
MayReturn M m w = IsOpen M m ⊎ ((length M.managers ≤ m) × (w.context ≡ []))

-- nobody's work changes no manager
pub no_manager_kept : (M : Machine) (m : ℕ) (w : Work) → length M.managers ≤ m → kept M m w ≡ record M { objects = w.objects; numbers = w.numbers }
no_manager_kept M m w l = λ i. record M { objects = w.objects; managers = set_past M.managers m (back M m w) l i; numbers = w.numbers }

given_by_nobody : {world : World} {M : Machine} {m : ℕ} {w : Work} → length M.managers ≤ m → w.context ≡ [] → IsMachine world M → IsAtWork world M m w → IsMachine world (kept M m w)
given_by_nobody {world} {M} {m} {w} l e h at =
    subst (IsMachine world) (sym (no_manager_kept M m w l))
    (record {
      objects = at.objects;
      managers = λ k l'. manager_then (at.others k l' (λ q. omega (arith, q, l, l'))) at.raised at.numbered (h.managers k l');
      placed = λ n l'. stands_same (contexts (others_of M) m w) (context_of M) n (object w n).life (λ k. own_or_other (k == m) k refl) (at.placed n l');
      committed = h.committed;
      numbered = at.numbered;
      stored = numbers_trans M.stored_numbers M.numbers w.numbers h.stored at.raised;
      objects_few = at.few;
      managers_few = h.managers_few;
    })
  where
    none_there : (xs : List Manager) (k : ℕ) → length xs ≤ k → [] ≡ (slice_index_or xs k no_manager).context
    none_there [] k q = refl
    none_there (x ∷ xs) zero q = absurd (omega (arith, q))
    none_there (x ∷ xs) (suc k) q = none_there xs k (omega (arith, q))

    own_or_other : (b : Bool) (k : ℕ) → (k == m) ≡ b → (if b then w.context else context_of M k) ≡ context_of M k
    own_or_other false k q = refl
    own_or_other true k q = e ∙ none_there M.managers m l ∙ ap (context_of M) (sym (eqb-true k m q))

pub returned : {world : World} {M : Machine} {m : ℕ} {w : Work} → MayReturn M m w → IsMachine world M → IsAtWork world M m w → IsMachine world (kept M m w)
returned (inl o) h at = given_back o.within o.is_open h at
returned (inr n) h at = given_by_nobody n.0 n.1 h at

-- ---- who holds an object

pub holding_open : (M : Machine) (k n : ℕ) → {world : World} → IsMachine world M → list_any (λ (e : Entry). e.object == n) (context_of M k) ≡ true → IsOpen M k
holding_open M k n {world} h s = by_cases (nobody_at M.managers k)
  where
    by_idle : (b : Bool) (es : List Entry) (t : Option Transaction) → is_idle b es t ≡ true → list_any (λ (e : Entry). e.object == n) es ≡ true → b ≡ true
    by_idle true es t i s = refl
    by_idle false [] t i s = absurd (false≢true s)
    by_idle false (e ∷ es) t i s = absurd (false≢true i)

    by_cases : (k < length M.managers) ⊎ (manager_at M k ≡ no_manager) → IsOpen M k
    by_cases (inl l) = record { within = l; is_open = by_idle (manager_at M k).is_open (context_of M k) (manager_at M k).transaction (h.managers k l).idle s }
    by_cases (inr e) = absurd (false≢true (subst (λ (x : Manager). list_any (λ (e' : Entry). e'.object == n) x.context ≡ true) e s))

-- the manager that holds an object is open; an object that nobody holds is worked on in an empty context
pub holder_may : {world : World} {M : Machine} (n : ℕ) → n < length M.objects → IsMachine world M → let m = holder_in M (object_at M.objects n).life in MayReturn M m (work_of M m)
holder_may {world} {M} n l h = by_life (object_at M.objects n).life (h.placed n l)
  where
    empty : (context_of M (length M.managers)) ≡ []
    empty = by_cases (nobody_at M.managers (length M.managers))
      where
        by_cases : (length M.managers < length M.managers) ⊎ (manager_at M (length M.managers) ≡ no_manager) → context_of M (length M.managers) ≡ []
        by_cases (inl q) = absurd (omega (arith, q))
        by_cases (inr e) = ap (λ (x : Manager). x.context) e

    by_life : (life : Life) → stands_in (context_of M) n life ≡ true → MayReturn M (holder_in M life) (work_of M (holder_in M life))
    by_life Life.New s = inr (omega arith, empty)
    by_life (Life.Managed k) s = inl (holding_open M k n h s)
    by_life (Life.Removed k) s = inl (holding_open M k n h s)
    by_life Life.Detached s = inr (omega arith, empty)

pub may_still : {M : Machine} {m : ℕ} (v w : Work) → w.context ≡ v.context → MayReturn M m v → MayReturn M m w
may_still v w e (inl o) = inl o
may_still v w e (inr n) = inr (n.0, e ∙ n.1)

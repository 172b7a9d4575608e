-- What holds of the machine is kept where a transaction ends: objects are detached, and a context keeps the others.
use Rattle.jpa_value.specs.Limits.{most_managers, most_objects}
use Rattle.std.proofs.Common.{◌≡◌, ◌≢◌, ◌<◌, ◌≤◌, ℕ, Bool, true, false, List, [], ◌∷◌, length, map, refl, ap, sym, subst, ◌∙◌, arith}
use Rattle.std.specs.Prelude.{slice_index_or, slice_set, not, Some, None, ◌==◌, if◌then◌else◌, Option}
use Rattle.std.specs.List.{All, AllByRecursion}
use Rattle.std.proofs.lemmas.Bool.{false≢true, true≢false}
use Rattle.std.proofs.lemmas.List.{length-set, set-set, get_or-set_same}
use Rattle.std.proofs.lemmas.List.Elements.{recursion_from_All, All-from_recursion}
use Rattle.jpa_behaviour.specs.Behaviour.{World}
use Rattle.jpa_stored.specs.objects.Sets.{all_distinct}
use Rattle.jpa_work.specs.declared.heap.Life.{Life}
use Rattle.jpa_work.specs.declared.heap.LiveObject.{LiveObject}
use Rattle.jpa_work.specs.heap.Objects.{object_at}
use Rattle.jpa_work.specs.declared.context.Entry.{Entry}
use Rattle.jpa_work.specs.context.Work.{Work, object, state_of, is_removed, unlocked}
use Rattle.jpa_operations.specs.ops.States.{detach_each}
use Rattle.jpa_machine.specs.machine.Consistent.{IsLive, IsEntry, is_held_by, stands_in, are_one, name_of, contexts}
use Rattle.jpa_machine.proofs.machine.Facts.{numbers_same}
use Rattle.jpa_machine.proofs.machine.Going.{stands_same}
use Rattle.jpa_machine.proofs.machine.Kept.{others_kept, distinct_same, HaveNames}
use Rattle.jpa_machine.proofs.machine.Detached.{stands, freed, length_detached, detached_at, detached_live, same_object, holds_detached, held_once, stands_held, leaving, staying, leaves_not, stays, staying_each, any_part, distinct_part, any_unlocked, distinct_unlocked, unlocked_entry, entry_stays}
use Rattle.jpa_machine.specs.machine.Machine.{Machine, Manager, manager_at, no_manager, rolled_back, committed_after, cleared, closed, is_begun, has_transaction, Transaction}
use Rattle.jpa_machine.specs.machine.Invariant.{IsMachine, IsManager, context_of, is_idle}
use Rattle.jpa_machine.proofs.machine.Settled.{same_context, with_transaction}
use Rattle.jpa_machine.proofs.machine.AtWork.{IsAtWork, others_of, manager_then, managers_set, taken, contexts_set}

-- ---- a manager lets go of the objects that pass the test

module _ {world : World} (M : Machine) {m : ℕ} {w : Work} (p : ℕ → Bool) (l : m < length M.managers) (h : IsAtWork world M m w) where
  abbrev gone : List Entry
  gone = leaving p w.context

  abbrev rest : List Entry
  rest = map unlocked (staying p w.context)

  abbrev now : List LiveObject
  now = detach_each gone w.objects

  abbrev own : Manager
  own = record (manager_at M m) { context = rest; transaction = None }

  no_less : length w.objects ≤ length now
  no_less = let s = length_detached gone w.objects in omega (arith, s)

  old : AllByRecursion (IsEntry world.model w.objects w.numbers m) w.context
  old = recursion_from_All (IsEntry world.model w.objects w.numbers m) w.context h.entries

  -- nothing of another manager is let go of
  others_stand : (k : ℕ) → k ≢ m → (n : ℕ) → n < length w.objects → is_held_by k (object_at w.objects n).life ≡ true → stands n gone ≡ false
  others_stand k apart n l' e = any_part (λ (x : Entry). x.object == n) (λ x. p x.object) w.context (by_test (stands n w.context) refl)
    where
      by_test : (b : Bool) → stands n w.context ≡ b → stands n w.context ≡ false
      by_test true q = absurd (apart (held_once m k (object_at w.objects n).life (stands_held world.model w.objects w.numbers m n w.context old q) e))
      by_test false q = q

  pub let_go_objects : All (IsLive world.model now) now
  let_go_objects = detached_live world.model w.objects gone h.objects

  rest_entries : AllByRecursion (IsEntry world.model now w.numbers m) rest
  rest_entries = unlocked_each (staying p w.context) (staying_each (IsEntry world.model w.objects w.numbers m) p w.context old)
    where
      unlocked_each : (es : List Entry) → AllByRecursion (λ (e : Entry). IsEntry world.model w.objects w.numbers m e × (p e.object ≡ false)) es →
          AllByRecursion (IsEntry world.model now w.numbers m) (map unlocked es)
      unlocked_each [] k = tt
      unlocked_each (e ∷ es) k =
          (unlocked_entry e (entry_stays e no_less (same_object gone w.objects e.object ((k.0).0).within (leaves_not p e.object w.context (k.0).1)) (k.0).0), unlocked_each es k.1)

  rest_distinct : all_distinct (are_one world.model now) rest ≡ true
  rest_distinct =
      distinct_unlocked world.model now (staying p w.context)
      ∙ sym (distinct_same world.model w.objects now (staying p w.context) (names (staying p w.context) (staying_each (IsEntry world.model w.objects w.numbers m) p w.context old)))
      ∙ distinct_part (are_one world.model w.objects) (λ e. not (p e.object)) w.context h.distinct
    where
      names : (es : List Entry) → AllByRecursion (λ (e : Entry). IsEntry world.model w.objects w.numbers m e × (p e.object ≡ false)) es → AllByRecursion (HaveNames world.model w.objects now) es
      names [] k = tt
      names (e ∷ es) k =
          (ap (name_of world.model) (same_object gone w.objects e.object ((k.0).0).within (leaves_not p e.object w.context (k.0).1)), names es k.1)

  open_idle : (b : Bool) → b ≡ true → is_idle b rest None ≡ true
  open_idle true e = refl
  open_idle false e = absurd (false≢true e)

  pub let_go_managers : IsMachine world M → (manager_at M m).is_open ≡ true → (k : ℕ) → k < length (slice_set M.managers m own) → IsManager world now w.numbers k (slice_index_or (slice_set M.managers m own) k no_manager)
  let_go_managers machine is_open =
      managers_set M.managers m own l
      (record {
        entries = All-from_recursion (IsEntry world.model now w.numbers m) rest rest_entries;
        distinct = rest_distinct;
        transaction = tt;
        idle = open_idle (manager_at M m).is_open is_open;
      })
      (λ k l' apart. manager_then (others_kept (holds_detached k gone w.objects (others_stand k apart)) (numbers_same w.numbers) (h.others k l' apart)) h.raised h.numbered (machine.managers k l'))

  -- where an object stands afterwards
  at_rest : (k n : ℕ) → stands n (if k == m then w.context else context_of M k) ≡ true → stands n gone ≡ false → stands n (if k == m then rest else context_of M k) ≡ true
  at_rest k n s g = by_test (k == m) s
    where
      by_test : (b : Bool) → stands n (if b then w.context else context_of M k) ≡ true → stands n (if b then rest else context_of M k) ≡ true
      by_test true s = any_unlocked (λ j. j == n) (staying p w.context) ∙ stays p n w.context s g
      by_test false s = s

  freed_stands : (b : Bool) (n : ℕ) (x : LiveObject) → stands n gone ≡ b → stands_in (contexts (others_of M) m w) n x.life ≡ true → stands_in (λ k. if k == m then rest else context_of M k) n (freed b x).life ≡ true
  freed_stands true n x g s = refl
  freed_stands false n x g s = by_life x.life s
    where
      by_life : (life : Life) → stands_in (contexts (others_of M) m w) n life ≡ true → stands_in (λ k. if k == m then rest else context_of M k) n life ≡ true
      by_life Life.New s = refl
      by_life (Life.Managed k) s = at_rest k n s g
      by_life (Life.Removed k) s = at_rest k n s g
      by_life Life.Detached s = refl

  pub let_go_placed : (n : ℕ) → n < length now → stands_in (λ k. (slice_index_or (slice_set M.managers m own) k no_manager).context) n (object_at now n).life ≡ true
  let_go_placed n l' =
      let l'' : n < length w.objects = let s = length_detached gone w.objects in omega (arith, s, l') in
      stands_same (λ k. if k == m then rest else context_of M k) _ n (object_at now n).life (λ k. contexts_set M.managers m k own l)
      (subst (λ (x : LiveObject). stands_in (λ k. if k == m then rest else context_of M k) n x.life ≡ true) (sym (detached_at gone w.objects n l''))
      (freed_stands (stands n gone) n (object w n) refl (h.placed n l'')))

-- committed
pub committed_holds : {world : World} {M : Machine} {m : ℕ} {w : Work} → m < length M.managers → (manager_at M m).is_open ≡ true → IsMachine world M → IsAtWork world M m w →
    IsMachine world (committed_after M m w)
committed_holds {world} {M} {m} {w} l is_open h at =
    let p : ℕ → Bool = λ n. is_removed (state_of w n) in
    record {
      objects = let_go_objects M p l at;
      managers = let_go_managers M p l at h is_open;
      placed = let_go_placed M p l at;
      committed = at.view;
      numbered = at.numbered;
      stored = numbers_same w.numbers;
      objects_few = subst (λ j. j ≤ most_objects) (sym (length_detached (leaving p w.context) w.objects)) at.few;
      managers_few = subst (λ j. j ≤ most_managers) (sym (length-set M.managers m (own M p l at))) h.managers_few;
    }

-- rolled back
all_leave : (es : List Entry) → es ≡ leaving (λ n. true) es
all_leave [] = refl
all_leave (e ∷ es) = λ i. e ∷ all_leave es i

none_stays : (es : List Entry) → [] ≡ map unlocked (staying (λ n. true) es)
none_stays [] = refl
none_stays (e ∷ es) = none_stays es

pub rolled_back_holds : {world : World} {M : Machine} (m : ℕ) → m < length M.managers → (manager_at M m).is_open ≡ true → IsMachine world M → IsMachine world (rolled_back M m)
rolled_back_holds {world} {M} m l is_open h =
    let p : ℕ → Bool = λ n. true in
    let at = taken m h in
    let es = context_of M m in
    let same : record M { objects = detach_each (leaving p es) M.objects; managers = slice_set M.managers m (record (manager_at M m) { context = map unlocked (staying p es); transaction = None }) } ≡ rolled_back M m =
    λ i. record M { objects = detach_each (sym (all_leave es) i) M.objects; managers = slice_set M.managers m (record (manager_at M m) { context = sym (none_stays es) i; transaction = None }) } in
    subst (IsMachine world) same
    (record {
      objects = let_go_objects M p l at;
      managers = let_go_managers M p l at h is_open;
      placed = let_go_placed M p l at;
      committed = h.committed;
      numbered = h.numbered;
      stored = h.stored;
      objects_few = subst (λ j. j ≤ most_objects) (sym (length_detached (leaving p es) M.objects)) h.objects_few;
      managers_few = subst (λ j. j ≤ most_managers) (sym (length-set M.managers m (own M p l at))) h.managers_few;
    })

-- cleared: as rolled back, and the transaction goes on
idle_open : (b : Bool) (es : List Entry) (t : Option Transaction) → b ≡ true → is_idle b es t ≡ true
idle_open true es t e = refl
idle_open false es t e = absurd (false≢true e)

pub cleared_holds : {world : World} {M : Machine} (m : ℕ) → m < length M.managers → (manager_at M m).is_open ≡ true → IsMachine world M → IsMachine world (cleared M m)
cleared_holds {world} {M} m l is_open h =
    let t = (manager_at M m).transaction in
    let N = rolled_back M m in
    let x : Manager = record (manager_at M m) { context = []; transaction = None } in
    let at : manager_at N m ≡ x = get_or-set_same M.managers m x no_manager l in
    let same : record N { managers = slice_set N.managers m (record (manager_at N m) { transaction = t }) } ≡ cleared M m =
    λ i. record N { managers = (ap (λ (y : Manager). slice_set N.managers m (record y { transaction = t })) at ∙ set-set M.managers m x (record x { transaction = t })) i } in
    subst (IsMachine world) same
    (with_transaction m t (subst (λ n. m < n) (sym (length-set M.managers m x)) l) (rolled_back_holds m l is_open h) (h.managers m l).transaction
    (idle_open (manager_at N m).is_open (context_of N m) t (ap (λ (y : Manager). y.is_open) at ∙ is_open)))

-- closed: as rolled back where no transaction is open, and the manager is none from now on
idle_closed : (t : Option Transaction) → is_begun t ≡ false → is_idle false [] t ≡ true
idle_closed None none = refl
idle_closed (Some t) none = absurd (true≢false none)

pub closed_holds : {world : World} {M : Machine} (m : ℕ) → m < length M.managers → (manager_at M m).is_open ≡ true → has_transaction (manager_at M m) ≡ false → IsMachine world M → IsMachine world (closed M m)
closed_holds {world} {M} m l is_open none h =
    let t = (manager_at M m).transaction in
    let N = rolled_back M m in
    let x : Manager = record (manager_at M m) { context = []; transaction = None } in
    let y : Manager = record (manager_at M m) { is_open = false; context = [] } in
    let at : manager_at N m ≡ x = get_or-set_same M.managers m x no_manager l in
    let same : record N { managers = slice_set N.managers m y } ≡ closed M m = λ i. record N { managers = set-set M.managers m x y i } in
    subst (IsMachine world) same
    (same_context m y (subst (λ n. m < n) (sym (length-set M.managers m x)) l) (rolled_back_holds m l is_open h) (sym (ap (λ (z : Manager). z.context) at)) (h.managers m l).transaction (idle_closed t none))

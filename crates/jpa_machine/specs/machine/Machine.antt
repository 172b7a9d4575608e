-- The machine: live objects, managers with their contexts and transactions, the last committed set
-- and the next numbers of the generators (Jakarta Persistence 3.1, chapters 3.3 persistence
-- contexts, 7 entity managers and transactions).
use Rattle.std.specs.Prelude.{◌≡◌, ℕ, Bool, true, false, not, List, [], map, slice_index_or, slice_set, Option, Some}
use Rattle.std.specs.Prelude.{None}
use Rattle.std.specs.List.{filter, list_any}
use Rattle.jpa_stored.specs.objects.Sets.{StoredSet}
use Rattle.jpa_protocol.specs.declared.call.FlushMode.{FlushMode}
use Rattle.jpa_work.specs.declared.heap.LiveObject.{LiveObject}
use Rattle.jpa_work.specs.declared.context.Entry.{Entry}
use Rattle.jpa_work.specs.context.Work.{Work, state_of, is_removed, unlocked}
use Rattle.jpa_operations.specs.ops.States.{detach_each}

-- a manager's open transaction: the committed set at its begin, the set that it sees, and whether
-- it can only roll back
pub record Transaction : Type 0 where
  pub begun : StoredSet
  pub view : StoredSet
  pub is_marked : Bool

-- an entity manager: its flush mode, its context in order of entry, and its open transaction
pub record Manager : Type 0 where
  pub is_open : Bool
  pub mode : FlushMode
  pub context : List Entry
  pub transaction : Option Transaction

-- objects and managers by their places. numbers are the next ones of the generators as given, one
-- for each class; stored_numbers are those that were last stored, with the committed set
pub record Machine : Type 0 where
  pub objects : List LiveObject
  pub managers : List Manager
  pub numbers : List ℕ
  pub stored_numbers : List ℕ
  pub committed : StoredSet

-- as a store that holds this set and these next numbers is opened
abbrev pub opened : StoredSet → List ℕ → Machine
opened set numbers =
    record { objects = []; managers = []; numbers = numbers; stored_numbers = numbers; committed = set }

-- ---- managers

-- as one is created
abbrev pub new_manager : Manager
new_manager = record { is_open = true; mode = FlushMode.Auto; context = []; transaction = None }

-- what stands where a number names no manager
abbrev pub no_manager : Manager
no_manager = record { is_open = false; mode = FlushMode.Auto; context = []; transaction = None }

-- the manager at a place
abbrev pub manager_at : Machine → ℕ → Manager
manager_at M m = slice_index_or M.managers m no_manager

-- the managers with another one at a place
abbrev pub with_manager : Machine → ℕ → Manager → List Manager
with_manager M m x = slice_set M.managers m x

-- ---- transactions

-- whether there is an open transaction
abbrev pub is_begun : Option Transaction → Bool
is_begun None = false
is_begun (Some t) = true

-- whether a manager has an open transaction
abbrev pub has_transaction : Manager → Bool
has_transaction x = is_begun x.transaction

-- the committed set at a transaction's begin; without one, as it is now
abbrev pub begun_in : Option Transaction → StoredSet → StoredSet
begun_in None committed = committed
begun_in (Some t) committed = t.begun

-- the committed set at the begin of a manager's open transaction, or now
abbrev pub begun_set : Machine → ℕ → StoredSet
begun_set M m = begun_in (manager_at M m).transaction M.committed

-- the set that a transaction sees; without one, the committed set
abbrev pub view_in : Option Transaction → StoredSet → StoredSet
view_in None committed = committed
view_in (Some t) committed = t.view

-- what a manager sees: its open transaction's set, or the committed set
abbrev pub view : Machine → ℕ → StoredSet
view M m = view_in (manager_at M m).transaction M.committed

-- ---- a manager at work

-- a manager at work in a machine, before anything was told
abbrev pub work_of : Machine → ℕ → Work
work_of M m = record {
  manager = m;
  objects = M.objects;
  context = (manager_at M m).context;
  numbers = M.numbers;
  view = view M m;
  events = [];
}

-- a transaction that sees this set, where there is one
abbrev pub seen_in : Option Transaction → StoredSet → Option Transaction
seen_in None set = None
seen_in (Some t) set = Some (record t { view = set })

-- the machine after an operation of the manager
abbrev pub kept : Machine → ℕ → Work → Machine
kept M m w =
    let x = manager_at M m in
    record M {
      objects = w.objects;
      managers = with_manager M m (record x { context = w.context; transaction = seen_in x.transaction w.view });
      numbers = w.numbers;
    }

-- a transaction that can only roll back, where there is one
abbrev pub marked_in : Option Transaction → Option Transaction
marked_in None = None
marked_in (Some t) = Some (record t { is_marked = true })

-- the manager's transaction, where one is open, can only roll back
abbrev pub marked : Machine → ℕ → Machine
marked M m =
    let x = manager_at M m in
    record M { managers = with_manager M m (record x { transaction = marked_in x.transaction }) }

-- ---- the flush mode

-- from now on the manager has this one
abbrev pub with_mode : Machine → ℕ → FlushMode → Machine
with_mode M m mode =
    let x = manager_at M m in
    record M { managers = with_manager M m (record x { mode = mode }) }

-- whether what the manager's objects differ in is written before a query: in an open transaction
-- under the mode AUTO
abbrev pub flushes_in : Bool → FlushMode → Bool
flushes_in begun FlushMode.Auto = begun
flushes_in begun FlushMode.Commit = false

-- whether a manager flushes before a query (chapter 3.10.8)
abbrev pub flushes_first : Machine → ℕ → Bool
flushes_first M m = flushes_in (has_transaction (manager_at M m)) (manager_at M m).mode

-- ---- the end of a transaction

-- rolled back: the manager's objects are detached as they are
abbrev pub rolled_back : Machine → ℕ → Machine
rolled_back M m =
    let x = manager_at M m in
    record M {
      objects = detach_each x.context M.objects;
      managers = with_manager M m (record x { context = []; transaction = None });
    }

-- cleared: the manager's objects are detached as they are, and its transaction goes on
abbrev pub cleared : Machine → ℕ → Machine
cleared M m =
    let x = manager_at M m in
    record M {
      objects = detach_each x.context M.objects;
      managers = with_manager M m (record x { context = [] });
    }

-- closed: the manager's objects are detached as they are, and its number names none from now on
abbrev pub closed : Machine → ℕ → Machine
closed M m =
    let x = manager_at M m in
    record M {
      objects = detach_each x.context M.objects;
      managers = with_manager M m (record x { is_open = false; context = [] });
    }

-- whether an entry's object is removed
abbrev pub is_gone : Work → Entry → Bool
is_gone w e = is_removed (state_of w e.object)

-- committed: the set and the numbers are stored, removed objects are detached, and locks end
abbrev pub committed_after : Machine → ℕ → Work → Machine
committed_after M m w =
    record M {
      objects = detach_each (filter (is_gone w) w.context) w.objects;
      managers = with_manager M m
          (record (manager_at M m) {
            context = map unlocked (filter (λ e. not (is_gone w e)) w.context);
            transaction = None;
          });
      numbers = w.numbers;
      stored_numbers = w.numbers;
      committed = w.view;
    }

-- ---- a restart

-- whether any manager has an open transaction
abbrev pub any_begun : Machine → Bool
any_begun M = list_any has_transaction M.managers

-- all managers and objects are gone; the next numbers go on where they were
abbrev pub restarted : Machine → Machine
restarted M = record M { objects = []; managers = [] }

-- what is committed is the same, with the next numbers that were stored with it
pub record IsStoredAs (M N : Machine) : Type 0 where
  pub committed : N.committed ≡ M.committed
  pub numbers : N.stored_numbers ≡ M.stored_numbers

-- What holds of the machine between calls. The objects have the shape of their classes. Contexts
-- and states of objects agree. Each identity has one instance in a context. A store can hold every
-- set of the machine.
use Rattle.jpa_value.specs.Limits.{most_managers, most_objects}
use Rattle.std.specs.Prelude.{◌≡◌, ◌<◌, ◌≤◌, ℕ, Bool, true, false, nat_le, List, [], ◌∷◌, length, Option, Some, None}
use Rattle.std.specs.List.{All, list_all}
use Rattle.jpa_value.specs.Value.{is_representable}
use Rattle.jpa_behaviour.specs.Behaviour.{World}
use Rattle.jpa_stored.specs.objects.Sets.{each_fits, all_distinct}
use Rattle.jpa_rows.specs.rows.Cells.{CanBeHeld, are_numbers}
use Rattle.jpa_work.specs.declared.heap.LiveObject.{LiveObject}
use Rattle.jpa_work.specs.heap.Objects.{object_at}
use Rattle.jpa_work.specs.declared.context.Entry.{Entry}
use Rattle.jpa_machine.specs.machine.Consistent.{IsLive, IsEntry, are_one, stands_in}
use Rattle.jpa_protocol.specs.declared.call.Call.{Call}
use Rattle.jpa_protocol.specs.declared.call.Given.{Given}
use Rattle.jpa_protocol.specs.declared.call.Parameter.{Parameter}
use Rattle.jpa_protocol.specs.declared.call.ParameterValue.{ParameterValue}
use Rattle.jpa_machine.specs.machine.Machine.{Machine, Manager, Transaction, manager_at}

-- ---- managers

-- a store can hold the set at the transaction's begin, and the one that it sees
abbrev pub IsTransaction : World → List ℕ → Option Transaction → Type 0
IsTransaction world numbers None = Unit {0}
IsTransaction world numbers (Some t) = CanBeHeld world t.begun numbers × CanBeHeld world t.view numbers

-- a closed manager holds nothing
abbrev pub is_idle : Bool → List Entry → Option Transaction → Bool
is_idle true context t = true
is_idle false [] None = true
is_idle false [] (Some t) = false
is_idle false (e ∷ es) t = false

-- what holds of a manager between calls: of its entries, its transaction and its end
pub record IsManager (world : World) (objects : List LiveObject) (numbers : List ℕ) (manager : ℕ)
    (x : Manager) : Type 0 where
  pub entries : All (IsEntry world.model objects numbers manager) x.context
  pub distinct : all_distinct (are_one world.model objects) x.context ≡ true
  pub transaction : IsTransaction world numbers x.transaction
  pub idle : is_idle x.is_open x.context x.transaction ≡ true

-- ---- the machine

-- the context of a manager
abbrev pub context_of : Machine → ℕ → List Entry
context_of M m = (manager_at M m).context

-- what holds of a machine between calls
pub record IsMachine (world : World) (M : Machine) : Type 0 where
  pub objects : All (IsLive world.model M.objects) M.objects
  pub managers : (m : ℕ) → m < length M.managers → IsManager world M.objects M.numbers m (manager_at M m)
  pub placed : (n : ℕ) → n < length M.objects → stands_in (context_of M) n (object_at M.objects n).life ≡ true
  pub committed : CanBeHeld world M.committed M.stored_numbers
  pub numbered : are_numbers world.model M.numbers ≡ true
  pub stored : each_fits nat_le M.stored_numbers M.numbers ≡ true
  pub objects_few : length M.objects ≤ most_objects
  pub managers_few : length M.managers ≤ most_managers

-- ---- calls

-- whether a value that is handed in is one of the program; an object is
abbrev pub given_representable : Given → Bool
given_representable (Given.Plain v) = is_representable v
given_representable (Given.Object n) = true

-- whether what is handed in for a parameter are values of the program
abbrev pub value_representable : ParameterValue → Bool
value_representable (ParameterValue.Single g) = given_representable g
value_representable (ParameterValue.Collection gs) = list_all given_representable gs

-- what a call hands in are values of the program
abbrev pub hands_representable : Call → Bool
hands_representable Call.CreateEntityManager = true
hands_representable (Call.NewObject name) = true
hands_representable (Call.Get object name) = true
hands_representable (Call.SetValue object name value) = given_representable value
hands_representable (Call.Add object name member) = true
hands_representable (Call.TakeOut object name member) = true
hands_representable (Call.Begin em) = true
hands_representable (Call.Persist em object) = true
hands_representable (Call.Remove em object) = true
hands_representable (Call.Refresh em object) = true
hands_representable (Call.Detach em object) = true
hands_representable (Call.Flush em) = true
hands_representable (Call.Commit em) = true
hands_representable (Call.Rollback em) = true
hands_representable (Call.SetRollbackOnly em) = true
hands_representable (Call.Find em name key) = list_all given_representable key
hands_representable (Call.GetReference em name key) = list_all given_representable key
hands_representable (Call.Contains em object) = true
hands_representable (Call.Merge em object) = true
hands_representable (Call.Lock em object mode) = true
hands_representable (Call.Clear em) = true
hands_representable (Call.Close em) = true
hands_representable (Call.SetFlushMode em mode) = true
hands_representable (Call.Values objects) = true
hands_representable (Call.Pending em) = true
hands_representable Call.Restart = true
hands_representable (Call.Index entity name) = true
hands_representable (Call.Query em text parameters first max) =
    list_all (λ (p : Parameter). value_representable p.value) parameters
hands_representable (Call.ExecuteUpdate em text parameters) =
    list_all (λ (p : Parameter). value_representable p.value) parameters
hands_representable (Call.QuerySingle em text parameters first max) =
    list_all (λ (p : Parameter). value_representable p.value) parameters

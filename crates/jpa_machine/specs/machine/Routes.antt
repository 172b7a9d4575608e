-- The route of each call, and what is served along it (Jakarta Persistence 3.1, chapter 3.1.1
-- EntityManager, chapter 7.4 EntityManagerFactory).
use Rattle.jpa_value.specs.Limits.{most_objects, most_open_managers, most_managers}
use Rattle.std.specs.Prelude.{ℕ, suc, ℤ, Bool, true, false, nat_lt, ◌&&◌, List, [], ◌∷◌, ◌++◌, length, count_by, Option}
use Rattle.std.specs.Prelude.{Some, None, Result, Ok, Err, if◌then◌else◌}
use Rattle.std.specs.List.{list_all}
use Rattle.jpa_value.specs.declared.refusal.Cause.{Cause}
use Rattle.jpa_value.specs.declared.refusal.Argument.{Argument}
use Rattle.jpa_value.specs.declared.refusal.State.{State}
use Rattle.jpa_model.specs.Chains.{class_of}
use Rattle.jpa_behaviour.specs.Behaviour.{World}
use Rattle.jpa_work.specs.declared.heap.Life.{Life}
use Rattle.jpa_work.specs.heap.Objects.{place_of, object_at, new_object}
use Rattle.jpa_work.specs.context.Work.{is_managed, state_of}
use Rattle.jpa_work.specs.context.Steps.{◌>>=◌, ◌>>◌, Outcome, Done, Refused, Op, done, give, refuse, require}
use Rattle.jpa_operations.specs.fetch.Load.{find}
use Rattle.jpa_operations.specs.fetch.Members.{get, set, add, take_out}
use Rattle.jpa_work.specs.declared.context.Lock.{Lock}
use Rattle.jpa_operations.specs.ops.States.{persist, remove, refresh, detach, lock}
use Rattle.jpa_merge.specs.Merge.{merge}
use Rattle.jpa_flush.specs.flush.Flush.{flush}
use Rattle.jpa_protocol.specs.declared.call.Call.{Call}
use Rattle.jpa_protocol.specs.declared.call.Given.{Given}
use Rattle.jpa_protocol.specs.declared.call.LockMode.{LockMode}
use Rattle.jpa_protocol.specs.declared.call.FlushMode.{FlushMode}
use Rattle.jpa_protocol.specs.declared.reply.Answer.{Answer}
use Rattle.jpa_protocol.specs.declared.reply.Reply.{Reply}
use Rattle.jpa_machine.specs.machine.Machine.{Machine, new_manager, manager_at, has_transaction, work_of, with_mode}
use Rattle.jpa_machine.specs.machine.Machine.{flushes_first, cleared, closed, any_begun, restarted}
use Rattle.jpa_machine.specs.machine.Calls.{accepted, because, marks, marks_if_callback, ended, told_as, nothing, truth}
use Rattle.jpa_machine.specs.machine.Calls.{object_told, object_or_null, got, object_numbered, handed, is_short_given}
use Rattle.jpa_machine.specs.machine.Calls.{class_named, key_given}
use Rattle.jpa_machine.specs.machine.Querying.{query_call, query_single_call, update_call}
use Rattle.jpa_machine.specs.machine.Showing.{values_told}
use Rattle.jpa_machine.specs.machine.Pending.{pending}
use Rattle.jpa_machine.specs.machine.Indexing.{index_on}
use Rattle.jpa_machine.specs.machine.Transactions.{begin, commit, rollback, set_rollback_only}

-- ---- managers

-- the call createEntityManager: one more manager, where there are not too many (chapter 7.4)
abbrev pub create : Machine → Reply × Machine
create M =
    if nat_lt (count_by (λ x. x.is_open) M.managers) most_open_managers && nat_lt (length M.managers) most_managers
    then accepted [] (Answer.Number (suc (length M.managers))) (record M { managers = M.managers ++ new_manager ∷ [] })
    else because M Cause.Limit

-- a manager by its number, if it is open
abbrev pub if_open : Machine → Option ℕ → (ℕ → Reply × Machine) → Reply × Machine
if_open M None next = because M Cause.NoSuchManager
if_open M (Some m) next = if (manager_at M m).is_open then next m else because M Cause.NoSuchManager

-- a call of a manager, by its number
abbrev pub by_manager : Machine → ℤ → (ℕ → Reply × Machine) → Reply × Machine
by_manager M em next = if_open M (place_of (length M.managers) em) next

-- ---- objects, without a manager of the call

-- the call new of a class, or IllegalArgument(entity)
abbrev pub made_new : World → Machine → Option ℕ → Reply × Machine
made_new world M None = because M (Cause.IllegalArgument Argument.Entity)
made_new world M (Some class) = accepted [] (Answer.Object (suc (length M.objects)))
    (record M { objects = M.objects ++ new_object world.model class ∷ [] })

-- the call new: one more object, where there are not too many (chapter 3.2.1)
abbrev pub make_new : World → Machine → List ℕ → Reply × Machine
make_new world M name = if nat_lt (length M.objects) most_objects then made_new world M (class_of world.model name)
    else because M Cause.Limit

-- the manager that holds the object; where none does, a number that is no manager's
abbrev pub holder_in : Machine → Life → ℕ
holder_in M Life.New = length M.managers
holder_in M (Life.Managed m) = m
holder_in M (Life.Removed m) = m
holder_in M Life.Detached = length M.managers

-- the manager that holds an object; without one, a number that is no manager's
abbrev pub holder : Machine → Option ℕ → ℕ
holder M None = length M.managers
holder M (Some n) = holder_in M (object_at M.objects n).life

-- ---- operations

-- the call get: what an object has in a member (chapter 2.2)
abbrev pub get_call : World → List ℕ → ℕ → Op Answer
get_call world name n = told_as got (get world n name)

-- the call set: an object takes a value or a link in a member (chapter 2.2)
abbrev pub set_call : World → List ℕ → Given → ℕ → Op Answer
set_call world name value n = do
  v ← handed value
  told_as nothing (set world n name v)

-- the call add: a collection takes one object more (chapter 2.2)
abbrev pub add_call : World → List ℕ → ℤ → ℕ → Op Answer
add_call world name member n = do
  k ← object_numbered member
  told_as nothing (add world n name k)

-- the call that takes an object out of a collection, and whether it was there (chapter 2.2)
abbrev pub take_out_call : World → List ℕ → ℤ → ℕ → Op Answer
take_out_call world name member n = do
  k ← object_numbered member
  told_as truth (take_out world n name k)

-- the call persist (chapter 3.2.2)
abbrev pub persist_call : World → ℤ → Op Answer
persist_call world number = do
  n ← object_numbered number
  told_as nothing (persist world n)

-- the call remove (chapter 3.2.3)
abbrev pub remove_call : World → ℤ → Op Answer
remove_call world number = do
  n ← object_numbered number
  told_as nothing (remove world n)

-- the call refresh (chapter 3.2.5)
abbrev pub refresh_call : World → ℤ → Op Answer
refresh_call world number = do
  n ← object_numbered number
  told_as nothing (refresh world n)

-- the call detach (chapter 3.2.6)
abbrev pub detach_call : World → ℤ → Op Answer
detach_call world number = do
  n ← object_numbered number
  told_as nothing (detach world n)

-- the call merge, which answers the object's image (chapter 3.2.7.1)
abbrev pub merge_call : World → ℤ → Op Answer
merge_call world number = do
  n ← object_numbered number
  told_as object_told (merge world n)

-- whether the number names an object
abbrev pub stands_numbered : ℤ → Op (Unit {0})
stands_numbered number = object_numbered number >>= (λ n. done)

-- the lock that a lock mode asks for (chapter 3.4.4)
abbrev pub lock_of : LockMode → Lock
lock_of LockMode.Read = Lock.Read
lock_of LockMode.Write = Lock.Write

-- the call lock (chapter 3.4.4)
abbrev pub lock_call : World → ℤ → LockMode → Op Answer
lock_call world number mode = do
  n ← object_numbered number
  told_as nothing (lock world n (lock_of mode))

-- the call flush (chapter 3.2.4)
abbrev pub flush_call : World → Op Answer
flush_call world = told_as nothing (flush world)

-- the call find: an object or null (chapter 3.1.1)
abbrev pub find_call : World → List ℕ → List Given → Op Answer
find_call world name key = do
  require (list_all is_short_given key) Cause.Limit
  class ← class_named world name
  values ← key_given world class key
  told_as object_or_null (find world class values)

-- find, with EntityNotFound in place of null
abbrev pub there_must_be : Answer → Op Answer
there_must_be Answer.Null = refuse Cause.EntityNotFound
there_must_be a = give a

-- the call getReference: find, with EntityNotFound in place of null (chapter 3.1.1)
abbrev pub get_reference_call : World → List ℕ → List Given → Op Answer
get_reference_call world name key = do
  a ← find_call world name key
  there_must_be a

-- ---- questions, which change nothing

-- whether the manager manages an object, which there must be (chapter 3.1.1)
abbrev pub contains_in : Machine → ℕ → Option ℕ → Result Answer Cause
contains_in M m None = Err Cause.NoSuchObject
contains_in M m (Some n) = Ok (Answer.Truth (is_managed (state_of (work_of M m) n)))

-- whether an object is managed, written or not
abbrev pub contains : ℤ → Machine → ℕ → Result Answer Cause
contains number M m = contains_in M m (place_of (length M.objects) number)

-- the reply to a question, which leaves the machine as it is
abbrev pub answered : Machine → Result Answer Cause → Reply × Machine
answered M (Ok a) = accepted [] a M
answered M (Err r) = because M r

-- ---- of an open transaction, and of none

-- what is refused of an object by its number where there is none
abbrev pub required_of : Option ℕ → Cause
required_of None = Cause.NoSuchObject
required_of (Some n) = Cause.TransactionRequired

-- without one, what is refused of what the call hands in comes first
abbrev pub transaction_required : Machine → Outcome (Unit {0}) → Reply × Machine
transaction_required M (Done u w) = because M Cause.TransactionRequired
transaction_required M (Refused r events) = because M r

-- what a call does in an open transaction; without one it is refused
abbrev pub if_begun : Machine → ℕ → Outcome (Unit {0}) → Reply × Machine → Reply × Machine
if_begun M m given next = if has_transaction (manager_at M m) then next else transaction_required M given

-- the call close, which is refused while a transaction is open (chapter 3.1.1)
abbrev pub close : Machine → ℕ → Reply × Machine
close M m = if has_transaction (manager_at M m) then because M (Cause.IllegalState State.Active)
    else accepted [] Answer.Null (closed M m)

-- the call restart, which is refused while any transaction is open
abbrev pub restart : Machine → Reply × Machine
restart M = if any_begun M then because M (Cause.IllegalState State.Active)
    else accepted [] Answer.Null (restarted M)

-- ---- routes

-- how a call is served. It is an operation of a manager, or one before which its objects may be
-- flushed, or one that also asks whether its transaction is open. It may need an open transaction,
-- and be judged before by what it hands in. It is an operation on an object, of whoever holds it;
-- or it is no operation. What names no manager to the machine may read it, or let all of it go
pub data Route : Type 0 where
  OfManager : ℤ → (World → Op Answer) → Route
  ToQuery : ℤ → (Bool → World → Op Answer) → Route
  ToUpdate : ℤ → (Bool → Bool → World → Op Answer) → Route
  InTransaction : ℤ → Op (Unit {0}) → (World → Op Answer) → Route
  OfObject : ℤ → (World → ℕ → Op Answer) → Route
  ToCreate : Route
  ToMake : List ℕ → Route
  ToBegin : ℤ → Route
  ToCommit : ℤ → Route
  ToRollBack : ℤ → Route
  ToMark : ℤ → Route
  ToAsk : ℤ → (Machine → ℕ → Result Answer Cause) → Route
  ToClear : ℤ → Route
  ToSetMode : ℤ → FlushMode → Route
  ToClose : ℤ → Route
  ToRead : (World → Machine → Result Answer Cause) → Route
  ToRestart : Route

-- the reply to a call by its route, and the machine after it
abbrev pub by_route : World → Machine → Route → Reply × Machine
by_route world M (OfManager em op) = by_manager M em (λ m. ended marks M m (op world (work_of M m)))
by_route world M (ToQuery em op) = by_manager M em (λ m. ended marks M m (op (flushes_first M m) world (work_of M m)))
by_route world M (ToUpdate em op) =
    by_manager M em (λ m. ended marks M m
    (op (has_transaction (manager_at M m)) (flushes_first M m) world (work_of M m)))
by_route world M (InTransaction em given op) =
    by_manager M em (λ m. if_begun M m (given (work_of M m)) (ended marks M m (op world (work_of M m))))
by_route world M (OfObject number op) =
    let m = holder M (place_of (length M.objects) number) in
    ended marks_if_callback M m ((object_numbered number >>= op world) (work_of M m))
by_route world M ToCreate = create M
by_route world M (ToMake name) = make_new world M name
by_route world M (ToBegin em) = by_manager M em (begin M)
by_route world M (ToCommit em) = by_manager M em (commit world M)
by_route world M (ToRollBack em) = by_manager M em (rollback M)
by_route world M (ToMark em) = by_manager M em (set_rollback_only M)
by_route world M (ToAsk em question) = by_manager M em (λ m. answered M (question M m))
by_route world M (ToClear em) = by_manager M em (λ m. accepted [] Answer.Null (cleared M m))
by_route world M (ToSetMode em mode) = by_manager M em (λ m. accepted [] Answer.Null (with_mode M m mode))
by_route world M (ToClose em) = by_manager M em (close M)
by_route world M (ToRead question) = answered M (question world M)
by_route world M ToRestart = restart M

-- the route of a call
abbrev pub route : Call → Route
route Call.CreateEntityManager = ToCreate
route (Call.NewObject name) = ToMake name
route (Call.Get object name) = OfObject object (λ world. get_call world name)
route (Call.SetValue object name value) = OfObject object (λ world. set_call world name value)
route (Call.Add object name member) = OfObject object (λ world. add_call world name member)
route (Call.TakeOut object name member) = OfObject object (λ world. take_out_call world name member)
route (Call.Begin em) = ToBegin em
route (Call.Persist em object) = OfManager em (λ world. persist_call world object)
route (Call.Remove em object) = OfManager em (λ world. remove_call world object)
route (Call.Refresh em object) = OfManager em (λ world. refresh_call world object)
route (Call.Detach em object) = OfManager em (λ world. detach_call world object)
route (Call.Merge em object) = OfManager em (λ world. merge_call world object)
route (Call.Lock em object mode) = InTransaction em (stands_numbered object) (λ world. lock_call world object mode)
route (Call.Flush em) = InTransaction em done flush_call
route (Call.Commit em) = ToCommit em
route (Call.Rollback em) = ToRollBack em
route (Call.SetRollbackOnly em) = ToMark em
route (Call.Find em name key) = OfManager em (λ world. find_call world name key)
route (Call.GetReference em name key) = OfManager em (λ world. get_reference_call world name key)
route (Call.Contains em object) = ToAsk em (contains object)
route (Call.Clear em) = ToClear em
route (Call.SetFlushMode em mode) = ToSetMode em mode
route (Call.Query em text parameters first max) = ToQuery em (query_call text parameters first max)
route (Call.QuerySingle em text parameters first max) = ToQuery em (query_single_call text parameters first max)
route (Call.ExecuteUpdate em text parameters) = ToUpdate em (update_call text parameters)
route (Call.Close em) = ToClose em
route (Call.Values objects) = ToRead (values_told objects)
route (Call.Pending em) = ToRead (pending em)
route Call.Restart = ToRestart
route (Call.Index entity name) = ToRead (index_on entity name)

-- ---- what is told of a call by its route

-- the one that writes to the store
abbrev pub commits : Route → Bool
commits (ToCommit em) = true
commits (OfManager em op) = false
commits (ToQuery em op) = false
commits (ToUpdate em op) = false
commits (InTransaction em given op) = false
commits (OfObject number op) = false
commits ToCreate = false
commits (ToMake name) = false
commits (ToBegin em) = false
commits (ToRollBack em) = false
commits (ToMark em) = false
commits (ToAsk em question) = false
commits (ToClear em) = false
commits (ToSetMode em mode) = false
commits (ToClose em) = false
commits (ToRead question) = false
commits ToRestart = false

-- whether a route is that of rollback
abbrev pub rolls_back : Route → Bool
rolls_back (ToRollBack em) = true
rolls_back (OfManager em op) = false
rolls_back (ToQuery em op) = false
rolls_back (ToUpdate em op) = false
rolls_back (InTransaction em given op) = false
rolls_back (OfObject number op) = false
rolls_back ToCreate = false
rolls_back (ToMake name) = false
rolls_back (ToBegin em) = false
rolls_back (ToCommit em) = false
rolls_back (ToMark em) = false
rolls_back (ToAsk em question) = false
rolls_back (ToClear em) = false
rolls_back (ToSetMode em mode) = false
rolls_back (ToClose em) = false
rolls_back (ToRead question) = false
rolls_back ToRestart = false

-- those that take no memory and read no store
abbrev pub is_free : Route → Bool
is_free (ToBegin em) = true
is_free (ToRollBack em) = true
is_free (ToMark em) = true
is_free (ToAsk em question) = true
is_free (ToClear em) = true
is_free (ToSetMode em mode) = true
is_free (ToClose em) = true
is_free ToRestart = true
is_free (OfManager em op) = false
is_free (ToQuery em op) = false
is_free (ToUpdate em op) = false
is_free (InTransaction em given op) = false
is_free (OfObject number op) = false
is_free ToCreate = false
is_free (ToMake name) = false
is_free (ToCommit em) = false
is_free (ToRead question) = false

-- whether a call is commit
abbrev pub is_commit : Call → Bool
is_commit call = commits (route call)

-- whether a call is rollback
abbrev pub is_rollback : Call → Bool
is_rollback call = rolls_back (route call)

-- whether a call takes no memory and reads no store
abbrev pub takes_nothing : Call → Bool
takes_nothing call = is_free (route call)

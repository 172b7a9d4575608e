-- What is done with a unit of work, as operations of the definition, and how it ends.
use Rattle.std.specs.Prelude.{◌≡◌, ◌⊎◌, ℕ, ℤ, Bool, List, [], Option, Some, None, Result, Ok, Err}
use Rattle.jpa_value.specs.declared.refusal.Cause.{Cause}
use Rattle.jpa_value.specs.declared.refusal.Refusal.{Refusal}
use Rattle.jpa_behaviour.specs.Behaviour.{World}
use Rattle.jpa_protocol.specs.declared.event.Told.{Told}
use Rattle.jpa_protocol.specs.declared.reply.Answer.{Answer}
use Rattle.jpa_protocol.specs.declared.reply.Reply.{Reply}
use Rattle.jpa_work.specs.declared.heap.Life.{Life}
use Rattle.jpa_work.specs.context.Work.{Work}
use Rattle.jpa_work.specs.context.Steps.{◌>>=◌, Outcome, Op, give}
use Rattle.jpa_operations.specs.ops.States.{persist, remove, refresh, detach, lock}
use Rattle.jpa_merge.specs.Merge.{merge}
use Rattle.jpa_protocol.specs.declared.call.Call.{Call}
use Rattle.jpa_provider.specs.declared.replies.Rule.{Rule}
use Rattle.jpa_machine.specs.machine.Machine.{Machine, kept}
use Rattle.jpa_machine.specs.machine.Calls.{ended, marks, marks_if_callback, marked_if, object_numbered}
use Rattle.jpa_machine.specs.machine.Calls.{nothing, object_told, told_as}
use Rattle.jpa_machine.specs.machine.Routes.{get_call, set_call, add_call, take_out_call, lock_of}
use Rattle.jpa_machine.specs.machine.Routes.{find_call, get_reference_call}
use Rattle.jpa_machine.specs.machine.Querying.{query_call, query_single_call}
use Rattle.jpa_machine.specs.machine.Step.{IsGivenUp}

-- an operation on an object by its number
abbrev pub on_numbered : ℤ → (World → ℕ → Op Answer) → World → Op Answer
on_numbered number op world = object_numbered number >>= op world

-- ---- what calls do, by the group to which their route belongs; a call of another group does nothing

-- what a call does with the object at a place: calls on an object, and those of a manager that hand
-- one in
abbrev pub at_object : Call → World → ℕ → Op Answer
at_object (Call.Get object name) world n = get_call world name n
at_object (Call.SetValue object name value) world n = set_call world name value n
at_object (Call.Add object name member) world n = add_call world name member n
at_object (Call.TakeOut object name member) world n = take_out_call world name member n
at_object (Call.Persist em object) world n = told_as nothing (persist world n)
at_object (Call.Remove em object) world n = told_as nothing (remove world n)
at_object (Call.Refresh em object) world n = told_as nothing (refresh world n)
at_object (Call.Detach em object) world n = told_as nothing (detach world n)
at_object (Call.Merge em object) world n = told_as object_told (merge world n)
at_object (Call.Lock em object mode) world n = told_as nothing (lock world n (lock_of mode))
at_object _ world n = give Answer.Null

-- what a call does that looks for an object by its key
abbrev pub by_key : Call → World → Op Answer
by_key (Call.Find em name key) world = find_call world name key
by_key (Call.GetReference em name key) world = get_reference_call world name key
by_key _ world = give Answer.Null

-- what a call does that asks for rows, after a flush where one comes first
abbrev pub by_query : Call → Bool → World → Op Answer
by_query (Call.Query em text parameters first max) = query_call text parameters first max
by_query (Call.QuerySingle em text parameters first max) = query_single_call text parameters first max
by_query _ = λ flushes world. give Answer.Null

-- ---- which refusals mark the transaction

-- which refusals mark the transaction, by the rule of the call
abbrev pub is_marked_by : Rule → Cause → Bool
is_marked_by Rule.OfManager = marks
is_marked_by Rule.OfObject = marks_if_callback

-- ---- how an operation ends

-- want of memory and a fault of the store are told without events
abbrev pub told_of : Cause → List Told → List Told
told_of Cause.OutOfMemory events = []
told_of Cause.StoreFault events = []
told_of r events = events

-- done: the machine keeps the work; refused: nothing stays but the mark
abbrev pub Concludes : Rule → Machine → ℕ → Work → Result Answer Cause → Reply → Machine → Type 0
Concludes rule M m w (Ok answer) reply N = (reply ≡ record { events = w.events; answer = Ok answer }) × (N ≡ kept M m w)
Concludes rule M m w (Err r) reply N =
    (reply ≡ record { events = told_of r w.events; answer = Err (Refusal.Because r) })
    × (N ≡ marked_if (is_marked_by rule r) M m)

-- the reply and the machine afterwards are those of an operation's end, or the operation gave up
abbrev pub EndsSo : Rule → Machine → ℕ → Outcome Answer → Reply → Machine → Type 0
EndsSo rule M m o reply N = (ended (is_marked_by rule) M m o ≡ (reply, N)) ⊎ (IsGivenUp reply × (N ≡ M))

-- ---- who holds an object

-- the manager that holds an object, if one does
abbrev pub manager_holding : Life → Option ℕ
manager_holding Life.New = None
manager_holding (Life.Managed m) = Some m
manager_holding (Life.Removed m) = Some m
manager_holding Life.Detached = None

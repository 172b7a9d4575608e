-- What a call hands in, in the order in which it is judged, and the reply to an operation (the
-- order is this provider's own).
use Rattle.std.specs.Prelude.{ℕ, suc, ℤ, Bool, true, false, not, ◌&&◌, List, [], ◌∷◌, length, map, Option, Some, None}
use Rattle.std.specs.Prelude.{Ok, Err, if◌then◌else◌}
use Rattle.jpa_value.specs.declared.value.Value.{Value}
use Rattle.jpa_value.specs.declared.refusal.Cause.{Cause}
use Rattle.jpa_value.specs.declared.refusal.Refusal.{Refusal}
use Rattle.jpa_value.specs.declared.refusal.Argument.{Argument}
use Rattle.jpa_value.specs.declared.refusal.PersistenceFault.{PersistenceFault}
use Rattle.jpa_value.specs.Value.{fits, is_null}
use Rattle.jpa_model.specs.declared.unit.Part.{Part}
use Rattle.jpa_model.specs.Chains.{class_of, root_of}
use Rattle.jpa_behaviour.specs.Behaviour.{World, is_short}
use Rattle.jpa_work.specs.declared.heap.Handed.{Handed}
use Rattle.jpa_work.specs.heap.Objects.{place_of}
use Rattle.jpa_work.specs.context.Steps.{◌>>=◌, ◌>>◌, Outcome, Done, Refused, Op, give, refuse, require}
use Rattle.jpa_operations.specs.declared.fetch.getting.Got.{Got}
use Rattle.jpa_protocol.specs.declared.call.Given.{Given}
use Rattle.jpa_protocol.specs.declared.event.Told.{Told}
use Rattle.jpa_protocol.specs.declared.reply.Answer.{Answer}
use Rattle.jpa_protocol.specs.declared.reply.Reply.{Reply}
use Rattle.jpa_machine.specs.machine.Machine.{Machine, kept, marked}

-- ---- what is handed in

-- what is there is given, else the call is refused
abbrev pub give_or : {A : Type 0} → Cause → Option A → Op A
give_or r (Some x) = give x
give_or r None = refuse r

-- an object by its number
abbrev pub object_numbered : ℤ → Op ℕ
object_numbered n w = give_or Cause.NoSuchObject (place_of (length w.objects) n) w

-- whether a value that is handed in has at most as many bytes as one may have
abbrev pub is_short_given : Given → Bool
is_short_given (Given.Plain v) = is_short v
is_short_given (Given.Object n) = true

-- what is handed in: a value that is short enough, or an object that there is
abbrev pub handed : Given → Op Handed
handed (Given.Plain v) = do
  require (is_short v) Cause.Limit
  give (Handed.Plain v)
handed (Given.Object n) = do
  k ← object_numbered n
  give (Handed.Object k)

-- the class of an entity by its name, else IllegalArgument(entity)
abbrev pub class_named : World → List ℕ → Op ℕ
class_named world name = give_or (Cause.IllegalArgument Argument.Entity) (class_of world.model name)

-- a value for each part of the key, of its kind and not null
abbrev pub onto : Option Value → Option (List Value) → Option (List Value)
onto None vs = None
onto (Some v) None = None
onto (Some v) (Some vs) = Some (v ∷ vs)

-- a value that a key part takes: of its kind and not null
abbrev pub part_given : Part → Given → Option Value
part_given part (Given.Plain v) = if fits part.kind v && not (is_null v) then Some v else None
part_given part (Given.Object n) = None

-- the key that is handed in, where there is one value for each part and it takes it
abbrev pub whole_key : List Part → List Given → Option (List Value)
whole_key [] [] = Some []
whole_key [] (g ∷ gs) = None
whole_key (p ∷ ps) [] = None
whole_key (p ∷ ps) (g ∷ gs) = onto (part_given p g) (whole_key ps gs)

-- the key that is handed in for a class, else IllegalArgument(key)
abbrev pub key_given : World → ℕ → List Given → Op (List Value)
key_given world class gs = give_or (Cause.IllegalArgument Argument.Key) (whole_key (root_of world.model class).key gs)

-- ---- replies

-- a call is accepted, with these events and this answer
abbrev pub accepted : List Told → Answer → Machine → Reply × Machine
accepted events answer M = (record { events = events; answer = Ok answer }, M)

-- a call is refused, with the events that were told before
abbrev pub refused : List Told → Refusal → Machine → Reply × Machine
refused events r M = (record { events = events; answer = Err r }, M)

-- refused before anything was told
abbrev pub because : Machine → Cause → Reply × Machine
because M r = refused [] (Refusal.Because r) M

-- the refusals that leave the manager's transaction able only to roll back
abbrev pub marks : Cause → Bool
marks (Cause.IllegalArgument a) = true
marks (Cause.IllegalState s) = true
marks Cause.TransactionRequired = true
marks Cause.EntityExists = true
marks Cause.EntityNotFound = true
marks Cause.OptimisticLock = true
marks (Cause.Persistence p) = true
marks (Cause.Listener t) = true
marks Cause.Overflow = true
marks Cause.Limit = true
marks _ = false

-- of a call that names no manager only a callback's
abbrev pub marks_if_callback : Cause → Bool
marks_if_callback (Cause.Persistence PersistenceFault.Callback) = true
marks_if_callback (Cause.Listener t) = true
marks_if_callback _ = false

-- the manager's transaction can only roll back, where this is true
abbrev pub marked_if : Bool → Machine → ℕ → Machine
marked_if true M m = marked M m
marked_if false M m = M

-- done: the manager keeps what the operation made; refused: nothing stays but the mark, and the
-- events are told
abbrev pub ended : (Cause → Bool) → Machine → ℕ → Outcome Answer → Reply × Machine
ended rule M m (Done a w) = accepted w.events a (kept M m w)
ended rule M m (Refused r events) = refused events (Refusal.Because r) (marked_if (rule r) M m)

-- ---- answers

-- the answer of a call that gives nothing
abbrev pub nothing : Unit {0} → Answer
nothing u = Answer.Null

-- the answer of a call that asks whether something holds
abbrev pub truth : Bool → Answer
truth b = Answer.Truth b

-- an object, by its number, as an answer
abbrev pub object_told : ℕ → Answer
object_told n = Answer.Object (suc n)

-- an object, by its number, or null, as an answer
abbrev pub object_or_null : Option ℕ → Answer
object_or_null None = Answer.Null
object_or_null (Some n) = Answer.Object (suc n)

-- a value that is null is no answer
abbrev pub got : Got → Answer
got (Got.Scalar Value.Null) = Answer.Null
got (Got.Scalar (Value.Int n)) = Answer.Value (Value.Int n)
got (Got.Scalar (Value.Text bytes)) = Answer.Value (Value.Text bytes)
got (Got.Scalar (Value.Bytes bytes)) = Answer.Value (Value.Bytes bytes)
got (Got.One n) = Answer.Object (suc n)
got (Got.Many ns) = Answer.Objects (map suc ns)

-- an operation's answer, told so
abbrev pub told_as : {A : Type 0} → (A → Answer) → Op A → Op Answer
told_as f op = op >>= (λ a. give (f a))

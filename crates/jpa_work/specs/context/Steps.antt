-- What an operation does to a work: it ends with an answer, or it is refused, and nothing after the
-- refusal happens.
use Rattle.std.specs.Prelude.{◌≡◌, Bool, true, false, List, [], ◌∷◌, Result, Ok, Err}
use Rattle.jpa_value.specs.declared.refusal.Cause.{Cause}
use Rattle.jpa_protocol.specs.declared.event.Told.{Told}
use Rattle.jpa_work.specs.context.Work.{Work}

-- done, with the work as it is then; or refused, with the events that were told up to then
pub data Outcome (A : Type 0) : Type 0 where
  Done : A → Work → Outcome A
  Refused : Cause → List Told → Outcome A

-- an operation, which leads from a work to its outcome
abbrev pub Op : Type 0 → Type 0
Op A = Work → Outcome A

-- goes on from an outcome with its answer; a refusal stays
abbrev pub after : {A B : Type 0} → Outcome A → (A → Op B) → Outcome B
after (Done a w) f = f a w
after (Refused r events) f = Refused r events

infixl 10 ◌>>=◌
-- an operation, then one by its answer
abbrev pub ◌>>=◌ : {A B : Type 0} → Op A → (A → Op B) → Op B
(op >>= f) w = after (op w) f

infixl 10 ◌>>◌
-- an operation, then another one
abbrev pub ◌>>◌ : {A B : Type 0} → Op A → Op B → Op B
(op >> next) w = after (op w) (λ _. next)

-- ends with this answer, and leaves the work as it is
abbrev pub give : {A : Type 0} → A → Op A
give a w = Done a w

-- ends without an answer, and leaves the work as it is
abbrev pub done : Op (Unit {0})
done w = Done tt w

-- is refused for this cause, with the events that were told
abbrev pub refuse : {A : Type 0} → Cause → Op A
refuse r w = Refused r w.events

-- is refused for this cause where the test is false
abbrev pub require : Bool → Cause → Op (Unit {0})
require true r w = Done tt w
require false r w = Refused r w.events

-- what it reads of the work
abbrev pub read : {A : Type 0} → (Work → A) → Op A
read f w = Done (f w) w

-- changes the work
abbrev pub change : (Work → Work) → Op (Unit {0})
change f w = Done tt (f w)

-- in order
abbrev pub each : {A : Type 0} → (A → Op (Unit {0})) → List A → Op (Unit {0})
each f [] w = Done tt w
each f (x ∷ xs) w = after (f x w) (λ _. each f xs)

-- ---- what code says of an operation

-- want of memory is a refusal that a definition never gives; a fault of the store is none, since an
-- operation looks at no store
abbrev pub IsRefusedAs : {A : Type 0} → Cause → List Told → Outcome A → Type 0
IsRefusedAs Cause.OutOfMemory events o = Unit {0}
IsRefusedAs Cause.StoreFault events o = ⊥
IsRefusedAs r events o = o ≡ Refused r events

-- what code returned, and the work that it left, are the operation's outcome, unless it gave up
abbrev pub Meets : {A : Type 0} → Result A Cause → Work → Outcome A → Type 0
Meets (Ok a) new o = o ≡ Done a new
Meets (Err r) new o = IsRefusedAs r new.events o

-- the same of code that also hands over what it did, which its other clauses tell
abbrev pub Ends : {B : Type 0} → Result B Cause → Work → Outcome (Unit {0}) → Type 0
Ends (Ok b) new o = o ≡ Done tt new
Ends (Err r) new o = IsRefusedAs r new.events o

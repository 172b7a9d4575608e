-- What a reader of JSON answered, beside what a definition says.
use Rattle.std.specs.Prelude.{◌≡◌, Bool, true, false, Option, Some, None, Result, Ok, Err, ⊤, refl}
use Rattle.jpa_value.specs.declared.refusal.Cause.{Cause}
use Rattle.jpa_json.specs.declared.readers.unread.Unread.{Unread}

infixl 10 ◌>>=◌
-- goes on with a meaning, where there is one
abbrev pub ◌>>=◌ : {A B : Type 0} → Option A → (A → Option B) → Option B
(Some x) >>= f = f x
None >>= f = None

-- goes on where the test holds
abbrev pub guard : Bool → Option ⊤
guard true = Some tt
guard false = None

-- goes on, with the proof, where the test holds
abbrev pub proof_of : (b : Bool) → Option (b ≡ true)
proof_of true = Some refl
proof_of false = None

-- of another form, so that there is no meaning; memory says nothing
abbrev pub Fails : {B : Type 0} → Unread → Option B → Type 0
Fails Unread.Form meaning = meaning ≡ None
Fails Unread.OutOfMemory meaning = ⊤

-- what was returned, seen by view, is the meaning, unless memory ran out
abbrev pub Gives : {A B : Type 0} → (A → B) → Result A Unread → Option B → Type 0
Gives view (Ok x) meaning = meaning ≡ Some (view x)
Gives view (Err unread) meaning = Fails unread meaning

-- a thing as it is
abbrev pub same : {A : Type 0} → A → A
same x = x

-- ---- refusals

-- what was read, or else the refusal, which is this one of another form
abbrev pub or_refuse : {A : Type 0} → Cause → Result A Unread → Result A Cause
or_refuse form (Ok x) = Ok x
or_refuse form (Err Unread.Form) = Err form
or_refuse form (Err Unread.OutOfMemory) = Err Cause.OutOfMemory

-- goes on where nothing was refused
abbrev pub and_then : {A B : Type 0} → Result A Cause → (A → Result B Cause) → Result B Cause
and_then (Ok x) f = f x
and_then (Err cause) f = Err cause

-- What a reader's answer says once it is a refusal.
use Rattle.std.proofs.Common.{◌≡◌, ◌⊎◌, inl, inr, Option, Result, Ok, Err}
use Rattle.std.specs.Option.{ok_or}
use Rattle.jpa_value.specs.declared.refusal.Cause.{Cause}
use Rattle.jpa_json.specs.readers.Outcome.{Gives, or_refuse}
use Rattle.jpa_json.specs.declared.readers.unread.Unread.{Unread}

-- what was read is the meaning
pub found : {A B : Type 0} (view : A → B) (form : Cause) (r : Result A Unread) (o : Option B) (x : A) → Gives view r o → Ok x ≡ or_refuse form r → Ok (view x) ≡ ok_or o form
found view form (Ok y) o x h e = rw h cc
found view form (Err Unread.Form) o x h e = cc
found view form (Err Unread.OutOfMemory) o x h e = cc

-- memory ran out, or there is no meaning
pub refused : {A B : Type 0} (view : A → B) (form : Cause) (r : Result A Unread) (o : Option B) (cause : Cause) → Gives view r o → Err cause ≡ or_refuse form r → (cause ≡ Cause.OutOfMemory) ⊎ (Err cause ≡ ok_or o form)
refused view form (Ok y) o cause h e = cc
refused view form (Err Unread.Form) o cause h e = rw h (inr cc)
refused view form (Err Unread.OutOfMemory) o cause h e = inl cc

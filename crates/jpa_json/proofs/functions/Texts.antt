-- What bytes give, case by case.
use Rattle.std.proofs.Common.{◌≡◌, inl, inr, ℕ, List, [], Bool, true, false, Option, Some, None, Result, Ok, Err, IfOk, refl, sym, ap, subst, ◌∙◌}
use Rattle.std.specs.Prelude.{codes, unwrap_or}
use Rattle.std.specs.Option.{ok_or}
use Rattle.jpa_value.specs.declared.refusal.Cause.{Cause}
use Rattle.jpa_value.specs.declared.refusal.MappingFault.{MappingFault}
use Rattle.jpa_model.specs.Described.{IsUnlessMemory}
use Rattle.serde_json.specs.Data.{Data, null, boolean, number, string, array, object}
use Rattle.serde_json.specs.Find.{get}
use Rattle.serde_json.specs.View.{view}
use Rattle.serde_json.specs.declared.value.Value.{Value}
use Rattle.jpa_json.specs.readers.JsonOf.{text_data, json_of}
use Rattle.jpa_json.specs.readers.Members.{list_of}
use Rattle.jpa_json.specs.readers.Outcome.{◌>>=◌, guard, Gives, same, or_refuse, and_then}
use Rattle.jpa_json.specs.declared.readers.unread.Unread.{Unread}
use Rattle.jpa_json.proofs.readers.Refusals.{found, refused}
use Rattle.jpa_json.specs.declared.functions.make.Function.{Function}
use Rattle.jpa_json.specs.functions.FunctionsIn.{functions_at, functions_in}
use Rattle.jpa_json.specs.functions.FunctionsOf.{function_of, functions_of, functions_if_there}
use Rattle.jpa_json.specs.functions.Sorts.{are_named_once}

-- a text that is refused has no functions
pub text_refused : (bytes : List ℕ) (r : Result Value Unread) (cause : Cause) → Gives view r (text_data bytes) → Err cause ≡ or_refuse (Cause.Mapping MappingFault.Json) r
    → IsUnlessMemory {A = List Function} (Err cause) (functions_in bytes)
unfolding functions_in
text_refused bytes r cause h e = elim (refused view (Cause.Mapping MappingFault.Json) r (text_data bytes) cause h e) [
  | inl memory ↦ inl memory
  | inr bad ↦ inr (ap (λ json. and_then json functions_at) bad)
]

pub functions_read : (bytes : List ℕ) (j : Result Value Unread) (json : Value) (r : Result (List Function) Cause) → Gives view j (text_data bytes) → Ok json ≡ or_refuse (Cause.Mapping MappingFault.Json) j
    → IsUnlessMemory r (functions_at (view json)) → IsUnlessMemory r (functions_in bytes)
unfolding functions_in
functions_read bytes j json r got e h = rw (← found view (Cause.Mapping MappingFault.Json) j (text_data bytes) json got e) h

-- functions of another form are refused so
pub formed : (o : Option (List Function)) (r : Result (List Function) Unread) → Gives same r o → IsUnlessMemory (or_refuse (Cause.Mapping MappingFault.Function) r) (ok_or o (Cause.Mapping MappingFault.Function))
formed o (Ok functions) h = rw h refl
formed o (Err Unread.Form) h = inr (rw h refl)
formed o (Err Unread.OutOfMemory) h = inl refl

-- ---- functions that were read have no second name

none_some : {A : Type 0} (x : A) → None ≡ Some x → ⊥
none_some x e = cc

guarded : (b : Bool) (fs gs : List Function) → are_named_once fs ≡ b → (guard b >>= λ once. Some fs) ≡ Some gs → are_named_once gs ≡ true
guarded true fs gs h e = sym (ap (λ o. are_named_once (unwrap_or o fs)) e) ∙ h
guarded false fs gs h e = absurd (none_some gs e)

once_in : (o : Option (List Function)) (gs : List Function) → (o >>= λ fs. guard (are_named_once fs) >>= λ once. Some fs) ≡ Some gs → are_named_once gs ≡ true
once_in None gs e = absurd (none_some gs e)
once_in (Some fs) gs e = guarded (are_named_once fs) fs gs refl e

once_there : (o : Option Data) (gs : List Function) → functions_if_there o ≡ Some gs → are_named_once gs ≡ true
unfolding functions_of
once_there None gs e = ap (λ o. are_named_once (unwrap_or o [])) (sym e)
once_there (Some d) gs e = once_in (list_of function_of d) gs e

once_formed : (o : Option (List Function)) → ((gs : List Function) → o ≡ Some gs → are_named_once gs ≡ true) → IfOk (ok_or o (Cause.Mapping MappingFault.Function)) (λ fs. are_named_once fs ≡ true)
once_formed None each = tt
once_formed (Some fs) each = each fs refl

once_at : (d : Data) → IfOk (functions_at d) (λ fs. are_named_once fs ≡ true)
once_at null = tt
once_at (boolean b) = tt
once_at (number n) = tt
once_at (string s) = tt
once_at (array ds) = tt
once_at (object ms) = once_formed _ (once_there (get (codes "functions") (object ms)))

once_after : (r : Result Data Cause) → IfOk (and_then r functions_at) (λ fs. are_named_once fs ≡ true)
once_after (Ok d) = once_at d
once_after (Err cause) = tt

once_all : (bytes : List ℕ) → IfOk (functions_in bytes) (λ fs. are_named_once fs ≡ true)
unfolding functions_in
once_all bytes = once_after (json_of bytes)

pub once_read : (bytes : List ℕ) (r : Result (List Function) Cause) → IsUnlessMemory r (functions_in bytes) → IfOk r (λ fs. are_named_once fs ≡ true)
once_read bytes (Ok fs) h = subst (λ r. IfOk r (λ gs. are_named_once gs ≡ true)) (sym h) (once_all bytes)
once_read bytes (Err cause) h = tt

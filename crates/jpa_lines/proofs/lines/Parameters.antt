-- Parameters are read member by member.
use Rattle.std.proofs.Common.{◌≡◌, ℕ, List, [], ◌∷◌, ◌++◌, Option, Some, None, String, Global, string_bytes, refl, sym, ap, append_assoc}
use Rattle.serde_json.specs.View.{view, members_view}
use Rattle.serde_json.specs.declared.value.Value.{Value}
use Rattle.jpa_protocol.specs.declared.call.ParameterValue.{ParameterValue}
use Rattle.jpa_protocol.specs.declared.call.Parameter.{Parameter}
use Rattle.jpa_json.specs.readers.Outcome.{◌>>=◌}
use Rattle.jpa_json.proofs.readers.Items.{with_front}
use Rattle.jpa_lines.specs.lines.CallOf.{parameter_value, parameters}

abbrev pub Entry : Type 0
Entry = String Global × Value

bind_front : (front : List Parameter) (p : Parameter) (o : Option (List Parameter)) → with_front front (o >>= λ others. Some (p ∷ others)) ≡ with_front (front ++ p ∷ []) o
bind_front front p (Some others) = ap Some (sym (append_assoc front (p ∷ []) others))
bind_front front p None = refl

-- the next member is read
pub member_read : (front : List Parameter) (entries left : List Entry) (key : String Global) (v : Value) (name : List ℕ) (value : ParameterValue)
    → entries ≡ (key, v) ∷ left → name ≡ string_bytes key → parameter_value (view v) ≡ Some value
    → with_front front (parameters (members_view entries)) ≡ with_front (front ++ record { name = name; value = value } ∷ []) (parameters (members_view left))
member_read front entries left key v name value is named e = rw (is, named, e) (bind_front front (record { name = string_bytes key; value = value }) (parameters (members_view left)))

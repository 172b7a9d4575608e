-- A value as the bytes of a cell.
use Rattle.std.specs.Prelude.{ℕ, Bool, true, false, List, ◌∷◌, Option, Some, None}
use Rattle.jpa_value.specs.declared.value.Value.{Value}
use Rattle.jpa_rows.specs.keys.Keys.{int_bytes}

-- null has no cell
abbrev pub value_bytes : Value → Option (List ℕ)
value_bytes Value.Null = None
value_bytes (Value.Int n) = Some (1 ∷ int_bytes n)
value_bytes (Value.Text bytes) = Some (2 ∷ bytes)
value_bytes (Value.Bytes bytes) = Some (3 ∷ bytes)

-- whether a value is not null
abbrev pub is_given : Value → Bool
is_given Value.Null = false
is_given (Value.Int n) = true
is_given (Value.Text bytes) = true
is_given (Value.Bytes bytes) = true

-- Values in JSON: an integer of 64 bits, a text, or an object of the one member `hex` with digits
-- of either case.
use Rattle.std.specs.Prelude.{ℕ, ℤ, ◌==◌, List, codes, Option, Some, None, Result, Ok, Err}
use Rattle.hex.specs.Hex.{decode_of}
use Rattle.hex.specs.declared.error.FromHexError.{FromHexError}
use Rattle.jpa_value.specs.declared.value.Value.{Value}
use Rattle.serde_json.specs.Data.{Data, null, boolean, number, string, array, object}
use Rattle.serde_json.specs.Find.{as_i64}
use Rattle.jpa_json.specs.readers.Members.{count_of, text_at}
use Rattle.jpa_json.specs.readers.Outcome.{◌>>=◌, guard}

-- bytes that were decoded, as a value
abbrev pub decoded : Result (List ℕ) FromHexError → Option Value
decoded (Ok bytes) = Some (Value.Bytes bytes)
decoded (Err e) = None

-- the bytes of hexadecimal digits
abbrev pub bytes_said : List ℕ → Option Value
bytes_said digits = decoded (decode_of digits)

-- an object of the one member `hex`, as bytes
unfoldable pub bytes_of : Data → Option Value
bytes_of d = do
  one ← guard (count_of d == 1)
  digits ← text_at (codes "hex") d
  bytes_said digits

-- an integer as a value, where it is one of 64 bits
abbrev pub integer : Option ℤ → Option Value
integer (Some n) = Some (Value.Int n)
integer None = None

-- null is none of them
abbrev pub value_of : Data → Option Value
value_of null = None
value_of (boolean b) = None
value_of (number n) = integer (as_i64 n)
value_of (string s) = Some (Value.Text s)
value_of (array ds) = None
value_of (object ms) = bytes_of (object ms)

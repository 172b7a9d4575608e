-- What the program's stored functions mean (Jakarta Persistence 3.1, chapters 3.5 listeners and
-- callbacks, 3.8 converters).
use Rattle.std.specs.Prelude.{ℕ, ℤ, pos, negsuc, ◌+ℤ◌, int_lt, List, [], ◌∷◌, ◌++◌, find, codes, bytes_eq}
use Rattle.std.specs.Prelude.{if◌then◌else◌, Option, Some, None, option_map, unwrap_or, Result, Ok, Err}
use Rattle.hex.specs.Hex.{encode_lower, decode_of}
use Rattle.hex.specs.declared.error.FromHexError.{FromHexError}
use Rattle.jpa_value.specs.declared.value.Value.{Value}
use Rattle.jpa_value.specs.Value.{is_null}
use Rattle.jpa_model.specs.Chains.{same_name}
use Rattle.jpa_behaviour.specs.declared.Image.{Image}
use Rattle.jpa_behaviour.specs.declared.Named.{Named}
use Rattle.jpa_behaviour.specs.declared.Heard.{Heard}
use Rattle.jpa_behaviour.specs.Registered.{Meaning}
use Rattle.jpa_json.specs.functions.Pairs.{column_beside, attribute_beside}
use Rattle.jpa_json.specs.declared.functions.make.Listener.{Listener}
use Rattle.jpa_json.specs.declared.functions.make.Converter.{Converter}

-- ---- listeners

-- the value under a name, with the name
abbrev pub named_so : List Named → List ℕ → Option Named
named_so values name = find (λ n. same_name n.name name) values

-- the value under a name
abbrev pub value_of : Image → List ℕ → Option Value
value_of image name = option_map (λ n. n.value) (named_so image.values name)

-- a value, or null where there is none
abbrev pub value_or_null : Option Value → Value
value_or_null value = unwrap_or value Value.Null

-- the answer that assigns one value
abbrev pub assign : List ℕ → Value → Heard
assign name value = Heard.Assign ((record { name = name; value = value }) ∷ [])

-- the greatest integer, 2^63 - 1
abbrev pub greatest : ℤ
greatest = pos 9223372036854775807

-- one more, where there is an integer above
abbrev pub counted_up : List ℕ → ℤ → Heard
counted_up name n = if int_lt n greatest then assign name (Value.Int (n +ℤ pos 1)) else Heard.Throw (codes "count")

-- null counts as 0
abbrev pub counted : List ℕ → Option Value → Heard
counted name (Some Value.Null) = assign name (Value.Int (pos 1))
counted name (Some (Value.Int n)) = counted_up name n
counted name value = Heard.Throw (codes "count")

-- it throws where there is no value, or null
abbrev pub required : List ℕ → Option Value → Heard
required name None = Heard.Throw (codes "require " ++ name)
required name (Some v) = if is_null v then Heard.Throw (codes "require " ++ name) else Heard.Assign []

-- what a listener answers to what it sees (chapter 3.5)
abbrev pub heard_by : Listener → Image → Heard
heard_by (Listener.SetText given) image = assign given.attribute (Value.Text given.value)
heard_by (Listener.Copy from to) image = assign to (value_or_null (value_of image from))
heard_by (Listener.Count attribute) image = counted attribute (value_of image attribute)
heard_by (Listener.Require attribute) image = required attribute (value_of image attribute)
heard_by Listener.Note image = Heard.Assign []

-- ---- converters: each throws, which is nothing, for what it does not convert

-- -1-i for i: 0 and -1, 1 and -2, 2 and -3 change places
abbrev pub flipped : ℤ → ℤ
flipped (pos n) = negsuc n
flipped (negsuc n) = pos n

-- an integer turned round; other values throw
abbrev pub flip : Value → Option Value
flip (Value.Int n) = Some (Value.Int (flipped n))
flip v = None

-- the digits of bytes, in lower case
abbrev pub digits_of : Value → Option Value
digits_of (Value.Bytes bytes) = Some (Value.Text (encode_lower bytes))
digits_of v = None

-- the bytes whose digits in lower case these are
abbrev pub if_written_so : List ℕ → List ℕ → Option Value
if_written_so digits bytes = if bytes_eq (encode_lower bytes) digits then Some (Value.Bytes bytes) else None

-- the bytes that were decoded, where their digits are those
abbrev pub if_decoded : List ℕ → Result (List ℕ) FromHexError → Option Value
if_decoded digits (Ok bytes) = if_written_so digits bytes
if_decoded digits (Err e) = None

-- the bytes of digits in lower case
abbrev pub bytes_in : List ℕ → Option Value
bytes_in digits = if_decoded digits (decode_of digits)

-- the bytes of a text of digits in lower case; other values throw
abbrev pub bytes_of : Value → Option Value
bytes_of (Value.Text digits) = bytes_in digits
bytes_of v = None

-- an attribute's value for its column
abbrev pub column_by : Converter → Value → Option Value
column_by Converter.Flip v = flip v
column_by (Converter.Table table) v = column_beside table.pairs v
column_by Converter.Hextext v = digits_of v

-- a column's value for its attribute
abbrev pub attribute_by : Converter → Value → Option Value
attribute_by Converter.Flip v = flip v
attribute_by (Converter.Table table) v = attribute_beside table.pairs v
attribute_by Converter.Hextext v = bytes_of v

-- all three
abbrev pub meaning : Meaning Listener Converter
meaning = record { heard = heard_by; column = column_by; attribute = attribute_by }

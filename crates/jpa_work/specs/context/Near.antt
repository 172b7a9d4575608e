-- Which entries of a context are near a key: those that entered under a key with its fingerprint.
-- Equal keys have one fingerprint, so that who looks for a key's entries finds each of them there,
-- and perhaps some others.
use Rattle.std.specs.Prelude.{◌≡◌, ℕ, ◌+◌, ◌*◌, ◌%◌, ◌^◌, Bool, true, ◌==◌, List, All, map, filter, fold}
use Rattle.std.specs.Int.{w64, cast_unsigned}
use Rattle.jpa_value.specs.declared.value.Value.{Value}
use Rattle.jpa_work.specs.declared.context.Entry.{Entry}

-- one more number in a fingerprint of 64 bits
abbrev pub mixed : ℕ → ℕ → ℕ
mixed print number = (print * 1_099_511_628_211 % 2 ^ 64 + number) % 2 ^ 64

-- one more value: an integer's 64 bits, or byte for byte
abbrev pub with_value : ℕ → Value → ℕ
with_value print Value.Null = mixed print 0
with_value print (Value.Int n) = mixed print (cast_unsigned w64 n)
with_value print (Value.Text bytes) = fold mixed print bytes
with_value print (Value.Bytes bytes) = fold mixed print bytes

-- the fingerprint of a key: its values mixed in turn
unfoldable pub fingerprint : List Value → ℕ
fingerprint key = fold with_value 1 key

-- whether two keys have one fingerprint
abbrev pub is_near : List Value → List Value → Bool
is_near key other = fingerprint key == fingerprint other

-- the objects of the entries near a key, in the order in which they entered
abbrev pub places_near : List Value → List Entry → List ℕ
places_near key es = map (λ e. e.object) (filter (λ e. is_near e.key key) es)

-- every entry whose object passes a test entered under the key
abbrev pub AreUnder : List Value → (ℕ → Bool) → List Entry → Type 0
AreUnder key p es = All (λ e. p e.object ≡ true → e.key ≡ key) es

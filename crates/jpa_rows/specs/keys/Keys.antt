-- The bytes of a key, and what it is for bytes to spell one.
use Rattle.std.specs.Prelude.{◌≡◌, ℕ, suc, ℤ, pos, negsuc, ◌+◌, ◌-◌, ◌^◌, ◌≤◌, Bool, true, false, ◌==◌, ◌&&◌, nat_lt}
use Rattle.std.specs.Prelude.{List, [], ◌∷◌, ◌++◌, take, length, if◌then◌else◌}
use Rattle.std.specs.List.{flat_map, list_all}
use Rattle.std.specs.Int.{to_be_bytes, w64}
use Rattle.std.specs.Str.{is_utf8}
use Rattle.jpa_value.specs.declared.value.Value.{Value}
use Rattle.jpa_value.specs.declared.value.Kind.{Kind}
use Rattle.jpa_value.specs.Value.{is_i64}

-- an integer plus 2^63, so that the bytes are in the order of the numbers
abbrev pub shifted : ℤ → ℕ
shifted (pos n) = n + 2 ^ 63
shifted (negsuc n) = 2 ^ 63 - suc n

-- an integer's eight bytes, the highest first, after it was shifted
abbrev pub int_bytes : ℤ → List ℕ
int_bytes n = to_be_bytes w64 (shifted n)

-- a byte 0 is written as 0 and 255
abbrev pub escaped : List ℕ → List ℕ
escaped bytes = flat_map (λ b. if b == 0 then 0 ∷ 255 ∷ [] else b ∷ []) bytes

-- the bytes of a key part: its tag, then its value; none for null
abbrev pub part_bytes : Value → List ℕ
part_bytes Value.Null = []
part_bytes (Value.Int n) = 1 ∷ int_bytes n
part_bytes (Value.Text bytes) = 2 ∷ escaped bytes ++ 0 ∷ 0 ∷ []
part_bytes (Value.Bytes bytes) = 3 ∷ escaped bytes ++ 0 ∷ 0 ∷ []

-- the bytes of a key: those of its parts, in turn (chapter 2.4)
abbrev pub key_bytes : List Value → List ℕ
key_bytes key = flat_map part_bytes key

-- a value of this kind that is not null: an integer of 64 bits, a text in UTF-8, bytes
abbrev pub is_part_of : Kind → Value → Bool
is_part_of Kind.Int (Value.Int n) = is_i64 n
is_part_of Kind.Text (Value.Text bytes) = is_utf8 bytes
is_part_of Kind.Bytes (Value.Bytes bytes) = list_all (λ b. nat_lt b 256) bytes
is_part_of kind v = false

-- one part of each kind, in their order
abbrev pub is_key_of : List Kind → List Value → Bool
is_key_of [] [] = true
is_key_of [] (v ∷ key) = false
is_key_of (kind ∷ kinds) [] = false
is_key_of (kind ∷ kinds) (v ∷ key) = is_part_of kind v && is_key_of kinds key

-- the bytes are those of this key, which is of these kinds
pub record Spells (kinds : List Kind) (bytes : List ℕ) (key : List Value) : Type 0 where
  pub whole : is_key_of kinds key ≡ true
  pub same : key_bytes key ≡ bytes

-- the first so many bytes are those of this key
pub record SpellsFront (kinds : List Kind) (bytes : List ℕ) (key : List Value) (count : ℕ) : Type 0 where
  pub within : count ≤ length bytes
  pub front : Spells kinds (take count bytes) key

-- an owner's key and after it the key of what it owns
pub record SpellsPair (owner_kinds target_kinds : List Kind) (bytes : List ℕ) (owner target : List Value) : Type 0 where
  pub owner_whole : is_key_of owner_kinds owner ≡ true
  pub target_whole : is_key_of target_kinds target ≡ true
  pub same : key_bytes owner ++ key_bytes target ≡ bytes

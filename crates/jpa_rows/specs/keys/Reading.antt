-- A key read off the front of bytes, part by part: what was read, and how many bytes it took.
use Rattle.std.specs.Prelude.{ℕ, ℤ, pos, negsuc, ◌+◌, ◌-◌, ◌^◌, Bool, true, false, ◌==◌, ◌&&◌, nat_le, List, [], ◌∷◌}
use Rattle.std.specs.Prelude.{◌++◌, take, drop, length, Option, Some, None, if◌then◌else◌}
use Rattle.std.specs.Int.{from_be_bytes, w64}
use Rattle.std.specs.Str.{is_utf8}
use Rattle.jpa_value.specs.declared.value.Value.{Value}
use Rattle.jpa_value.specs.declared.value.Kind.{Kind}

-- these bytes first, of which so many were read, and then what was read after them
abbrev pub joined : {A : Type 0} → List A → ℕ → Option (List A × ℕ) → Option (List A × ℕ)
joined front count None = None
joined front count (Some read) = Some (front ++ read.0, count + read.1)

-- up to the two bytes 0 that end it; the flag says that a byte 0 was just read
abbrev pub unescaped : Bool → List ℕ → Option (List ℕ × ℕ)
unescaped after_zero [] = None
unescaped false (b ∷ bytes) =
    if b == 0 then joined [] 1 (unescaped true bytes) else joined (b ∷ []) 1 (unescaped false bytes)
unescaped true (b ∷ bytes) =
    if b == 0 then Some ([], 1) else (if b == 255 then joined (0 ∷ []) 1 (unescaped false bytes) else None)

-- the integer that was shifted to a number
abbrev pub unshifted : ℕ → ℤ
unshifted k = if nat_le (2 ^ 63) k then pos (k - 2 ^ 63) else negsuc (2 ^ 63 - 1 - k)

-- whether bytes begin with a tag
abbrev pub starts_with : ℕ → List ℕ → Bool
starts_with tag [] = false
starts_with tag (b ∷ bytes) = b == tag

-- what stands between the tag and the two bytes 0
abbrev pub tagged : ℕ → List ℕ → Option (List ℕ × ℕ)
tagged tag bytes = if starts_with tag bytes then joined [] 1 (unescaped false (drop 1 bytes)) else None

-- an integer part at the front of bytes, which takes nine of them
abbrev pub int_at : List ℕ → Option (Value × ℕ)
int_at bytes = if starts_with 1 bytes && nat_le 9 (length bytes)
    then Some (Value.Int (unshifted (from_be_bytes w64 (take 8 (drop 1 bytes)))), 9) else None

-- bytes as a text, where they are UTF-8
abbrev pub text_of : List ℕ → Option (List ℕ)
text_of bytes = if is_utf8 bytes then Some bytes else None

-- a text part that took so many bytes, where there is a text
abbrev pub with_count : Option (List ℕ) → ℕ → Option (Value × ℕ)
with_count None count = None
with_count (Some text) count = Some (Value.Text text, count)

-- a text part of what was read, where that is UTF-8
abbrev pub text_in : Option (List ℕ × ℕ) → Option (Value × ℕ)
text_in None = None
text_in (Some read) = with_count (text_of read.0) read.1

-- a part of bytes, of what was read
abbrev pub bytes_in : Option (List ℕ × ℕ) → Option (Value × ℕ)
bytes_in None = None
bytes_in (Some read) = Some (Value.Bytes read.0, read.1)

-- a part of a kind at the front of bytes, and how many it took
abbrev pub part_at : Kind → List ℕ → Option (Value × ℕ)
part_at Kind.Int bytes = int_at bytes
part_at Kind.Text bytes = text_in (tagged 2 bytes)
part_at Kind.Bytes bytes = bytes_in (tagged 3 bytes)

-- a part, and the parts that are read behind it
abbrev pub then_key : Option (Value × ℕ) → (ℕ → Option (List Value × ℕ)) → Option (List Value × ℕ)
then_key None later = None
then_key (Some read) later = joined (read.0 ∷ []) read.1 (later read.1)

-- a key of these kinds at the front of bytes, and how many it took
abbrev pub key_at : List Kind → List ℕ → Option (List Value × ℕ)
key_at [] bytes = Some ([], 0)
key_at (kind ∷ kinds) bytes = then_key (part_at kind bytes) (λ count. key_at kinds (drop count bytes))

-- the key where it takes all of so many bytes
abbrev pub if_all : ℕ → Option (List Value × ℕ) → Option (List Value)
if_all total None = None
if_all total (Some read) = if read.1 == total then Some read.0 else None

-- the key that all of the bytes spell, if they spell one
abbrev pub key_in : List Kind → List ℕ → Option (List Value)
key_in kinds bytes = if_all (length bytes) (key_at kinds bytes)

-- and the key that takes all the rest
abbrev pub beside : List Value → Option (List Value) → Option (List Value × List Value)
beside owner None = None
beside owner (Some target) = Some (owner, target)

-- the key that was read, and the key that the bytes behind it spell
abbrev pub pair_after : List Kind → List ℕ → Option (List Value × ℕ) → Option (List Value × List Value)
pair_after target_kinds bytes None = None
pair_after target_kinds bytes (Some read) = beside read.0 (key_in target_kinds (drop read.1 bytes))

-- the two keys, one behind the other, that all of the bytes spell, if they do
abbrev pub pair_in : List Kind → List Kind → List ℕ → Option (List Value × List Value)
pair_in owner_kinds target_kinds bytes = pair_after target_kinds bytes (key_at owner_kinds bytes)

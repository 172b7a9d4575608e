-- What the steps of reading answer.
use Rattle.std.specs.Prelude.{ℕ, ◌+◌, Bool, true, ◌==◌, ◌&&◌, nat_le, List, [], ◌∷◌, length, Option, Some, None}
use Rattle.std.specs.Prelude.{if◌then◌else◌}
use Rattle.std.specs.List.{list_all}
use Rattle.std.specs.Str.{is_utf8}
use Rattle.jpa_value.specs.Limits.{most_bytes}
use Rattle.jpa_value.specs.declared.value.Kind.{Kind}
use Rattle.jpa_value.specs.declared.value.Value.{Value}
use Rattle.jpa_behaviour.specs.Behaviour.{is_short}
use Rattle.jpa_rows.specs.declared.rows.row.Content.{Content}
use Rattle.jpa_rows.specs.declared.rows.row.Field.{Field}
use Rattle.jpa_rows.specs.rows.Rows.{Row}

-- a key whose values are short enough
abbrev pub short_key : Option (List Value) → Option (List Value)
short_key None = None
short_key (Some key) = if list_all is_short key then Some key else None

-- the one integer that a key is, if it is one
abbrev pub only_part : List Value → Option Value
only_part (Value.Int n ∷ []) = Some (Value.Int n)
only_part key = None

-- the one integer that was read as a key, if it was
abbrev pub part_in : Option (List Value) → Option Value
part_in None = None
part_in (Some key) = only_part key

-- what stands after the tag
abbrev pub untagged : ℕ → List ℕ → Option (List ℕ)
untagged tag [] = None
untagged tag (b ∷ bytes) = if b == tag then Some bytes else None

-- a text of UTF-8 bytes, where they are not too many
abbrev pub text_of : List ℕ → Option Value
text_of bytes = if nat_le (length bytes) most_bytes && is_utf8 bytes then Some (Value.Text bytes) else None

-- a text of the bytes that were left, if any were
abbrev pub text_after : Option (List ℕ) → Option Value
text_after None = None
text_after (Some bytes) = text_of bytes

-- the text that bytes spell: the tag 2, then its bytes
abbrev pub text_in : List ℕ → Option Value
text_in bytes = text_after (untagged 2 bytes)

-- a byte string, where it is not too long
abbrev pub bytes_of : List ℕ → Option Value
bytes_of bytes = if nat_le (length bytes) most_bytes then Some (Value.Bytes bytes) else None

-- a byte string of what was left, if anything was
abbrev pub bytes_after : Option (List ℕ) → Option Value
bytes_after None = None
bytes_after (Some bytes) = bytes_of bytes

-- the byte string that bytes spell: the tag 3, then its bytes
abbrev pub bytes_in : List ℕ → Option Value
bytes_in bytes = bytes_after (untagged 3 bytes)

-- the kind of value that bytes of this tag spell
abbrev pub kind_at : List ℕ → Option Kind
kind_at [] = None
kind_at (b ∷ bytes) =
    if b == 1 then Some Kind.Int else (if b == 2 then Some Kind.Text else (if b == 3 then Some Kind.Bytes else None))

-- a column with what it holds
abbrev pub field : ℕ → Content → Field
field column content = record { column = column; content = content }

-- the columns rise, and none is below the least
abbrev pub rises_from : ℕ → Row → Bool
rises_from least [] = true
rises_from least (f ∷ row) = nat_le least f.column && rises_from (f.column + 1) row

-- a row that was read, where its columns rise
abbrev pub rising_row : Option Row → Option Row
rising_row None = None
rising_row (Some row) = if rises_from 0 row then Some row else None

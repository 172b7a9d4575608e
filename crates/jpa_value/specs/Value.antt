-- Values: which fit a kind, and how they are ordered.
use Rattle.std.specs.Prelude.{ℕ, ℤ, pos, negsuc, Bool, true, false, List, [], length, nat_le, nat_lt, Option, Some}
use Rattle.std.specs.Prelude.{None, option_map}
use Rattle.std.specs.List.{list_all}
use Rattle.std.specs.Str.{is_utf8}
use Rattle.std.specs.declared.cmp.Ordering.{Ordering}
use Rattle.std.specs.Ordering.{nat_cmp, int_cmp, ordering_then, is_eq}
use Rattle.std.specs.Cmp.Lexicographic.{slice_cmp}
use Rattle.jpa_value.specs.Limits.{most_bytes}
use Rattle.jpa_value.specs.declared.value.Value.{Value}
use Rattle.jpa_value.specs.declared.value.Kind.{Kind}
use Rattle.jpa_value.specs.declared.value.Identity.{Identity}

-- whether a value is null
abbrev pub is_null : Value → Bool
is_null Value.Null = true
is_null _ = false

-- null fits every kind
abbrev pub fits : Kind → Value → Bool
fits k Value.Null = true
fits Kind.Int (Value.Int n) = true
fits Kind.Text (Value.Text bytes) = nat_le (length bytes) most_bytes
fits Kind.Bytes (Value.Bytes bytes) = nat_le (length bytes) most_bytes
fits k v = false

-- what a value of the program is: an integer of 64 bits, a text in UTF-8, bytes
abbrev pub is_i64 : ℤ → Bool
is_i64 (pos n) = nat_lt n 9223372036854775808
is_i64 (negsuc n) = nat_lt n 9223372036854775808

-- whether a value is one of the program: null, an integer of 64 bits, a text in UTF-8, or bytes
abbrev pub is_representable : Value → Bool
is_representable Value.Null = true
is_representable (Value.Int n) = is_i64 n
is_representable (Value.Text bytes) = is_utf8 bytes
is_representable (Value.Bytes bytes) = list_all (λ b. nat_lt b 256) bytes

-- nulls first, then integers by number, then texts, then byte values, both by their bytes
abbrev pub rank : Value → ℕ
rank Value.Null = 0
rank (Value.Int n) = 1
rank (Value.Text bytes) = 2
rank (Value.Bytes bytes) = 3

-- the number that a value is; 0 for one of another kind
abbrev pub number_in : Value → ℤ
number_in Value.Null = pos 0
number_in (Value.Int n) = n
number_in (Value.Text bytes) = pos 0
number_in (Value.Bytes bytes) = pos 0

-- the bytes of a text or a byte string; none for one of another kind
abbrev pub bytes_in : Value → List ℕ
bytes_in Value.Null = []
bytes_in (Value.Int n) = []
bytes_in (Value.Text bytes) = bytes
bytes_in (Value.Bytes bytes) = bytes

-- the order of values: by rank, then by number, then byte by byte
abbrev pub value_cmp : Value → Value → Ordering
value_cmp a b =
    ordering_then (nat_cmp (rank a) (rank b))
    (ordering_then (int_cmp (number_in a) (number_in b)) (slice_cmp nat_cmp (bytes_in a) (bytes_in b)))

-- part by part
abbrev pub key_cmp : List Value → List Value → Ordering
key_cmp = slice_cmp value_cmp

-- by table, then by key
abbrev pub identity_cmp : Identity → Identity → Ordering
identity_cmp x y = ordering_then (nat_cmp x.table y.table) (key_cmp x.key y.key)

-- null compares with nothing
abbrev pub compare : Value → Value → Option Ordering
compare Value.Null b = None
compare (Value.Int m) Value.Null = None
compare (Value.Text a) Value.Null = None
compare (Value.Bytes a) Value.Null = None
compare a b = Some (value_cmp a b)

-- whether two values are equal in the order; null equals null
abbrev pub same_value : Value → Value → Bool
same_value a b = is_eq (value_cmp a b)

-- whether two identities are equal in the order
abbrev pub same_identity : Identity → Identity → Bool
same_identity x y = is_eq (identity_cmp x y)

-- equal, not equal, or unknown where one is null
abbrev pub equal3 : Value → Value → Option Bool
equal3 a b = option_map is_eq (compare a b)

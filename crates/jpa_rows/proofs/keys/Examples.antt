-- Keys whose bytes are known, and what is read off bytes.
use Rattle.std.specs.Prelude.{◌≡◌, refl, [], ◌∷◌, false, pos, negsuc, Some, None}
use Rattle.jpa_value.specs.declared.value.Value.{Value}
use Rattle.jpa_value.specs.declared.value.Kind.{Kind}
use Rattle.jpa_rows.specs.keys.Keys.{key_bytes, is_key_of}
use Rattle.jpa_rows.specs.keys.Reading.{key_at}

one : key_bytes (Value.Int (pos 1) ∷ []) ≡ 1 ∷ 128 ∷ 0 ∷ 0 ∷ 0 ∷ 0 ∷ 0 ∷ 0 ∷ 1 ∷ []
one = refl

minus_one : key_bytes (Value.Int (negsuc 0) ∷ []) ≡ 1 ∷ 127 ∷ 255 ∷ 255 ∷ 255 ∷ 255 ∷ 255 ∷ 255 ∷ 255 ∷ []
minus_one = refl

with_zero : key_bytes (Value.Text (97 ∷ 0 ∷ 98 ∷ []) ∷ []) ≡ 2 ∷ 97 ∷ 0 ∷ 255 ∷ 98 ∷ 0 ∷ 0 ∷ []
with_zero = refl

two_parts : key_bytes (Value.Int (pos 1) ∷ Value.Text (97 ∷ []) ∷ []) ≡ 1 ∷ 128 ∷ 0 ∷ 0 ∷ 0 ∷ 0 ∷ 0 ∷ 0 ∷ 1 ∷ 2 ∷ 97 ∷ 0 ∷ 0 ∷ []
two_parts = refl

-- a byte 0 that stands alone is no spelling
unescaped_zero : key_at (Kind.Bytes ∷ []) (3 ∷ 97 ∷ 0 ∷ 97 ∷ 98 ∷ 0 ∷ 0 ∷ []) ≡ None
unescaped_zero = refl

read_again : key_at (Kind.Bytes ∷ Kind.Int ∷ []) (3 ∷ 0 ∷ 255 ∷ 0 ∷ 0 ∷ 1 ∷ 127 ∷ 255 ∷ 255 ∷ 255 ∷ 255 ∷ 255 ∷ 255 ∷ 255 ∷ []) ≡ Some (Value.Bytes (0 ∷ []) ∷ Value.Int (negsuc 0) ∷ [], 14)
read_again = refl

-- null is no part of a key
no_null : is_key_of (Kind.Int ∷ []) (Value.Null ∷ []) ≡ false
no_null = refl

-- What bytes say, case by case.
use Rattle.std.proofs.Common.{◌≡◌, ℕ, List, Bool, true, false, Option, None, refl, sym, ap, ◌∙◌}
use Rattle.std.specs.Str.{IsUtf8, is_utf8}
use Rattle.std.proofs.lemmas.Str.{IsUtf8-from_is_utf8, is_utf8-from_IsUtf8}
use Rattle.serde_json.specs.Data.{Data}
use Rattle.serde_json.specs.Read.{read}
use Rattle.jpa_json.specs.readers.JsonOf.{text_data}

test_false : (bytes : List ℕ) (b : Bool) → is_utf8 bytes ≡ b → (IsUtf8 bytes → ⊥) → b ≡ false
test_false bytes true e other = absurd (other (IsUtf8-from_is_utf8 bytes e))
test_false bytes false e other = refl

pub no_text : (bytes : List ℕ) → (IsUtf8 bytes → ⊥) → text_data bytes ≡ None
unfolding text_data
no_text bytes other = rw (test_false bytes (is_utf8 bytes) refl other) refl

pub some_text : (bytes text : List ℕ) (o : Option Data) → text ≡ bytes → IsUtf8 bytes → read text ≡ o → text_data bytes ≡ o
unfolding text_data
some_text bytes text o same_text good e = rw (is_utf8-from_IsUtf8 bytes good) (ap read (sym same_text) ∙ e)

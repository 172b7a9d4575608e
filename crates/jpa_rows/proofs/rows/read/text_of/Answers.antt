use Rattle.std.specs.Prelude.{◌≡◌, ℕ, Bool, true, false, cond, ◌&&◌, nat_le, List, length, Some, None, ◌≤◌}
use Rattle.std.proofs.Common.{refl, sym, ap, ◌∙◌, arith}
use Rattle.std.proofs.lemmas.Bool.Decides.{nat_tests}
use Rattle.std.specs.Str.{IsUtf8, is_utf8}
use Rattle.std.proofs.lemmas.Str.{is_utf8-from_IsUtf8, IsUtf8-from_is_utf8}
use Rattle.jpa_value.specs.Limits.{most_bytes}
use Rattle.jpa_value.specs.declared.value.Value.{Value}
use Rattle.jpa_rows.proofs.laws.Facts.{give_if}
use Rattle.jpa_rows.specs.rows.Reading.{text_of}
use Rattle.jpa_rows.proofs.rows.read.text_of.Goals as goal

no_text : (bytes : List ℕ) → (IsUtf8 bytes → ⊥) → None ≡ text_of bytes
no_text bytes n = elim (is_utf8 bytes) as (λ b. is_utf8 bytes ≡ b → None ≡ cond (nat_le (length bytes) most_bytes && b) (Some (Value.Text bytes)) None) [
  | true ↦ λ h. absurd (n (IsUtf8-from_is_utf8 bytes h))
  | false ↦ λ h. never (nat_le (length bytes) most_bytes) bytes
] refl
  where
    never : (b : Bool) (bytes : List ℕ) → None ≡ cond (b && false) (Some (Value.Text bytes)) None
    never true bytes = refl
    never false bytes = refl

within : (n : ℕ) → n ≤ most_bytes → nat_le n most_bytes ≡ true
within n h = grind (arith, nat_tests)

text_there : (bytes text : List ℕ) → IsUtf8 bytes → length bytes ≤ most_bytes → text ≡ bytes → Some (Value.Text text) ≡ text_of bytes
text_there bytes text u h e =
    ap (λ t. Some (Value.Text t)) e ∙ sym (give_if (nat_le (length bytes) most_bytes) (is_utf8 bytes) (Value.Text bytes) (within (length bytes) h) (is_utf8-from_IsUtf8 bytes u))

pub returns-in-Err-clause-ok : goal.returns-in-Err-clause-ok
returns-in-Err-clause-ok c = no_text _ (c.in-Err.ensures.cases).0

pub returns-in_ok-of-in-Ok-clause-ok : goal.returns-in_ok-of-in-Ok-clause-ok
returns-in_ok-of-in-Ok-clause-ok c =
    text_there _ _ (c.in-Ok.ensures.cases).1 (omega arith) (c.in_ok-of-in-Ok.ensures ∙ (c.in-Ok.ensures.cases).0)

-- When bytes are a text.
use Rattle.std.specs.Prelude.{◌≡◌, ℕ, true, false, cond, List, Some, None}
use Rattle.std.proofs.Common.{refl, sym, ap, subst, ◌∙◌}
use Rattle.std.specs.Str.{IsUtf8, is_utf8}
use Rattle.std.proofs.lemmas.Str.{is_utf8-from_IsUtf8, IsUtf8-from_is_utf8}
use Rattle.jpa_rows.specs.keys.Reading.{text_of}

pub text_there : (bytes text : List ℕ) → IsUtf8 text → text ≡ bytes → Some text ≡ text_of bytes
text_there bytes text u e = ap Some e ∙ ap (λ b. cond b (Some bytes) None) (sym (is_utf8-from_IsUtf8 bytes (subst IsUtf8 e u)))

pub no_text : (bytes : List ℕ) → (IsUtf8 bytes → ⊥) → None ≡ text_of bytes
no_text bytes n = elim (is_utf8 bytes) as (λ b. is_utf8 bytes ≡ b → None ≡ cond b (Some bytes) None) [
  | true ↦ λ h. absurd (n (IsUtf8-from_is_utf8 bytes h))
  | false ↦ λ h. refl
] refl

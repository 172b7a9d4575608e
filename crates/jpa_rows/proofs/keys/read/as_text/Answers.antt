use Rattle.std.specs.Prelude.{T}
use Rattle.std.proofs.Common.{ap, sym, subst, ◌∙◌}
use Rattle.std.specs.Str.{IsUtf8}
use Rattle.std.proofs.lemmas.Str.{IsUtf8-string_bytes}
use Rattle.jpa_rows.proofs.keys.Texts.{text_there, no_text}
use Rattle.jpa_rows.proofs.keys.read.as_text.Goals as goal

pub returns-in-Ok-clause-ok : goal.returns-in-Ok-clause-ok
returns-in-Ok-clause-ok c =
    let made = c.in_ok-from_string-in-Ok.ensures in
    text_there _ _ (subst IsUtf8 (sym made) (IsUtf8-string_bytes c.in-Ok.text))
    (made ∙ ap (λ v. v.items) (c.in-Ok.ensures.ok) ∙ c.into_vec.ensures)

pub returns-clause-ok : goal.returns-clause-ok
returns-clause-ok c =
    no_text _ (λ u. subst T (sym (c.in-Err.ensures.succeeds (subst IsUtf8 (sym c.into_vec.ensures) u))) tt)

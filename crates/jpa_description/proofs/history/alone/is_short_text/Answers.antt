use Rattle.std.proofs.Common.{◌≡◌, refl}
use Rattle.std.specs.Prelude.{true}
use Rattle.std.specs.Str.{is_utf8}
use Rattle.std.proofs.lemmas.Str.{is_utf8-from_IsUtf8}
use Rattle.jpa_description.proofs.history.alone.is_short_text.Goals as goal

pub returns : goal.returns
returns c =
    let valid : is_utf8 c.args.text.now ≡ true = is_utf8-from_IsUtf8 _ c.utf8.text in
    rw valid refl

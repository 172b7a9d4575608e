use Rattle.std.proofs.lemmas.Str.{is_utf8-from_IsUtf8}
use Rattle.jpa_rows.proofs.keys.write.push_text.Goals as goal

pub returns-clause-representable : goal.returns-clause-representable
returns-clause-representable c = is_utf8-from_IsUtf8 _ c.utf8.text

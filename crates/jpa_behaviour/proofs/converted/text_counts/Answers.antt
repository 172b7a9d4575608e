use Rattle.std.proofs.Common.{length}
use Rattle.std.specs.Prelude.{nat_le}
use Rattle.std.proofs.lemmas.Str.{is_utf8-from_IsUtf8}
use Rattle.jpa_value.specs.Limits.{most_bytes}
use Rattle.jpa_behaviour.proofs.Facts.{and_held}
use Rattle.jpa_behaviour.proofs.converted.text_counts.Goals as goal

pub returns : goal.returns
returns c = and_held (nat_le (length c.args.text.now) most_bytes) _ (is_utf8-from_IsUtf8 _ c.utf8.text)

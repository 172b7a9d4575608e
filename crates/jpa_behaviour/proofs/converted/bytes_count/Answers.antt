use Rattle.std.proofs.Common.{length}
use Rattle.std.specs.Prelude.{nat_le}
use Rattle.jpa_value.specs.Limits.{most_bytes}
use Rattle.jpa_behaviour.proofs.Counted.{bytes_fit}
use Rattle.jpa_behaviour.proofs.Facts.{and_held}
use Rattle.jpa_behaviour.proofs.converted.bytes_count.Goals as goal

pub returns : goal.returns
returns c = and_held (nat_le (length c.args.bytes.now) most_bytes) _ (bytes_fit _ c.type_inv.bytes)

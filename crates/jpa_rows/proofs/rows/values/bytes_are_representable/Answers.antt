use Rattle.jpa_rows.proofs.keys.Spelling.{are_bytes_fit}
use Rattle.jpa_rows.proofs.rows.values.bytes_are_representable.Goals as goal

pub returns : goal.returns
returns c = are_bytes_fit _ c.type_inv.bytes

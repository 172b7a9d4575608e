use Rattle.jpa_rows.proofs.keys.Spelling.{are_bytes_fit}
use Rattle.jpa_rows.proofs.keys.write.push_bytes.Goals as goal

pub returns-clause-representable : goal.returns-clause-representable
returns-clause-representable c = are_bytes_fit _ c.type_inv.bytes

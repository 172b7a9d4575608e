use Rattle.std.proofs.Common.{refl}
use Rattle.jpa_behaviour.proofs.Counted.{bytes_fit}
use Rattle.jpa_description.proofs.history.alone.are_few_bytes.Goals as goal

pub returns : goal.returns
returns c = rw (bytes_fit _ c.type_inv.bytes) refl

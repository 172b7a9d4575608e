-- Converters of an object, attribute by attribute.
use Rattle.std.proofs.Common.{List}
use Rattle.std.specs.Prelude.{Bool}
use Rattle.std.specs.List.{list_all, zip}
use Rattle.jpa_value.specs.declared.value.Value.{Value}
use Rattle.jpa_model.specs.declared.unit.Attribute.{Attribute}
use Rattle.jpa_behaviour.specs.Behaviour.{World}
use Rattle.jpa_flush.specs.flush.Flush.{converts}

abbrev pub converts_pair : World → Attribute × Value → Bool
converts_pair world p = converts world (p.0).converter p.1

abbrev pub pairs_convert : World → List Attribute → List Value → Bool
pairs_convert world attributes values = list_all (converts_pair world) (zip attributes values)

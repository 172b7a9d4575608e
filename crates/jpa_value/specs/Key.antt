-- What the parts of a key are, however they are kept.
use Rattle.std.specs.Prelude.{List, [], ◌∷◌}
use Rattle.jpa_value.specs.declared.value.Value.{Value}
use Rattle.jpa_value.specs.declared.key.Parts.{Parts}

-- the parts as a list
unfoldable pub parts_in : Parts → List Value
parts_in Parts.None = []
parts_in (Parts.One part) = part ∷ []
parts_in (Parts.More parts) = parts

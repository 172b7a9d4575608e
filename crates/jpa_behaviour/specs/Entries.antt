-- The entries of a map with texts as keys, as a list of names with what stands under them.
use Rattle.std.specs.Prelude.{List, map, String, string_bytes}
use Rattle.jpa_behaviour.specs.Registered.{Known}

-- the entries of a map, as names with what stands under them
abbrev pub known_in : {Z W : Type 0} → List (String Z × W) → List (Known W)
known_in = map (λ e. record { name = string_bytes e.0; what = e.1 })

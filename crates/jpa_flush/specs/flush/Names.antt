-- A flush writes under different identities (Jakarta Persistence 3.1, chapter 3.1: a context has
-- one instance of a persistent identity).
use Rattle.std.specs.Prelude.{Bool, List}
use Rattle.std.specs.List.{flat_map}
use Rattle.jpa_value.specs.declared.value.Identity.{Identity}
use Rattle.jpa_value.specs.Value.{same_identity}
use Rattle.jpa_stored.specs.objects.Sets.{all_distinct}
use Rattle.jpa_flush.specs.declared.flush.planning.Planned.{Planned}
use Rattle.jpa_flush.specs.flush.Flush.{listed}

-- the identities of a plan
abbrev pub targets : List Planned → List Identity
targets plan = flat_map (λ (p : Planned). listed p.id) plan

-- no two objects of a plan are written under one identity
abbrev pub are_apart : List Planned → Bool
are_apart plan = all_distinct same_identity (targets plan)

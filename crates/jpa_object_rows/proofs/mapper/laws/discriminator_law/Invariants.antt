use Rattle.std.proofs.Common.{◌≡◌, ◌<◌, ℕ, true}
use Rattle.std.specs.Str.{is_utf8}
use Rattle.jpa_model.specs.Chains.{entity_at}
use Rattle.jpa_object_rows.proofs.mapper.laws.discriminator_law.Given as goal

abbrev pub invariant-loop-entity : goal.invariant-loop-entity
invariant-loop-entity l = (k : ℕ) → k < l.entity-index → is_utf8 (entity_at l.metamodel k).discriminator ≡ true

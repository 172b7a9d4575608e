-- The discriminators of a unit that is described are short.
use Rattle.std.specs.Prelude.{◌≡◌, ℕ, true, ◌&&◌, nat_le, ◌<◌, length}
use Rattle.std.proofs.Common.{sym, ap, subst, ◌∙◌}
use Rattle.std.proofs.lemmas.List.{get_or-map, length-map}
use Rattle.std.specs.List.{list_all, flat_map}
use Rattle.jpa_value.specs.Limits.{most_bytes}
use Rattle.jpa_model.specs.declared.draft.Draft.{Draft}
use Rattle.jpa_model.specs.declared.unit.Entity.{Entity}
use Rattle.jpa_model.specs.declared.unit.PersistenceUnit.{PersistenceUnit}
use Rattle.jpa_model.specs.Chains.{entity_at, no_entity}
use Rattle.jpa_model.specs.Described.{unit_of, entity_of}
use Rattle.jpa_model.specs.Drafted as drafted
use Rattle.jpa_model.specs.Kept.{IsDescribed}
use Rattle.jpa_model.specs.WellFormed as well_formed
use Rattle.jpa_rows.proofs.laws.Facts.{and_first, and_second}
use Rattle.jpa_rows.proofs.laws.Lists.{each_passes}
use Rattle.jpa_object_rows.specs.meaning.Unambiguous.{is_class}
use Rattle.jpa_object_rows.proofs.meaning.Bytes.Classes.{below, item_at}

each_short : (d : Draft) → well_formed.is_well_formed d ≡ true → list_all well_formed.is_discriminator_short d.entities ≡ true
each_short d h =
    let together = and_second (well_formed.has_revision d && well_formed.has_entities d) _ h in
    let later = and_second (well_formed.has_members d) _ (and_second (well_formed.has_roots d) _ together) in
    let numbers = and_first (well_formed.has_numbers d) _ later in
    let short = list_all well_formed.is_discriminator_short d.entities in
    and_first short _ (and_first (short && well_formed.are_numbers (flat_map drafted.tables d.entities)) _ numbers)

drafted_short : (d : Draft) → well_formed.is_well_formed d ≡ true → (class : ℕ) → is_class (unit_of d) class ≡ true → nat_le (length (entity_at (unit_of d) class).discriminator) most_bytes ≡ true
drafted_short d well class h =
    let within : class < length d.entities = subst (λ n. class < n) (length-map d.entities (entity_of d)) (below class (length (unit_of d).entities) h) in
    ap (λ (e : Entity). nat_le (length e.discriminator) most_bytes) (get_or-map (entity_of d) d.entities class drafted.no_entity no_entity within)
    ∙ each_passes well_formed.is_discriminator_short d.entities (each_short d well) (drafted.entity_at d class) (item_at d.entities class drafted.no_entity within)

pub short_discriminator : (m : PersistenceUnit) → IsDescribed m → (class : ℕ) → is_class m class ≡ true → nat_le (length (entity_at m class).discriminator) most_bytes ≡ true
short_discriminator m described =
    subst (λ (n : PersistenceUnit). (class : ℕ) → is_class n class ≡ true → nat_le (length (entity_at n class).discriminator) most_bytes ≡ true) (sym (described.1).1)
    (drafted_short described.0 (described.1).0)

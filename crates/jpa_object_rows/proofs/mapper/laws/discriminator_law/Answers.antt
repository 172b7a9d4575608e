use Rattle.std.proofs.Common.{◌≡◌, ◌<◌, ap, arith, length}
use Rattle.std.specs.Str.{is_utf8}
use Rattle.jpa_model.specs.Chains.{entity_at}
use Rattle.jpa_rows.proofs.laws.Facts.{and_both}
use Rattle.jpa_object_rows.proofs.meaning.Bytes.Classes.{below}
use Rattle.jpa_object_rows.proofs.mapper.Discriminators.{short_discriminator}
use Rattle.jpa_object_rows.proofs.mapper.laws.discriminator_law.Goals as goal

pub returns : goal.returns
returns c = λ class h.
    let m = c.args.metamodel.now in
    let within : class < length m.entities = below class (length m.entities) h in
    let count : length c.entities-entity-items.result.now ≡ length m.entities = ap length c.entities-entity-items.ensures in
    and_both (is_utf8 (entity_at m class).discriminator) _ (c.loop-entity.invariant class (omega arith)) (short_discriminator m c.unit-unit.ensures.described class h)

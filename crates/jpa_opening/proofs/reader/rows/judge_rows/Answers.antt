use Rattle.jpa_behaviour.specs.Registered.{world_of}
use Rattle.jpa_object_rows.proofs.meaning.Bytes.Described.{described_mapped}
use Rattle.jpa_opening.proofs.reader.OfSet.{same_if, none_if}
use Rattle.jpa_opening.proofs.reader.rows.judge_rows.Goals as goal

pub returns-clause-same : goal.returns-clause-same
returns-clause-same g c =
    let m = c.args.metamodel.now in
    let world = world_of g.B.Behaviour.meaning m c.args.registry.now in
    same_if world (described_mapped m c.unit.ensures.described) (c.laws.ensures.regular m) c.discriminator_law.ensures c.args.rows.now c.judge_read.result c.judge_read.ensures.held

pub returns-clause-err : goal.returns-clause-err
returns-clause-err g c =
    let m = c.args.metamodel.now in
    let world = world_of g.B.Behaviour.meaning m c.args.registry.now in
    none_if world (described_mapped m c.unit.ensures.described) (c.laws.ensures.regular m) c.discriminator_law.ensures c.args.rows.now c.judge_read.result c.in_ok-schema.schema c.in_ok-schema.ensures.ok c.judge_read.ensures.err

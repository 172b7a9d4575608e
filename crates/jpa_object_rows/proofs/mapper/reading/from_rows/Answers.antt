use Rattle.std.proofs.Common.{length}
use Rattle.jpa_behaviour.specs.Behaviour.{World}
use Rattle.jpa_behaviour.specs.Registered.{world_of}
use Rattle.jpa_object_rows.proofs.meaning.Bytes.Classes.{below}
use Rattle.jpa_object_rows.proofs.meaning.Bytes.Reading.{storable}
use Rattle.jpa_object_rows.proofs.mapper.reading.from_rows.Goals as goal

pub judge_own_pairs-requires : goal.judge_own_pairs-requires
judge_own_pairs-requires g c =
    let m = c.args.metamodel.now in
    let W : World = world_of g.B.Behaviour.meaning m c.args.registry.now in
    let x = c.in_ok-object.object in
    below x.class (length m.entities) (storable W c.args.id.now x c.in_ok-object.ensures.ok.storable).class

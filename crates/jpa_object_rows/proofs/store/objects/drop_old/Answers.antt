use Rattle.std.proofs.Common.{sym}
use Rattle.jpa_behaviour.specs.Registered.{world_of}
use Rattle.jpa_object_rows.proofs.store.Replaced.{old_storable}
use Rattle.jpa_object_rows.proofs.store.objects.drop_old.Goals as goal

pub rows_of-requires : goal.rows_of-requires
rows_of-requires g c =
    let world = world_of g.B.Behaviour.meaning c.args.metamodel.now c.args.registry.now in
    old_storable world c.args.view.now.committed c.args.id.now c.in-Some.old.now c.requires (sym c.in-Some.ensures)

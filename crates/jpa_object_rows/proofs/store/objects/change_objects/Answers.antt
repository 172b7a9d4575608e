use Rattle.std.proofs.Common.{sym, subst, take}
use Rattle.jpa_behaviour.specs.Registered.{world_of}
use Rattle.jpa_object_rows.specs.store.Shown.{Show}
use Rattle.jpa_object_rows.specs.store.Written.{entries_in, set_after}
use Rattle.jpa_object_rows.proofs.store.Written.{change_storable, change_more, change_committed}
use Rattle.jpa_object_rows.proofs.store.objects.change_objects.Goals as goal

pub change_object-requires-clause-storable : goal.change_object-requires-clause-storable
change_object-requires-clause-storable g c =
    let world = world_of g.B.Behaviour.meaning c.args.metamodel.now c.args.registry.now in
    change_storable c.args.changes.now c.loop-change.change-index c.change-item.result c.loop-change-test.true c.change-item.is world c.requires.storable

pub loop-change-preserved : goal.loop-change-preserved
loop-change-preserved g c =
    let world = world_of g.B.Behaviour.meaning c.args.metamodel.now c.args.registry.now in
    let committed = c.args.view.now.committed in
    let changes = c.args.changes.now in
    let i = c.loop-change.change-index in
    let change = c.change-item.result in
    let set = set_after (take i (entries_in changes)) committed in
    let at = change_committed changes i change c.loop-change-test.true c.change-item.is committed c.requires.distinct in
    record {
      shown = λ base numbers s.
          subst (λ set. Show world base c.change_object.new.overlay set numbers) (sym (change_more changes i change c.loop-change-test.true c.change-item.is committed))
          (c.in_ok-change_object.ensures.ok base set numbers at (c.loop-change.invariant.shown base numbers s));
      noted = λ before held r. c.in_ok-change_object.ensures.noted before held (c.loop-change.invariant.noted before held r);
    }

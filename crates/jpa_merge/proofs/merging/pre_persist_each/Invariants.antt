use Rattle.std.proofs.Common.{◌≡◌, drop}
use Rattle.jpa_behaviour.specs.Served.{world_of_unit}
use Rattle.jpa_work.specs.context.Steps.{each}
use Rattle.jpa_work.specs.context.Undo.{now, since}
use Rattle.jpa_operations.specs.fetch.Grown.{HasGrown, IsReady}
use Rattle.jpa_merge.specs.Merge.{pre_persist_fresh}
use Rattle.jpa_merge.proofs.merging.pre_persist_each.Given as goal

abbrev pub invariant-loop-image : goal.invariant-loop-image
invariant-loop-image g l =
    let tell = pre_persist_fresh (world_of_unit g.B.Behaviour.meaning l.unit) in
    record {
      rest : each tell (drop l.image-index l.images) (now l.work) ≡ each tell l.images (now l.fn.work);
      ready : IsReady l.unit.metamodel (now l.work);
      grown : HasGrown (now l.fn.work) (now l.work);
      view : l.work.view ≡ l.fn.work.view;
      since : since l.work ≡ since l.fn.work;
    }

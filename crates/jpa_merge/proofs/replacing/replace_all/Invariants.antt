use Rattle.std.proofs.Common.{◌≡◌, ◌<◌, drop, length}
use Rattle.std.specs.Prelude.{All}
use Rattle.jpa_behaviour.specs.Served.{world_of_unit}
use Rattle.jpa_work.specs.context.Undo.{now, since}
use Rattle.jpa_operations.specs.fetch.Grown.{HasGrown, IsReady}
use Rattle.jpa_operations.specs.fetch.Members.{collect}
use Rattle.jpa_operations.proofs.fetch.Collected.{behind}
use Rattle.jpa_merge.specs.Merge.{replaced}
use Rattle.jpa_merge.proofs.replacing.replace_all.Given as goal

abbrev pub invariant-loop-target : goal.invariant-loop-target
invariant-loop-target g l =
    let each = replaced (world_of_unit g.B.Behaviour.meaning l.unit) l.images in
    record {
      rest : behind l.places (collect each (drop l.target-index l.targets) (now l.work)) ≡ collect each l.targets (now l.fn.work);
      within : All (λ k. k < length (now l.work).objects) l.places;
      ready : IsReady l.unit.metamodel (now l.work);
      grown : HasGrown (now l.fn.work) (now l.work);
      view : l.work.view ≡ l.fn.work.view;
      since : since l.work ≡ since l.fn.work;
    }

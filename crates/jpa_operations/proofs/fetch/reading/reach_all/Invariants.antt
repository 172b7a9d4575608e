use Rattle.std.proofs.Common.{◌≡◌, ◌<◌, drop, length}
use Rattle.std.specs.Prelude.{All}
use Rattle.jpa_value.specs.declared.refusal.Cause.{Cause}
use Rattle.jpa_behaviour.specs.Served.{world_of_unit}
use Rattle.jpa_work.specs.context.Undo.{now, since}
use Rattle.jpa_operations.specs.fetch.Grown.{HasGrown, IsReady}
use Rattle.jpa_operations.specs.fetch.Load.{reach}
use Rattle.jpa_operations.specs.fetch.Members.{collect}
use Rattle.jpa_operations.proofs.fetch.Collected.{behind}
use Rattle.jpa_operations.proofs.fetch.reading.reach_all.Given as goal

abbrev pub invariant-loop-id : goal.invariant-loop-id
invariant-loop-id g l =
    let world = world_of_unit g.B.Behaviour.meaning l.unit in
    let each = reach world Cause.EntityNotFound in
    record {
      rest : behind l.places (collect each (drop l.id-index l.ids) (now l.work)) ≡ collect each l.ids (now l.fn.work);
      within : All (λ k. k < length (now l.work).objects) l.places;
      ready : IsReady l.unit.metamodel (now l.work);
      grown : HasGrown (now l.fn.work) (now l.work);
      view : l.work.view ≡ l.fn.work.view;
      since : since l.work ≡ since l.fn.work;
    }

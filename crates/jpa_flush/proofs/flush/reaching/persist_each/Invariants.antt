use Rattle.std.proofs.Common.{◌≡◌, ◌≤◌, true, drop, length}
use Rattle.jpa_behaviour.specs.Served.{world_of_unit}
use Rattle.jpa_work.specs.context.Steps.{each}
use Rattle.jpa_work.specs.context.Undo.{now, since}
use Rattle.jpa_operations.specs.fetch.Grown.{IsReady}
use Rattle.jpa_operations.specs.ops.Names.{has_distinct_entries}
use Rattle.jpa_operations.specs.ops.States.{persist}
use Rattle.jpa_flush.proofs.flush.reaching.persist_each.Given as goal

abbrev pub invariant-loop-object : goal.invariant-loop-object
invariant-loop-object g l =
    let world = world_of_unit g.B.Behaviour.meaning l.unit in record {
      rest : each (persist world) (drop l.object-index l.objects) (now l.work) ≡ each (persist world) l.objects (now l.fn.work);
      ready : IsReady l.unit.metamodel (now l.work);
      count : length (now l.fn.work).objects ≤ length (now l.work).objects;
      named : has_distinct_entries l.unit.metamodel (now l.fn.work) ≡ true → has_distinct_entries l.unit.metamodel (now l.work) ≡ true;
      view : (l.work).view ≡ (l.fn.work).view;
      since : since l.work ≡ since l.fn.work;
    }

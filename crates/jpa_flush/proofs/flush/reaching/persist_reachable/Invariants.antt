use Rattle.std.proofs.Common.{◌≡◌, ◌-◌, true, length}
use Rattle.jpa_behaviour.specs.Served.{world_of_unit}
use Rattle.jpa_work.specs.context.Undo.{now, since}
use Rattle.jpa_operations.specs.fetch.Grown.{IsReady}
use Rattle.jpa_operations.specs.ops.Names.{has_distinct_entries}
use Rattle.jpa_flush.specs.flush.Flush.{persist_from}
use Rattle.jpa_flush.proofs.flush.reaching.persist_reachable.Given as goal

abbrev pub invariant-loop-i : goal.invariant-loop-i
invariant-loop-i g l =
    let world = world_of_unit g.B.Behaviour.meaning l.unit in
    let bound = length (now l.fn.work).objects in record {
      rest : persist_from world (bound - l.i) l.i (now l.work) ≡ persist_from world bound 0 (now l.fn.work);
      ready : IsReady l.unit.metamodel (now l.work);
      named : has_distinct_entries l.unit.metamodel (now l.fn.work) ≡ true → has_distinct_entries l.unit.metamodel (now l.work) ≡ true;
      view : (l.work).view ≡ (l.fn.work).view;
      since : since l.work ≡ since l.fn.work;
    }

use Rattle.std.proofs.Common.{◌≡◌, drop, length}
use Rattle.jpa_behaviour.specs.Served.{world_of_unit}
use Rattle.jpa_work.specs.context.Undo.{now, since}
use Rattle.jpa_operations.specs.fetch.Grown.{IsReady}
use Rattle.jpa_operations.specs.fetch.Members.{collect}
use Rattle.jpa_queries.specs.Queries.{item_of}
use Rattle.jpa_operations.proofs.fetch.Collected.{behind}
use Rattle.jpa_queries.proofs.results.row_of.Given as goal

-- the items so far before those of the rest
abbrev pub invariant-loop-datum : goal.invariant-loop-datum
invariant-loop-datum g l =
    let world = world_of_unit g.B.Behaviour.meaning l.unit in
    record {
      rest : behind l.items.items (collect (item_of world) (drop (length l.yielded) l.fn.row) (now l.work)) ≡ collect (item_of world) l.fn.row (now l.fn.work);
      ready : IsReady l.unit.metamodel (now l.work);
      since : since l.work ≡ since l.fn.work;
    }

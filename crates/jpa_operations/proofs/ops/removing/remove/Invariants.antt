use Rattle.jpa_operations.specs.fetch.Grown.{GoesOn}
use Rattle.std.proofs.Common.{◌≡◌, drop}
use Rattle.jpa_behaviour.specs.Served.{world_of_unit}
use Rattle.jpa_work.specs.context.Steps.{each}
use Rattle.jpa_work.specs.context.Undo.{now, since}
use Rattle.jpa_operations.specs.ops.States.{remove, remove_node}
use Rattle.jpa_operations.proofs.ops.removing.remove.Given as goal

-- what is left gives what all was to give
abbrev pub invariant-loop-node : goal.invariant-loop-node
invariant-loop-node g l = record {
  rest : each (remove_node (world_of_unit g.B.Behaviour.meaning l.unit)) (drop l.node-index l.node-items) (now l.work)
      ≡ remove (world_of_unit g.B.Behaviour.meaning l.unit) l.object (now l.fn.work);
  goes : GoesOn l.unit.metamodel (now l.fn.work) (now l.work);
  view : l.work.view ≡ l.fn.work.view;
  since : since l.work ≡ since l.fn.work;
}

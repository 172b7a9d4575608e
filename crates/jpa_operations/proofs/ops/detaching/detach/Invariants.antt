use Rattle.std.proofs.Common.{◌≡◌, drop, length}
use Rattle.jpa_work.specs.context.Steps.{each}
use Rattle.jpa_work.specs.context.Undo.{now, IsKept}
use Rattle.jpa_cascade.specs.declared.Operation.{Operation}
use Rattle.jpa_cascade.specs.Waves.{waves}
use Rattle.jpa_operations.specs.ops.States.{detach_node}
use Rattle.jpa_operations.proofs.ops.detaching.detach.Given as goal

-- what is left gives what all was to give
abbrev pub invariant-loop-node : goal.invariant-loop-node
invariant-loop-node l = record {
  rest : each detach_node (drop l.node-index l.node-items) (now l.work) ≡ each detach_node (waves l.metamodel Operation.Detach (now l.fn.work) l.object) (now l.fn.work);
  count : length l.work.objects.now ≡ length l.fn.work.objects.now;
  others : l.work ≡ record (l.fn.work) { objects = l.work.objects; context = l.work.context };
  kept : IsKept l.fn.work → IsKept l.work;
}

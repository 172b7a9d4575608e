use Rattle.std.proofs.Common.{◌≡◌, drop}
use Rattle.jpa_work.specs.heap.Shape.{HasShape}
use Rattle.jpa_lifecycle.specs.Callbacks.{assigned}
use Rattle.jpa_lifecycle.proofs.assigning.assigned.Given as goal

abbrev pub invariant-loop-assignment : goal.invariant-loop-assignment
invariant-loop-assignment l = record {
  rest : assigned l.metamodel (drop l.assignment-index l.assignments) l.made ≡ assigned l.metamodel l.assignments l.object;
  shape : HasShape l.metamodel l.made;
}

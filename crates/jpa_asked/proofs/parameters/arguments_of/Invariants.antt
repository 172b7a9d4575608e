use Rattle.std.proofs.Common.{◌≡◌, drop}
use Rattle.jpa_work.specs.context.Undo.{now}
use Rattle.jpa_asked.specs.Asking.{arguments_of}
use Rattle.jpa_asked.proofs.Bound.{before}
use Rattle.jpa_asked.proofs.parameters.arguments_of.Given as goal

-- what stands for those so far, and for those that are left
abbrev pub invariant-loop-binding : goal.invariant-loop-binding
invariant-loop-binding l = before l.arguments (arguments_of l.metamodel (drop l.binding-index l.bindings) (now l.work)) ≡ arguments_of l.metamodel l.bindings (now l.work)

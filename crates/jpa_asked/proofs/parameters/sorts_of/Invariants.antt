use Rattle.std.proofs.Common.{◌≡◌, ◌++◌, drop}
use Rattle.jpa_work.specs.context.Undo.{now}
use Rattle.jpa_asked.specs.Asking.{sorts_of}
use Rattle.jpa_asked.proofs.parameters.sorts_of.Given as goal

-- the sorts of those so far, and of those that are left
abbrev pub invariant-loop-binding : goal.invariant-loop-binding
invariant-loop-binding l = l.sorts ++ sorts_of l.metamodel (drop l.binding-index l.bindings) (now l.work) ≡ sorts_of l.metamodel l.bindings (now l.work)

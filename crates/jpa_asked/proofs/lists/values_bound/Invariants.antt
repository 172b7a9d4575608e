use Rattle.std.proofs.Common.{◌≡◌, ◌+◌, ◌≤◌, drop}
use Rattle.jpa_asked.specs.Asking as asking
use Rattle.jpa_asked.proofs.lists.values_bound.Given as goal

-- those so far, and those that are left
abbrev pub invariant-loop-binding : goal.invariant-loop-binding
invariant-loop-binding l = (l.count + asking.values_bound (drop l.binding-index l.bindings) ≡ asking.values_bound l.bindings) × (l.count ≤ l.binding-index)

use Rattle.std.proofs.Common.{◌≡◌, ◌++◌, drop, map}
use Rattle.std.specs.List.{filter}
use Rattle.jpa_machine.specs.machine.Pending.{due, is_due}
use Rattle.jpa_provider.proofs.pending.due_of.Given as goal

-- what is told so far, and what is left
abbrev pub invariant-loop-told : goal.invariant-loop-told
invariant-loop-told l = l.list ++ map due (filter (is_due l.fn.count) (drop l.told-index l.events)) ≡ map due (filter (is_due l.fn.count) l.events)

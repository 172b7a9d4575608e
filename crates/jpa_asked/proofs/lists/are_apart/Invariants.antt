use Rattle.std.proofs.Common.{◌≡◌, ◌==◌, drop}
use Rattle.jpa_asked.specs.Asking as asking
use Rattle.jpa_asked.proofs.lists.are_apart.Given as goal

-- the names that are left, for the lists that are left
abbrev pub invariant-loop-list : goal.invariant-loop-list
invariant-loop-list l = asking.are_apart l.lists l.fn.bindings ≡ (l.left == asking.values_given (drop l.list-index l.lists))

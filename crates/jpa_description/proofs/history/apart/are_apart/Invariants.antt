use Rattle.std.proofs.Common.{◌≡◌, ◌-◌, length}
use Rattle.std.specs.List.{list_all, range_with_len}
use Rattle.jpa_description.specs.history.Condition.{is_apart, are_apart, hierarchy}
use Rattle.jpa_description.proofs.history.apart.are_apart.Given as goal

abbrev pub invariant-loop-root : goal.invariant-loop-root
invariant-loop-root l =
    list_all (λ root. is_apart l.metamodel l.history (hierarchy l.metamodel root)) (range_with_len l.root (length l.metamodel.entities - l.root))
    ≡ are_apart l.metamodel l.history

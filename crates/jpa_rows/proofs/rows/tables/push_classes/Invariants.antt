use Rattle.std.proofs.Common.{◌≡◌, ◌++◌, ◌==◌}
use Rattle.std.specs.Prelude.{filter}
use Rattle.std.specs.List.{flat_map, range_with_len}
use Rattle.jpa_model.specs.Chains.{entity_at, root_class}
use Rattle.jpa_rows.specs.rows.Tables.{rules_of_class}
use Rattle.jpa_rows.proofs.rows.tables.push_classes.Given as goal

abbrev pub invariant-loop-class : goal.invariant-loop-class
invariant-loop-class l =
    l.rules ≡ l.fn.rules ++ flat_map (λ c. rules_of_class l.metamodel (entity_at l.metamodel c)) (filter (λ c. root_class l.metamodel c == l.root) (range_with_len 0 l.class))

use Rattle.std.proofs.Common.{◌≡◌, drop}
use Rattle.std.specs.List.{list_all}
use Rattle.jpa_questions.specs.by_key.Own.{is_own_value}
use Rattle.jpa_questions.proofs.by_key.own.+is_own_value.Given as goal

abbrev pub invariant-are_own_values-loop-value : goal.invariant-are_own_values-loop-value
invariant-are_own_values-loop-value l = list_all (is_own_value l.metamodel) (drop l.value-index l.values) ≡ list_all (is_own_value l.metamodel) l.values

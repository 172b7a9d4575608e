use Rattle.std.proofs.Common.{◌≡◌, true, take}
use Rattle.std.specs.List.{list_all}
use Rattle.jpa_value.specs.Value.{is_representable}
use Rattle.jpa_rows.proofs.rows.representable.values_are_representable.Given as goal

abbrev pub invariant-loop-value : goal.invariant-loop-value
invariant-loop-value l = list_all is_representable (take l.value-index l.values) ≡ true

use Rattle.std.proofs.Common.{◌≡◌, drop}
use Rattle.std.specs.List.{list_all}
use Rattle.jpa_value.specs.Value.{is_null}
use Rattle.jpa_operations.proofs.ops.persisting.is_unset.Given as goal

abbrev pub invariant-loop-part : goal.invariant-loop-part
invariant-loop-part l = list_all is_null (drop l.part-index l.key) ≡ list_all is_null l.key

use Rattle.std.proofs.Common.{◌≡◌, true, take}
use Rattle.jpa_rows.specs.rows.Cells.{all_representable}
use Rattle.jpa_updates.proofs.representable.objects_are_representable.Given as goal

abbrev pub invariant-loop-object : goal.invariant-loop-object
invariant-loop-object l = all_representable (take l.object-index l.objects) ≡ true

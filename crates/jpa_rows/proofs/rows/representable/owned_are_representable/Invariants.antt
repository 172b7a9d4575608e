use Rattle.std.proofs.Common.{◌≡◌, true, take}
use Rattle.std.specs.List.{list_all}
use Rattle.jpa_rows.specs.rows.Cells.{names_representable}
use Rattle.jpa_rows.proofs.rows.representable.owned_are_representable.Given as goal

abbrev pub invariant-loop-ids : goal.invariant-loop-ids
invariant-loop-ids l = list_all (list_all names_representable) (take l.ids-index l.owned) ≡ true

use Rattle.std.proofs.Common.{◌≡◌, true, take}
use Rattle.std.specs.List.{list_all}
use Rattle.jpa_rows.specs.rows.Cells.{names_representable}
use Rattle.jpa_rows.proofs.rows.representable.identities_are_representable.Given as goal

abbrev pub invariant-loop-id : goal.invariant-loop-id
invariant-loop-id l = list_all names_representable (take l.id-index l.ids) ≡ true

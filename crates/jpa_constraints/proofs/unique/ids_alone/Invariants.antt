use Rattle.std.proofs.Common.{◌≡◌, true, not, take}
use Rattle.std.specs.List.{list_all}
use Rattle.jpa_open.specs.Leads.{has_rival}
use Rattle.jpa_open.specs.Opened.{now}
use Rattle.jpa_constraints.proofs.unique.ids_alone.Given as goal

abbrev pub invariant-loop-id : goal.invariant-loop-id
invariant-loop-id l = list_all (λ id. not (has_rival l.metamodel (now l.view) (record { table = l.owner.table; column = l.column; target = id }) l.owner)) (take l.id-index l.ids) ≡ true

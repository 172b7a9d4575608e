use Rattle.std.proofs.Common.{◌≡◌, true, take}
use Rattle.std.specs.List.{list_all}
use Rattle.jpa_stored.specs.objects.Sets.{is_of, stored_at}
use Rattle.jpa_open.specs.Opened.{now}
use Rattle.jpa_constraints.proofs.reference.ids_lead.Given as goal

abbrev pub invariant-loop-id : goal.invariant-loop-id
invariant-loop-id l = list_all (λ id. is_of l.metamodel (stored_at (now l.view) id) l.target) (take l.id-index l.ids) ≡ true

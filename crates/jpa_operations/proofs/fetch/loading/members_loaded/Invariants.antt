use Rattle.std.proofs.Common.{◌≡◌, ◌++◌, drop, map}
use Rattle.std.specs.List.{enumerate_from}
use Rattle.jpa_model.specs.Chains.{relations_of, is_to_one}
use Rattle.jpa_stored.specs.objects.Sets.{members}
use Rattle.jpa_open.specs.Opened as opened
use Rattle.jpa_operations.specs.fetch.Load.{known}
use Rattle.jpa_operations.proofs.fetch.loading.members_loaded.Given as goal

abbrev pub invariant-loop-relation : goal.invariant-loop-relation
invariant-loop-relation l =
    let relations = relations_of l.metamodel (l.row).class in
    l.members ++ map (λ p. known (is_to_one (p.1).side) (members l.metamodel (opened.now l.view) l.id l.row p.0)) (enumerate_from l.relation (drop l.relation relations))
    ≡ map (λ p. known (is_to_one (p.1).side) (members l.metamodel (opened.now l.view) l.id l.row p.0)) (enumerate_from 0 relations)

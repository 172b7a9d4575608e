use Rattle.std.proofs.Common.{◌≡◌, drop}
use Rattle.std.specs.List.{list_all}
use Rattle.jpa_model.specs.WellFormed.{has_target_and_owner}
use Rattle.jpa_description.proofs.description.relations.have_targets_and_owners.Given as goal

abbrev pub invariant-loop-relation : goal.invariant-loop-relation
invariant-loop-relation l =
    list_all (has_target_and_owner l.draft l.declaring) (drop l.relation-index l.declaring.relations)
    ≡ list_all (has_target_and_owner l.draft l.declaring) l.declaring.relations

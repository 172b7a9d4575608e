use Rattle.std.proofs.Common.{◌≡◌, drop}
use Rattle.std.specs.List.{list_all}
use Rattle.jpa_model.specs.WellFormed.{has_target_and_owner}
use Rattle.jpa_description.proofs.description.relations.all_have_targets_and_owners.Given as goal

abbrev pub invariant-loop-entity : goal.invariant-loop-entity
invariant-loop-entity l =
    list_all (λ e. list_all (has_target_and_owner l.draft e) e.relations) (drop l.entity-index l.draft.entities)
    ≡ list_all (λ e. list_all (has_target_and_owner l.draft e) e.relations) l.draft.entities

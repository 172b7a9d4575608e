use Rattle.std.proofs.Common.{◌≡◌, ◌-◌, length}
use Rattle.std.specs.List.{list_all, range_with_len}
use Rattle.jpa_model.specs.Drafted.{entity_at, classes}
use Rattle.jpa_model.specs.WellFormed.{has_one_inverse}
use Rattle.jpa_description.proofs.description.relations.all_have_one_inverse.Given as goal

abbrev pub invariant-loop-class : goal.invariant-loop-class
invariant-loop-class l =
    list_all (λ class. list_all (has_one_inverse l.draft class) (entity_at l.draft class).relations) (range_with_len l.class (length l.draft.entities - l.class))
    ≡ list_all (λ class. list_all (has_one_inverse l.draft class) (entity_at l.draft class).relations) (classes l.draft)

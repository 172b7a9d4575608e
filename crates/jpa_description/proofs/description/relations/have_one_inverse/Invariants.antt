use Rattle.std.proofs.Common.{◌≡◌, drop}
use Rattle.std.specs.List.{list_all}
use Rattle.jpa_model.specs.WellFormed.{has_one_inverse}
use Rattle.jpa_description.proofs.description.relations.have_one_inverse.Given as goal

abbrev pub invariant-loop-relation : goal.invariant-loop-relation
invariant-loop-relation l =
    list_all (has_one_inverse l.draft l.class) (drop l.relation-index l.relations) ≡ list_all (has_one_inverse l.draft l.class) l.relations

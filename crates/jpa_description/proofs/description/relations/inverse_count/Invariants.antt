use Rattle.std.proofs.Common.{◌≡◌, ◌≤◌, ◌+◌, drop}
use Rattle.std.specs.Prelude.{count_by}
use Rattle.jpa_model.specs.WellFormed.{is_inverse_of}
use Rattle.jpa_description.proofs.description.relations.inverse_count.Given as goal

abbrev pub invariant-loop-relation : goal.invariant-loop-relation
invariant-loop-relation l = record {
  counted : l.count + count_by (is_inverse_of l.draft l.class l.owner) (drop l.relation-index l.relations)
      ≡ count_by (is_inverse_of l.draft l.class l.owner) l.relations;
  small : l.count ≤ l.relation-index;
}

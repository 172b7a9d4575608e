use Rattle.std.proofs.Common.{◌≡◌, ◌≤◌, ◌+◌, drop}
use Rattle.std.specs.Prelude.{sum_by}
use Rattle.jpa_model.specs.Drafted.{entity_at}
use Rattle.jpa_model.specs.WellFormed.{member_count}
use Rattle.jpa_description.proofs.description.along.are_few_along.Given as goal

abbrev pub invariant-loop-class : goal.invariant-loop-class
invariant-loop-class l = record {
  left : sum_by (λ class. member_count (entity_at l.draft class)) (drop l.class-index l.chain) + 64
      ≡ sum_by (λ class. member_count (entity_at l.draft class)) l.chain + l.room;
  room : l.room ≤ 64;
}

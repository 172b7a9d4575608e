use Rattle.std.proofs.Common.{◌≡◌, ◌++◌, map, drop}
use Rattle.jpa_model.specs.Chains.{is_to_one}
use Rattle.jpa_work.specs.heap.Objects.{empty_held}
use Rattle.jpa_work.proofs.heap.create.empty_relations.Given as goal

abbrev pub invariant-loop-relation : goal.invariant-loop-relation
invariant-loop-relation l =
    l.held ++ map (λ r. empty_held (is_to_one r.side)) (drop l.relation-index l.relations) ≡ map (λ r. empty_held (is_to_one r.side)) l.relations

use Rattle.std.proofs.Common.{◌≡◌, ◌++◌, drop}
use Rattle.std.specs.List.{flat_map}
use Rattle.jpa_model.specs.Drafted.{side_columns}
use Rattle.jpa_description.proofs.description.numbers.push_relation_columns.Given as goal

abbrev pub invariant-loop-relation : goal.invariant-loop-relation
invariant-loop-relation l =
    l.columns.items ++ flat_map (λ r. side_columns r.side) (drop l.relation-index l.relations)
    ≡ l.fn.columns.items ++ flat_map (λ r. side_columns r.side) l.relations

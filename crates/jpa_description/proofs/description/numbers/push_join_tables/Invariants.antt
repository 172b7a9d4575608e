use Rattle.std.proofs.Common.{◌≡◌, ◌++◌, drop}
use Rattle.std.specs.List.{flat_map}
use Rattle.jpa_model.specs.Drafted.{join_tables}
use Rattle.jpa_description.proofs.description.numbers.push_join_tables.Given as goal

abbrev pub invariant-loop-relation : goal.invariant-loop-relation
invariant-loop-relation l =
    l.tables.items ++ flat_map (λ r. join_tables r.side) (drop l.relation-index l.relations)
    ≡ l.fn.tables.items ++ flat_map (λ r. join_tables r.side) l.relations

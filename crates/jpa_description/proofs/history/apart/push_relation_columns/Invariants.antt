use Rattle.std.proofs.Common.{◌≡◌, ◌++◌, drop}
use Rattle.std.specs.List.{flat_map}
use Rattle.jpa_model.specs.Chains.{column_of}
use Rattle.jpa_model.specs.Drafted.{listed}
use Rattle.jpa_description.proofs.history.apart.push_relation_columns.Given as goal

abbrev pub invariant-loop-relation : goal.invariant-loop-relation
invariant-loop-relation l =
    l.columns.items ++ flat_map (λ r. listed (λ c. c.column) (column_of r.side)) (drop l.relation-index l.relations)
    ≡ l.fn.columns.items ++ flat_map (λ r. listed (λ c. c.column) (column_of r.side)) l.relations

use Rattle.std.proofs.Common.{◌≡◌, ◌++◌, take}
use Rattle.std.specs.List.{flat_map}
use Rattle.jpa_model.specs.Chains.{column_of}
use Rattle.jpa_rows.specs.rows.Tables.{link_rules}
use Rattle.jpa_rows.proofs.rows.tables.push_links.Given as goal

abbrev pub invariant-loop-relation : goal.invariant-loop-relation
invariant-loop-relation l = l.rules ≡ l.fn.rules ++ flat_map (λ r. link_rules l.metamodel r.target (column_of r.side)) (take l.relation-index l.relations)

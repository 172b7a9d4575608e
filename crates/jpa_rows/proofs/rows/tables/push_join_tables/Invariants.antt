use Rattle.std.proofs.Common.{◌≡◌, ◌++◌, take}
use Rattle.std.specs.List.{flat_map}
use Rattle.jpa_rows.specs.rows.Tables.{join_table}
use Rattle.jpa_rows.proofs.rows.tables.push_join_tables.Given as goal

abbrev pub invariant-loop-relation : goal.invariant-loop-relation
invariant-loop-relation l = l.found ≡ l.fn.found ++ flat_map (join_table l.metamodel l.class) (take l.relation-index l.relations)

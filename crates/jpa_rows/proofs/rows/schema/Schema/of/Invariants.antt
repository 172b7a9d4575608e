use Rattle.std.proofs.Common.{◌≡◌, ◌∷◌}
use Rattle.std.specs.List.{flat_map, range_with_len}
use Rattle.jpa_rows.specs.rows.Tables.{next_numbers, tables_of_class}
use Rattle.jpa_rows.proofs.rows.schema.Schema.of.Given as goal

abbrev pub invariant-loop-class : goal.invariant-loop-class
invariant-loop-class l = l.found ≡ next_numbers ∷ flat_map (tables_of_class l.metamodel) (range_with_len 0 l.class)

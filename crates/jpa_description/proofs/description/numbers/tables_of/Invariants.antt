use Rattle.std.proofs.Common.{◌≡◌, ◌++◌, drop}
use Rattle.std.specs.List.{flat_map}
use Rattle.jpa_model.specs.Drafted.{tables}
use Rattle.jpa_description.proofs.description.numbers.tables_of.Given as goal

abbrev pub invariant-loop-entity : goal.invariant-loop-entity
invariant-loop-entity l = l.tables.items ++ flat_map tables (drop l.entity-index l.entities) ≡ flat_map tables l.entities

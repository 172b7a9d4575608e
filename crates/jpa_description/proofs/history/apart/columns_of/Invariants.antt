use Rattle.std.proofs.Common.{◌≡◌, ◌++◌, drop}
use Rattle.std.specs.List.{flat_map}
use Rattle.jpa_description.specs.history.Condition.{columns, old_columns}
use Rattle.jpa_description.proofs.history.apart.columns_of.Given as goal

abbrev pub invariant-loop-class : goal.invariant-loop-class
invariant-loop-class l =
    l.columns.items ++ flat_map (columns l.metamodel) (drop l.class-index l.places) ≡ flat_map (columns l.metamodel) l.places

abbrev pub invariant-loop-class-2 : goal.invariant-loop-class-2
invariant-loop-class-2 l =
    l.columns.items ++ flat_map (old_columns l.history) (drop l.class-index l.places)
    ≡ flat_map (columns l.metamodel) l.places ++ flat_map (old_columns l.history) l.places

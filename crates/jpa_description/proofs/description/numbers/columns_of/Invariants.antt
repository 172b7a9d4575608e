use Rattle.std.proofs.Common.{◌≡◌, ◌++◌, drop}
use Rattle.jpa_model.specs.Drafted.{columns, declared_by}
use Rattle.jpa_description.proofs.description.numbers.columns_of.Given as goal

abbrev pub invariant-loop-class : goal.invariant-loop-class
invariant-loop-class l =
    l.columns.items ++ declared_by columns l.draft (drop l.class-index l.places) ≡ declared_by columns l.draft l.places

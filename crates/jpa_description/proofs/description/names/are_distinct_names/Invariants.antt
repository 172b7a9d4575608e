use Rattle.std.proofs.Common.{◌≡◌, drop}
use Rattle.jpa_model.specs.WellFormed.{are_distinct_by}
use Rattle.jpa_description.proofs.description.names.are_distinct_names.Given as goal

abbrev pub invariant-loop-i : goal.invariant-loop-i
invariant-loop-i g l = are_distinct_by g.T.Named.name_of (drop l.i l.items) ≡ are_distinct_by g.T.Named.name_of l.items

use Rattle.std.proofs.Common.{◌≡◌, drop}
use Rattle.std.specs.List.{zip}
use Rattle.jpa_constraints.specs.Judged.{ids_apart}
use Rattle.jpa_constraints.proofs.unique.ids_apart.Given as goal

abbrev pub invariant-loop-i : goal.invariant-loop-i
invariant-loop-i l = ids_apart l.column l.ids (zip l.relations l.owned) ≡ ids_apart l.column (drop l.i l.ids) (zip l.relations l.owned)

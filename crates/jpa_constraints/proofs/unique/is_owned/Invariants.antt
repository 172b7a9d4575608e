use Rattle.std.proofs.Common.{◌≡◌, drop}
use Rattle.jpa_open.specs.Leads.{holds_in, is_of_column}
use Rattle.jpa_constraints.proofs.unique.is_owned.Given as goal

abbrev pub invariant-loop-i : goal.invariant-loop-i
invariant-loop-i l = holds_in (is_of_column l.column) l.id l.relations l.owned ≡ holds_in (is_of_column l.column) l.id (drop l.i l.relations) (drop l.i l.owned)

use Rattle.std.proofs.Common.{◌≡◌, true, take}
use Rattle.std.specs.List.{list_all}
use Rattle.jpa_open.specs.Opened.{now}
use Rattle.jpa_constraints.specs.Judged.{is_alone}
use Rattle.jpa_constraints.proofs.unique.all_alone.Given as goal

abbrev pub invariant-loop-change : goal.invariant-loop-change
invariant-loop-change l = list_all (is_alone l.metamodel (now l.view)) (take l.change-index l.changes) ≡ true

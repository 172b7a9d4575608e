use Rattle.std.proofs.Common.{◌≡◌, ◌≤◌, drop, length}
use Rattle.jpa_stored.specs.objects.Sets.{each_fits}
use Rattle.jpa_object_rows.specs.mapper.Guess.{leads_well}
use Rattle.jpa_object_rows.proofs.mapper.shape.lead_well.Given as goal

abbrev pub invariant-loop-i : goal.invariant-loop-i
invariant-loop-i l = record {
  rest : each_fits (leads_well l.metamodel) (drop l.i l.relations) (drop l.i l.owned) ≡ each_fits (leads_well l.metamodel) l.relations l.owned;
  within : l.i ≤ length l.owned;
}

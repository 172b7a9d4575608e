use Rattle.std.proofs.Common.{◌≡◌, take}
use Rattle.jpa_stored.specs.objects.Sets.{leading_to}
use Rattle.jpa_stored.proofs.objects.related.those_leading.Given as goal

abbrev pub invariant-loop-entry : goal.invariant-loop-entry
invariant-loop-entry l = l.ids ≡ leading_to l.metamodel (take l.entry-index l.entry-items) l.class l.owner l.id

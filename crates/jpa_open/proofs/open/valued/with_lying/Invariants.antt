use Rattle.std.proofs.Common.{◌≡◌, ◌++◌, drop}
use Rattle.jpa_stored.specs.ordered.Values.{lies_in_any}
use Rattle.jpa_open.specs.Opened.{lent_ids}
use Rattle.jpa_open.specs.Valued.{ids_passing}
use Rattle.jpa_open.proofs.open.valued.with_lying.Given as goal

-- with those of the objects that are left they are all
abbrev pub invariant-loop-object : goal.invariant-loop-object
invariant-loop-object l =
    lent_ids l.found.items ++ ids_passing (lies_in_any l.member l.spans) (drop l.object-index l.objects) ≡ lent_ids l.initial.found.items ++ ids_passing (lies_in_any l.member l.spans) l.objects

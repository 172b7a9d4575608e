use Rattle.std.proofs.Common.{◌≡◌, true}
use Rattle.jpa_value.specs.declared.value.Identity.{Identity}
use Rattle.jpa_stored.specs.objects.Sets.{stored_at}
use Rattle.jpa_open.specs.Opened.{now}
use Rattle.jpa_open.specs.References.{test_at}
use Rattle.jpa_open.proofs.Led.{among}
use Rattle.jpa_open.proofs.Subclasses.{below_kind}
use Rattle.jpa_open.proofs.open.OpenSet.owners_below.Given as goal

abbrev pub invariant-loop-below : goal.invariant-loop-below
invariant-loop-below l = (q : Identity) → test_at (below_kind l.metamodel l.class l.place l.id l.below) q (stored_at (now l.self) q) ≡ true → among l.found.items q ≡ true

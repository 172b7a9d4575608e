use Rattle.std.proofs.Common.{◌≡◌, ◌++◌, drop, map}
use Rattle.jpa_value.specs.declared.value.Identity.{Identity}
use Rattle.jpa_stored.specs.declared.objects.stored.Stored.{Stored}
use Rattle.jpa_open.specs.Opened.{lent}
use Rattle.jpa_open.proofs.open.leading.identities_of.Given as goal

-- those that were copied, and those that are left
abbrev pub invariant-loop-object : goal.invariant-loop-object
invariant-loop-object l = l.ids ++ map (λ (e : Identity × Stored). e.0) (lent (drop l.object-index l.objects)) ≡ map (λ (e : Identity × Stored). e.0) (lent l.objects)

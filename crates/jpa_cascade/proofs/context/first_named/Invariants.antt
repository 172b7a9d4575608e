use Rattle.std.proofs.Common.{◌≡◌, drop}
use Rattle.std.specs.List.{find}
use Rattle.jpa_work.specs.heap.Objects.{identity_of, object_at}
use Rattle.jpa_work.specs.context.Work.{has_identity}
use Rattle.jpa_cascade.proofs.context.first_named.Given as goal

-- what was passed is another's
abbrev pub invariant-loop-place : goal.invariant-loop-place
invariant-loop-place l =
    find (λ n. has_identity (identity_of l.metamodel (object_at l.objects n)) l.id) (drop l.place-index l.places)
    ≡ find (λ n. has_identity (identity_of l.metamodel (object_at l.objects n)) l.id) l.places

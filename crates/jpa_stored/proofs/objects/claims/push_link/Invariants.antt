use Rattle.std.proofs.Common.{◌≡◌, ◌++◌, Some, take}
use Rattle.jpa_stored.specs.objects.Sets.{claims_at}
use Rattle.jpa_stored.proofs.objects.claims.push_link.Given as goal

abbrev pub invariant-loop-id : goal.invariant-loop-id
invariant-loop-id l = l.out.items ≡ l.fn.out.items ++ claims_at l.table (Some l.column) (take l.id-index l.ids)

use Rattle.std.proofs.Common.{◌≡◌, ◌++◌, take}
use Rattle.std.specs.List.{flat_map, zip}
use Rattle.jpa_stored.specs.objects.Sets.{claims_at, one_to_one_column}
use Rattle.jpa_stored.proofs.objects.claims.push_links.Given as goal

abbrev pub invariant-loop-i : goal.invariant-loop-i
invariant-loop-i l = l.out.items ≡ l.fn.out.items ++ flat_map (λ p. claims_at l.table (one_to_one_column (p.0).side) p.1) (zip l.relations (take l.i l.owned))

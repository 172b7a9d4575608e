use Rattle.std.proofs.Common.{◌≡◌, true}
use Rattle.std.specs.List.{list_any}
use Rattle.std.specs.BTreeSet.{contains}
use Rattle.jpa_stored.specs.declared.objects.claims.Claim.{Claim}
use Rattle.jpa_stored.specs.objects.Sets.{claim_cmp, same_claim, all_distinct}
use Rattle.jpa_stored.proofs.objects.claims.are_distinct.Given as goal

abbrev pub invariant-loop-claim : goal.invariant-loop-claim
invariant-loop-claim l = record {
  distinct : all_distinct same_claim l.yielded ≡ true;
  seen : (q : Claim) → contains claim_cmp l.seen q ≡ list_any (same_claim q) l.yielded;
}

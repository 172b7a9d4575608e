-- Claims are totally ordered.
use Rattle.std.specs.Cmp.{IsTotalOrder, then_total, on_total, nat_cmp_total}
use Rattle.jpa_value.proofs.Orders.{identity_total}
use Rattle.jpa_stored.specs.declared.objects.claims.Claim.{Claim}
use Rattle.jpa_stored.specs.objects.Sets.{claim_cmp}

-- the order of claims is total
pub claim_total : IsTotalOrder claim_cmp
claim_total = then_total (on_total (λ (c : Claim). c.table) nat_cmp_total)
    (then_total (on_total (λ (c : Claim). c.column) nat_cmp_total) (on_total (λ (c : Claim). c.target) identity_total))

-- What expressions give is totally ordered.
use Rattle.std.specs.Prelude.{Bool}
use Rattle.std.specs.Cmp.{IsTotalOrder, then_total, on_total, nat_cmp_total}
use Rattle.std.specs.Ordering.{is_eq}
use Rattle.std.specs.declared.cmp.Ordering.{Ordering}
use Rattle.jpa_value.proofs.Orders.{value_total, identity_total}
use Rattle.jpql_meaning.specs.eval.Data.{datum_cmp, is_entity, value_in, identity_in}
use Rattle.jpql_meaning.specs.eval.Seen.{seen}
use Rattle.jpql_meaning.specs.declared.eval.seen.Seen.{Seen}

-- the order of data is total
pub datum_total : IsTotalOrder datum_cmp
datum_total = then_total (on_total is_entity nat_cmp_total)
    (then_total (on_total value_in value_total) (on_total identity_in identity_total))

-- the order of what stands for data
abbrev pub seen_cmp : Seen → Seen → Ordering
seen_cmp x y = datum_cmp (seen x) (seen y)

-- whether two stand for data that are equal in the order
abbrev pub same_seen : Seen → Seen → Bool
same_seen x y = is_eq (seen_cmp x y)

-- the order of what stands for data is total
pub seen_total : IsTotalOrder seen_cmp
seen_total = on_total seen datum_total

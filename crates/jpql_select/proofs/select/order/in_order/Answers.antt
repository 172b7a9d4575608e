use Rattle.std.proofs.Common.{rules, ◌≡◌, ap}
use Rattle.std.specs.Ordering.{is_lt}
use Rattle.std.proofs.lemmas.Fn.{always_returns_same}
use Rattle.jpql_meaning.specs.plan.Selection.{precedes}
use Rattle.jpql_meaning.proofs.plan.Orders.{precedes_is_order}
use Rattle.jpql_select.proofs.select.Sorted.{sorted_is_in_order}
use Rattle.jpql_select.proofs.select.order.in_order.Goals as goal

pub returns : goal.returns
returns c =
    let keys = c.args.keys.now in
    sorted_is_in_order keys c.args.rows.items _
    (c.in_ok-sort_by.ensures.sorted (precedes keys) (precedes_is_order keys)
    (always_returns_same _ (λ a r. is_lt r ≡ precedes keys a.0.now a.1.0.now) _ (λ a r q k. (ap is_lt (search rules), search rules))))
    (c.sort_by.ensures.stable (precedes keys) (precedes_is_order keys)
    (always_returns_same _ (λ a r. is_lt r ≡ precedes keys a.0.now a.1.0.now) _ (λ a r q k. (ap is_lt (search rules), search rules))))

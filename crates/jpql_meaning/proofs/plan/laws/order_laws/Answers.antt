use Rattle.std.proofs.Common.{◌∙◌, sym}
use Rattle.jpql_meaning.specs.plan.Selection.{precedes, in_order}
use Rattle.jpql_meaning.proofs.plan.Orders.{precedes_is_order}
use Rattle.jpql_meaning.proofs.plan.Ordered.{in_order_sorted, in_order_stable}
use Rattle.jpql_meaning.proofs.plan.Stable.{sorted_places, places_sorted, stable_is_one}
use Rattle.jpql_meaning.proofs.plan.laws.order_laws.Goals as goal

pub returns : goal.returns
returns c = λ keys rows.
    record {
      sorted = sorted_places (precedes keys) (precedes_is_order keys) (in_order keys rows) (in_order_sorted keys rows);
      stable = in_order_stable keys rows;
      one = λ others h k.
          stable_is_one (precedes keys) (precedes_is_order keys) others (in_order keys rows) (places_sorted (precedes keys) (precedes_is_order keys) others h)
          (in_order_sorted keys rows) (λ x. k x ∙ sym (in_order_stable keys rows x));
    }

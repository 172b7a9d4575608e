-- What a stable sort gives is ORDER BY.
use Rattle.std.proofs.Common.{◌≡◌, sym, ◌∙◌, List}
use Rattle.std.specs.List.Sorted.{IsSortedBy, IsStableBy}
use Rattle.jpql_trees.specs.declared.typed.typed.TypedKey.{TypedKey}
use Rattle.jpql_meaning.specs.plan.Selection.{Row, precedes, in_order}
use Rattle.jpql_meaning.proofs.plan.Orders.{precedes_is_order}
use Rattle.jpql_meaning.proofs.plan.Ordered.{in_order_sorted, in_order_stable}
use Rattle.jpql_meaning.proofs.plan.Stable.{places_sorted, stable_is_one}

pub sorted_is_in_order : (keys : List TypedKey) (rows others : List Row) → IsSortedBy (precedes keys) others → IsStableBy (precedes keys) rows others
    → others ≡ in_order keys rows
sorted_is_in_order keys rows others h k =
    stable_is_one (precedes keys) (precedes_is_order keys) others (in_order keys rows) (places_sorted (precedes keys) (precedes_is_order keys) others h)
    (in_order_sorted keys rows) (λ x. k x ∙ sym (in_order_stable keys rows x))

-- ORDER BY sorts, and keeps the order of rows that tie.
use Rattle.std.proofs.Common.{◌≡◌, ◌∙◌, ap, refl, cond, true, List, [], ◌∷◌}
use Rattle.std.specs.List.{filter}
use Rattle.std.specs.List.Sorted.{ties, IsStableBy}
use Rattle.jpql_trees.specs.declared.typed.typed.TypedKey.{TypedKey}
use Rattle.jpql_meaning.specs.plan.Selection.{Row, precedes, put_row, put_rows, in_order}
use Rattle.jpql_meaning.proofs.plan.Orders.{precedes_is_order}
use Rattle.jpql_meaning.proofs.plan.Stable.{put, put_all, is_sorted, all_sorted, all_stable}

put_row_puts : (keys : List TypedKey) (r : Row) (rows : List Row) → put_row keys r rows ≡ put (precedes keys) r rows
put_row_puts keys r [] = refl
put_row_puts keys r (x ∷ rows) = ap (λ more. cond (precedes keys r x) (r ∷ x ∷ rows) (x ∷ more)) (put_row_puts keys r rows)

put_rows_puts : (keys : List TypedKey) (sorted rows : List Row) → put_rows keys sorted rows ≡ put_all (precedes keys) sorted rows
put_rows_puts keys sorted [] = refl
put_rows_puts keys sorted (r ∷ rows) = put_rows_puts keys (put_row keys r sorted) rows ∙ ap (λ s. put_all (precedes keys) s rows) (put_row_puts keys r sorted)

pub in_order_sorted : (keys : List TypedKey) (rows : List Row) → is_sorted (precedes keys) (in_order keys rows) ≡ true
in_order_sorted keys rows = ap (is_sorted (precedes keys)) (put_rows_puts keys [] rows) ∙ all_sorted (precedes keys) (precedes_is_order keys) [] rows refl

pub in_order_stable : (keys : List TypedKey) (rows : List Row) → IsStableBy (precedes keys) rows (in_order keys rows)
in_order_stable keys rows x =
    ap (filter (ties (precedes keys) x)) (put_rows_puts keys [] rows) ∙ all_stable (precedes keys) (precedes_is_order keys) x [] rows refl

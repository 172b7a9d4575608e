-- ORDER BY is by a total order of what rows are ordered by, so that sorting by it is what std's sorts ask for.
use Rattle.std.proofs.Common.{refl}
use Rattle.std.specs.Prelude.{Bool, true, false, List, [], ◌∷◌}
use Rattle.std.specs.Cmp.{IsTotalOrder, IsStrictWeakOrder, then_total, on_total, back_total}
use Rattle.std.proofs.lemmas.List.MinMax.{ranks_by}
use Rattle.jpql_trees.specs.declared.typed.typed.TypedKey.{TypedKey}
use Rattle.jpql_meaning.specs.eval.SeenOrder.{datum_total}
use Rattle.jpql_meaning.specs.plan.Selection.{Row, by_key, first, rest, keys_cmp, precedes}

by_key_total : (descending : Bool) → IsTotalOrder (by_key descending)
by_key_total true = back_total datum_total
by_key_total false = datum_total

pub keys_total : (keys : List TypedKey) → IsTotalOrder (keys_cmp keys)
keys_total [] = record { antisymm = λ x y. refl; trans = λ x y z h k. h; congr = λ x y z h. refl }
keys_total (k ∷ ks) = then_total (on_total first (by_key_total k.is_descending)) (on_total rest (keys_total ks))

pub precedes_is_order : (keys : List TypedKey) → IsStrictWeakOrder (precedes keys)
precedes_is_order keys = ranks_by (keys_total keys) (λ (r : Row). r.keys)

-- What expressions give, and how that is compared (chapter 4.6.7).
use Rattle.std.specs.Prelude.{ℕ, Bool, true, false, not, ◌&&◌, ◌||◌, List, [], ◌∷◌, map, if◌then◌else◌}
use Rattle.std.specs.declared.cmp.Ordering.{Ordering}
use Rattle.std.specs.declared.cmp.Ordering.TheVariants.{Less, Greater}
use Rattle.std.specs.Ordering.{nat_cmp, ordering_then}
use Rattle.jpa_value.specs.declared.value.Value.{Value}
use Rattle.jpa_value.specs.declared.value.Identity.{Identity}
use Rattle.jpa_value.specs.Value.{value_cmp, identity_cmp, same_value, same_identity, is_null}
use Rattle.jpql_trees.specs.declared.tree.Comparison.{Comparison}
use Rattle.jpql_meaning.specs.declared.eval.datum.Datum.{Datum}
use Rattle.jpql_meaning.specs.declared.eval.datum.Truth.{Truth}
use Rattle.jpql_meaning.specs.eval.Truths.{truth_of, and3, any3}

-- null, as an expression gives it
abbrev pub null : Datum
null = Datum.Plain Value.Null

-- whether a datum is null
abbrev pub is_nothing : Datum → Bool
is_nothing (Datum.Plain v) = is_null v
is_nothing (Datum.Entity id) = false

-- entities by their identity; null is as null, which groups and DISTINCT go by
abbrev pub same_datum : Datum → Datum → Bool
same_datum (Datum.Plain x) (Datum.Plain y) = same_value x y
same_datum (Datum.Entity x) (Datum.Entity y) = same_identity x y
same_datum _ _ = false

-- whether two lists have the same data in turn
abbrev pub same_data : List Datum → List Datum → Bool
same_data [] [] = true
same_data (x ∷ xs) (y ∷ ys) = same_datum x y && same_data xs ys
same_data _ _ = false

-- Nulls come first, then the other values. An entity has no order in a query; here it stands behind
-- all values, so that the order is total.
abbrev pub is_entity : Datum → ℕ
is_entity (Datum.Plain x) = 0
is_entity (Datum.Entity id) = 1

-- the value that a datum is; null for an entity
abbrev pub value_in : Datum → Value
value_in (Datum.Plain x) = x
value_in (Datum.Entity id) = Value.Null

-- the identity of an entity; a blank one for a value
abbrev pub identity_in : Datum → Identity
identity_in (Datum.Plain x) = record { table = 0; key = [] }
identity_in (Datum.Entity id) = id

-- the order of data: values before entities, values by theirs, entities by their identities
abbrev pub datum_cmp : Datum → Datum → Ordering
datum_cmp a b =
    ordering_then (nat_cmp (is_entity a) (is_entity b))
    (ordering_then (value_cmp (value_in a) (value_in b)) (identity_cmp (identity_in a) (identity_in b)))

-- whether a comparison holds, by whether both are the same and by their order
abbrev pub holds : Comparison → Bool → Ordering → Bool
holds Comparison.Equal same o = same
holds Comparison.Different same o = not same
holds Comparison.Less same Less = true
holds Comparison.Less same _ = false
holds Comparison.AtMost same Greater = false
holds Comparison.AtMost same _ = true
holds Comparison.Greater same Greater = true
holds Comparison.Greater same _ = false
holds Comparison.AtLeast same Less = false
holds Comparison.AtLeast same _ = true

-- a comparison with null is unknown
abbrev pub compared : Comparison → Datum → Datum → Truth
compared op a b = if is_nothing a || is_nothing b then Truth.Unknown
    else truth_of (holds op (same_datum a b) (datum_cmp a b))

-- x IN (a, b) is x = a OR x = b
abbrev pub among : Datum → List Datum → Truth
among x all = any3 (map (compared Comparison.Equal x) all)

-- BETWEEN: at least the one and at most the other (chapter 4.6.8)
abbrev pub between : Datum → Datum → Datum → Truth
between x low high = and3 (compared Comparison.AtLeast x low) (compared Comparison.AtMost x high)

-- Groups of tuples, and where they stand.
use Rattle.std.specs.Prelude.{◌≡◌, ℕ, zero, suc, Bool, true, false, List, [], ◌∷◌, ◌++◌, map, Option, Some, None}
use Rattle.std.specs.Prelude.{option_map, if◌then◌else◌}
use Rattle.std.specs.Global.{Vec}
use Rattle.std.specs.Ordering.{is_lt}
use Rattle.std.specs.declared.cmp.Ordering.TheVariants.{Less}
use Rattle.jpql_meaning.specs.declared.eval.datum.Datum.{Datum}
use Rattle.jpql_meaning.specs.eval.Data.{same_data}
use Rattle.jpql_meaning.specs.plan.Paths.{Tuple}
use Rattle.jpql_select.specs.select.Keys.{data_cmp}

-- the groups, as lists
abbrev pub groups_in : {T : Type 0} → List (Vec T) → List (List T)
groups_in groups = map (λ g. g.items) groups

-- one more in the group at a place
abbrev pub add_at : {T : Type 0} → List (List T) → ℕ → T → List (List T)
add_at [] place t = []
add_at (g ∷ gs) zero t = (g ++ t ∷ []) ∷ gs
add_at (g ∷ gs) (suc place) t = g ∷ add_at gs place t

-- whether a group's first tuple has this key
abbrev pub begins_with : (Tuple → List Datum) → List Datum → List Tuple → Bool
begins_with key k [] = false
begins_with key k (one ∷ more) = same_data (key one) k

-- the place of the group of a key
abbrev pub place_of : (Tuple → List Datum) → List Datum → List (List Tuple) → Option ℕ
place_of key k [] = None
place_of key k (g ∷ gs) = if begins_with key k g then Some 0 else option_map suc (place_of key k gs)

-- no two groups are of one key
abbrev pub AreApart : (Tuple → List Datum) → List (List Tuple) → Type 0
AreApart key [] = Unit {0}
AreApart key ([] ∷ gs) = AreApart key gs
AreApart key ((one ∷ more) ∷ gs) = (place_of key (key one) gs ≡ None) × AreApart key gs

-- each group's key stands before this one
abbrev pub AreBefore : (Tuple → List Datum) → List Datum → List (List Tuple) → Type 0
AreBefore key k [] = Unit {0}
AreBefore key k ([] ∷ gs) = AreBefore key k gs
AreBefore key k ((one ∷ more) ∷ gs) = (data_cmp (key one) k ≡ Less) × AreBefore key k gs

-- whether a key stands behind the one before it; the first one does
abbrev pub is_risen : Option (List Datum) → List Datum → Bool
is_risen None k = true
is_risen (Some before) k = is_lt (data_cmp before k)

-- whether each group has a tuple
abbrev pub all_some : List (List Tuple) → Bool
all_some [] = true
all_some ([] ∷ gs) = false
all_some ((t ∷ ts) ∷ gs) = all_some gs

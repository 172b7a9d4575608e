-- Rows with changes over them: a change gives a row its cells, or none where the row is dropped.
use Rattle.std.specs.Prelude.{◌≡◌, ◌≢◌, not, List, [], ◌∷◌, Option, Some, None, T}
use Rattle.std.specs.FinMap.{find, put, is_sorted}
use Rattle.std.specs.FinMap.Entries.{where_key}
use Rattle.std.specs.Ordering.{eq_by_cmp}
use Rattle.std.specs.declared.cmp.Ordering.{Ordering}

-- without the row
abbrev pub dropped : {R C : Type 0} → (R → R → Ordering) → R → List (R × C) → List (R × C)
dropped by_row r rows = where_key by_row (λ x. not (eq_by_cmp by_row r x)) rows

-- the rows with one that is put, or dropped
abbrev pub changed : {R C : Type 0} → (R → R → Ordering) → R → Option C → List (R × C) → List (R × C)
changed by_row r None rows = dropped by_row r rows
changed by_row r (Some c) rows = put by_row r c rows

-- the rows as they are under the changes
abbrev pub seen : {R C : Type 0} → (R → R → Ordering) → List (R × C) → List (R × Option C) → List (R × C)
seen by_row base [] = base
seen by_row base (change ∷ changes) = changed by_row change.0 change.1 (seen by_row base changes)

-- a change where there is one, and else what was committed
abbrev pub over : {C : Type 0} → Option (Option C) → Option C → Option C
over None below = below
over (Some c) below = c

-- the changes are the difference: they rise, and none of them leaves a row as it was
pub record AreDifference {R C : Type 0} (by_row : R → R → Ordering) (base : List (R × C))
    (changes : List (R × Option C)) : Type 0 where
  pub rising : T (is_sorted by_row changes)
  pub real : (r : R) (c : Option C) → find by_row r changes ≡ Some c → c ≢ find by_row r base

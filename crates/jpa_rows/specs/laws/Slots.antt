-- Places of a row that may be empty, and the entries of those that are not.
use Rattle.std.specs.Prelude.{Bool, true, not, ◌&&◌, List, [], ◌∷◌, Option}
use Rattle.std.specs.List.{list_any}
use Rattle.std.specs.Ordering.{eq_by_cmp}
use Rattle.std.specs.declared.cmp.Ordering.{Ordering}
use Rattle.jpa_rows.specs.laws.Entries.{put_if}

-- the entries of the places that are not empty
abbrev pub filled : {K X : Type 0} → (K → K → Ordering) → List (K × Option X) → List (K × X)
filled by [] = []
filled by (slot ∷ slots) = put_if by slot.0 slot.1 (filled by slots)

-- whether no place has this key
abbrev pub lacks : {K X : Type 0} → (K → K → Ordering) → K → List (K × X) → Bool
lacks by k slots = not (list_any (λ slot. eq_by_cmp by k slot.0) slots)

-- no place twice
abbrev pub are_apart : {K X : Type 0} → (K → K → Ordering) → List (K × X) → Bool
are_apart by [] = true
are_apart by (slot ∷ slots) = lacks by slot.0 slots && are_apart by slots

-- Entries by key, read off rows by id. Both are finite maps: lists of entries in rising order.
use Rattle.std.specs.Prelude.{◌≡◌, List, [], ◌∷◌, Option, Some, None}
use Rattle.std.specs.FinMap.{put}
use Rattle.std.specs.declared.cmp.Ordering.{Ordering}
use Rattle.jpa_rows.specs.laws.Orders.{IsLinearOrder}

-- what f makes of the value, if there is one
abbrev pub read_by : {A B : Type 0} → (A → Option B) → Option A → Option B
read_by f None = None
read_by f (Some a) = f a

-- an entry put, where it has a value
abbrev pub put_if : {K X : Type 0} → (K → K → Ordering) → K → Option X → List (K × X) → List (K × X)
put_if by_key k None entries = entries
put_if by_key k (Some x) entries = put by_key k x entries

-- one entry more, where both its key and its value were read
abbrev pub entry_if : {K X : Type 0} → (K → K → Ordering) → Option K → (K → Option X) → List (K × X) → List (K × X)
entry_if by_key None value entries = entries
entry_if by_key (Some k) value entries = put_if by_key k (value k) entries

-- key_at: the key that a row's id spells, if any; value: what the cells of a key's row stand for,
-- if anything. A row for which either is missing gives no entry
abbrev pub entries_of : {K R C X : Type 0} → (K → K → Ordering) → (R → Option K) → (K → C → Option X) → List (R × C) →
    List (K × X)
entries_of by_key key_at value [] = []
entries_of by_key key_at value (row ∷ rows) =
    entry_if by_key (key_at row.0) (λ k. value k row.1) (entries_of by_key key_at value rows)

-- row_of spells a key as the id of its row: no other id is read as this key
pub record Spells {K R : Type 0} (by_key : K → K → Ordering) (by_row : R → R → Ordering) (key_at : R → Option K)
    (row_of : K → R) : Type 0 where
  pub keys : IsLinearOrder by_key
  pub rows : IsLinearOrder by_row
  pub only : (r : R) (k : K) → key_at r ≡ Some k → row_of k ≡ r

-- a key that is read off its own row; not every value of the type is one
abbrev pub IsSpelledBy : {K R : Type 0} → (R → Option K) → (K → R) → K → Type 0
IsSpelledBy key_at row_of k = key_at (row_of k) ≡ Some k

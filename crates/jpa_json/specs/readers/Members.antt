-- The members of an object, and the items of a list, each of its type.
use Rattle.std.specs.Prelude.{ℕ, ℤ, List, [], ◌∷◌, Option, Some}
use Rattle.serde_json.specs.Data.{Data, null, boolean, number, string, array, object, Items, no_items, item}
use Rattle.serde_json.specs.Events.{members_len}
use Rattle.serde_json.specs.Find.{get, as_number, as_str, as_array, as_i64}
use Rattle.jpa_json.specs.readers.Outcome.{◌>>=◌}

-- how many members an object has
abbrev pub count_of : Data → ℕ
count_of null = 0
count_of (boolean b) = 0
count_of (number n) = 0
count_of (string s) = 0
count_of (array ds) = 0
count_of (object ms) = members_len ms

-- the text in the member of a name
abbrev pub text_at : List ℕ → Data → Option (List ℕ)
text_at name d = get name d >>= as_str

-- an integer of 64 bits
abbrev pub integer_of : Data → Option ℤ
integer_of d = as_number d >>= as_i64

-- the meaning of each item
abbrev pub each : {A : Type 0} → (Data → Option A) → Items → Option (List A)
each meaning no_items = Some []
each meaning (item d ds) = do
  x ← meaning d
  xs ← each meaning ds
  Some (x ∷ xs)

-- a list, with the meaning of each item
abbrev pub list_of : {A : Type 0} → (Data → Option A) → Data → Option (List A)
list_of meaning d = as_array d >>= each meaning

-- What stays of an entry while it stands in a context: its object, and the key under which it
-- entered; where an object's entry stands, and which entries stay where objects leave (Jakarta
-- Persistence 3.1, chapters 3.2.7 and 3.2.8).
use Rattle.std.specs.Prelude.{◌≡◌, ℕ, Bool, not, ◌==◌, ◌&&◌, List, filter, Option, Some, None, slice_get}
use Rattle.std.specs.Prelude.{slice_index_or}
use Rattle.std.specs.List.{list_any, position_from}
use Rattle.jpa_work.specs.declared.heap.LiveObject.{LiveObject}
use Rattle.jpa_work.specs.heap.Objects.{object_at}
use Rattle.jpa_work.specs.declared.context.Entry.{Entry}
use Rattle.jpa_work.specs.context.Work.{state_from, is_removed}

-- an entry that may take the place of what stands at a place: of the same object, under the same
-- key
abbrev pub StaysAt : List Entry → ℕ → Entry → Type 0
StaysAt es at' entry =
    (old : Entry) × (old ≡ slice_index_or es at' old) × (old.object ≡ entry.object) × (old.key ≡ entry.key)

-- the place of an object's first entry, counted from 0
abbrev pub entry_place : ℕ → List Entry → Option ℕ
entry_place n es = position_from (λ e. e.object == n) 0 es

-- the entry at a place, if there is one
abbrev pub entry_at : List Entry → Option ℕ → Option Entry
entry_at es None = None
entry_at es (Some k) = slice_get es k

-- whether it is one of these objects; and the entries of all others
abbrev pub is_among : List ℕ → ℕ → Bool
is_among objects n = list_any (λ m. m == n) objects

-- the entries of objects that are none of these
abbrev pub without_objects : List ℕ → List Entry → List Entry
without_objects objects es = filter (λ e. not (is_among objects e.object)) es

-- whether an object is removed for a manager; whether it is and has one of these entries; and the
-- entries of all others
abbrev pub is_gone : List LiveObject → ℕ → ℕ → Bool
is_gone objects manager n = is_removed (state_from manager (object_at objects n).life)

-- whether an object is removed for a manager and has one of these entries
abbrev pub has_gone : List LiveObject → ℕ → List Entry → ℕ → Bool
has_gone objects manager es n = list_any (λ e. is_gone objects manager e.object && (e.object == n)) es

-- the entries of objects that are not removed for a manager
abbrev pub without_removed : List LiveObject → ℕ → List Entry → List Entry
without_removed objects manager es = filter (λ e. not (is_gone objects manager e.object)) es

-- What a commit writes: what is to stand under identities.
use Rattle.std.specs.Prelude.{Bool, true, List, [], ◌∷◌, map, Option, Some, None}
use Rattle.std.specs.Option.{option_copied}
use Rattle.jpa_value.specs.declared.value.Identity.{Identity}
use Rattle.jpa_behaviour.specs.Behaviour.{World}
use Rattle.jpa_stored.specs.declared.objects.stored.Stored.{Stored}
use Rattle.jpa_stored.specs.objects.Sets.{StoredSet, stored_at, with_stored, without}
use Rattle.jpa_object_rows.specs.meaning.View.{is_storable}
use Rattle.jpa_object_rows.specs.declared.store.object_change.ObjectChange.{ObjectChange}

-- ---- what is to stand under identities: an object, or none

-- what is to stand under the identity of a change
abbrev pub entry_in : ObjectChange → Identity × Option Stored
entry_in change = (change.id.now, option_copied change.object)

-- what is to stand under identities
abbrev pub entries_in : List ObjectChange → List (Identity × Option Stored)
entries_in = map entry_in

-- what a set has under these identities
abbrev pub entries_of : StoredSet → List Identity → List (Identity × Option Stored)
entries_of set = map (λ id. (id, stored_at set id))

-- an object that is put, or nothing
abbrev pub is_storable_if_any : World → Identity → Option Stored → Bool
is_storable_if_any world id None = true
is_storable_if_any world id (Some x) = is_storable world id x

-- a set with this under an identity: an object, or none
abbrev pub with_or_without : Identity → Option Stored → StoredSet → StoredSet
with_or_without id None set = without (id ∷ []) set
with_or_without id (Some x) set = with_stored id x set

-- the set in which that stands, and everything else as before
abbrev pub set_after : List (Identity × Option Stored) → StoredSet → StoredSet
set_after [] set = set
set_after (e ∷ es) set = set_after es (with_or_without e.0 e.1 set)

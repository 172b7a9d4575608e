-- An index of places by fingerprints, one of entries by their objects, and what ties both to the
-- entries of a context.
use Rattle.std.specs.Prelude.{◌≡◌, ◌⊎◌, ℕ, ◌-◌, ◌&&◌, ◌==◌, Bool, false, List, [], ◌∷◌, ◌++◌, length, take, map, filter}
use Rattle.std.specs.Prelude.{nat_eq, Option, Some, None, is_some, if◌then◌else◌}
use Rattle.std.specs.Global.{Vec}
use Rattle.std.specs.HashMap.{get}
use Rattle.std.specs.Option.{option_or}
use Rattle.jpa_value.specs.declared.value.Value.{Value}
use Rattle.jpa_work.specs.undo.Undo.{Changes}
use Rattle.jpa_work.specs.declared.context.Entry.{Entry}
use Rattle.jpa_work.specs.declared.context.index.PlaceIndex.{PlaceIndex}
use Rattle.jpa_work.specs.declared.context.object_places.ObjectPlaces.{ObjectPlaces}
use Rattle.jpa_work.specs.context.Near.{fingerprint}
use Rattle.jpa_work.specs.context.Places.{entry_place}

-- the places that are kept, or none
abbrev pub places_in : Option (Vec ℕ) → List ℕ
places_in None = []
places_in (Some places) = places.items

-- what stands under a fingerprint
abbrev pub under : PlaceIndex → ℕ → List ℕ
under index print = places_in (get nat_eq index.places print)

-- another index has one place more under one fingerprint, one less, or the same places
abbrev pub Adds : ℕ → ℕ → PlaceIndex → PlaceIndex → Type 0
Adds print place old new =
    (other : ℕ) → under new other ≡ (if print == other then under old other ++ place ∷ [] else under old other)

-- under one fingerprint the last place is gone, under the others the places are the same
abbrev pub DropsLast : ℕ → PlaceIndex → PlaceIndex → Type 0
DropsLast print old new = (other : ℕ) →
    under new other ≡ (if print == other then take (length (under old other) - 1) (under old other)
    else under old other)

-- under each fingerprint the places are the same
abbrev pub IsSame : PlaceIndex → PlaceIndex → Type 0
IsSame old new = (other : ℕ) → under new other ≡ under old other

-- ---- places of entries by their objects

-- the place of an object, if it has one
abbrev pub place_in : ObjectPlaces → ℕ → Option ℕ
place_in at' n = get nat_eq at'.places n

-- whether an object has a place
abbrev pub has_place : ObjectPlaces → ℕ → Bool
has_place at' n = is_some (place_in at' n)

-- whether there is a place, and it is this one
abbrev pub is_place : ℕ → Option ℕ → Bool
is_place place None = false
is_place place (Some own) = own == place

-- an object gets a place where it has none, and loses the place that it has; another place in its
-- place; or none
abbrev pub Notes : ℕ → ℕ → ObjectPlaces → ObjectPlaces → Type 0
Notes object place old new =
    (n : ℕ) → place_in new n ≡ option_or (place_in old n) (if object == n then Some place else None)

-- an object loses its place where it is this one; the others keep theirs
abbrev pub DropsPlace : ℕ → ℕ → ObjectPlaces → ObjectPlaces → Type 0
DropsPlace object place old new =
    (n : ℕ) → place_in new n ≡ (if object == n && is_place place (place_in old n) then None else place_in old n)

-- an object that has a place gets this one; the others keep theirs
abbrev pub Moves : ℕ → ℕ → ObjectPlaces → ObjectPlaces → Type 0
Moves object place old new =
    (n : ℕ) → place_in new n ≡ (if object == n && has_place old n then Some place else place_in old n)

-- an object loses its place; the others keep theirs
abbrev pub Forgets : ℕ → ObjectPlaces → ObjectPlaces → Type 0
Forgets object old new = (n : ℕ) → place_in new n ≡ (if object == n then None else place_in old n)

-- each object has the place of its first entry, and no other object has one
abbrev pub IsAt : List Entry → ObjectPlaces → Type 0
IsAt es at' = (n : ℕ) → place_in at' n ≡ entry_place n es

-- some objects lose their places
abbrev pub Loses : (ℕ → Bool) → ObjectPlaces → ObjectPlaces → Type 0
Loses goes old new = (n : ℕ) → place_in new n ≡ (if goes n then None else place_in old n)

-- each object has the place of its first entry, or none
abbrev pub WereAt : List Entry → ObjectPlaces → Type 0
WereAt es at' = (n : ℕ) → (place_in at' n ≡ None) ⊎ (place_in at' n ≡ entry_place n es)

-- the entries whose objects have places
abbrev pub with_places : ObjectPlaces → List Entry → List Entry
with_places at' es = filter (λ e. has_place at' e.object) es

-- each object that has a place has that of its first entry among these, if it has one there
abbrev pub Renumbers : List Entry → ObjectPlaces → ObjectPlaces → Type 0
Renumbers es old new =
    (n : ℕ) → place_in new n ≡ (if has_place old n then option_or (entry_place n es) (place_in old n) else None)

-- ---- places by fingerprints

-- without the places of the objects that have no entry any more
abbrev pub KeepsPlaced : ℕ → ObjectPlaces → PlaceIndex → PlaceIndex → Type 0
KeepsPlaced print at' old new = (other : ℕ) →
    under new other ≡ (if print == other then filter (has_place at') (under old other) else under old other)

-- the objects of the entries whose keys have a fingerprint
abbrev pub places_with : ℕ → List Entry → List ℕ
places_with print es = map (λ e. e.object) (filter (λ e. fingerprint e.key == print) es)

-- it has the places of the entries, each under the fingerprint of the entry's key
abbrev pub IsOf : List Entry → PlaceIndex → Type 0
IsOf es index = (print : ℕ) → under index print ≡ places_with print es

-- what stays of an entry while it stands in a context
abbrev pub placed : Entry → ℕ × List Value
placed e = (e.object, e.key)

-- what stands under each fingerprint is what entered under it, each object has the place of its
-- first entry; and the entries to which undoing leads back are the first ones, but for their locks
-- and bases
pub record IsIndexed (list : Changes Entry) (kept : ℕ) (index : PlaceIndex) (at' : ObjectPlaces) : Type 0 where
  pub under_each : IsOf list.now index
  pub at_each : IsAt list.now at'
  pub kept_length : kept ≡ length list.since
  pub kept_front : take kept (map placed list.now) ≡ map placed list.since

-- What holds of each object of a set, and so of an index that has the values of each.
use Rattle.std.specs.Prelude.{◌≡◌, Some}
use Rattle.jpa_value.specs.declared.value.Identity.{Identity}
use Rattle.jpa_stored.specs.declared.objects.stored.Stored.{Stored}
use Rattle.jpa_stored.specs.objects.Sets.{StoredSet, stored_at}
use Rattle.jpa_stored.specs.ordered.Values.{Indexed, HasEntries}

-- this holds of each object of a set, under its identity
abbrev pub HoldsOf : (Identity → Stored → Type 0) → StoredSet → Type 0
HoldsOf P s = (id : Identity) (x : Stored) → stored_at s id ≡ Some x → P id x

-- an index has for each object of a set an entry in each column of its class
abbrev pub HaveEntries : StoredSet → Indexed → Type 0
HaveEntries s v = HoldsOf (HasEntries v) s

-- whichever object had its entries has them still
abbrev pub KeepsEntries : Indexed → Indexed → Type 0
KeepsEntries old new = (id : Identity) (x : Stored) → HasEntries old id x → HasEntries new id x

-- Objects of a set that are found by what they have in a member.
use Rattle.std.specs.Prelude.{◌≡◌, ℕ, Bool, true, ◌&&◌, List, [], ◌∷◌, map, filter, Option, Some, None}
use Rattle.std.specs.Borrow.{Bor}
use Rattle.std.specs.List.{list_any, flat_map}
use Rattle.std.specs.declared.cmp.Ordering.{Ordering}
use Rattle.jpa_value.specs.declared.value.Identity.{Identity}
use Rattle.jpa_value.specs.Value.{identity_cmp, same_identity}
use Rattle.jpa_model.specs.declared.unit.Member.{Member}
use Rattle.jpa_model.specs.declared.unit.PersistenceUnit.{PersistenceUnit}
use Rattle.jpa_model.specs.Chains.{is_kind_of}
use Rattle.jpa_stored.specs.declared.objects.stored.Stored.{Stored}
use Rattle.jpa_stored.specs.objects.Sets.{StoredSet, stored_at}
use Rattle.jpa_stored.specs.declared.ordered.cut.Span.{Span}
use Rattle.jpa_stored.specs.ordered.Values.{lies_in_any}

-- whether an object is of the class or below it and lies in one of the spans of the member
abbrev pub is_valued : PersistenceUnit → ℕ → Member → List Span → Identity × Stored → Bool
is_valued m class member spans e = is_kind_of m (e.1).class class && lies_in_any member spans e

-- what stands under an identity, if it passes
abbrev pub passing : (Identity × Stored → Bool) → Identity → Option Stored → StoredSet
passing p id None = []
passing p id (Some x) = filter p ((id, x) ∷ [])

-- what stands under these identities and passes, in their order
abbrev pub passing_under : (Identity × Stored → Bool) → StoredSet → List Identity → StoredSet
passing_under p s ids = flat_map (λ id. passing p id (stored_at s id)) ids

-- the identity of each object of the set that passes is among these
abbrev pub AreAllThat : (Identity × Stored → Bool) → StoredSet → List Identity → Type 0
AreAllThat p s ids =
    (id : Identity) (x : Stored) → stored_at s id ≡ Some x → p (id, x) ≡ true → list_any (same_identity id) ids ≡ true

-- the identities of the objects that pass
abbrev pub ids_passing : (Identity × Stored → Bool) → StoredSet → List Identity
ids_passing p s = map (λ e. e.0) (filter p s)

-- the order of two identities where they stand
abbrev pub lent_cmp : Bor Identity → Bor Identity → Ordering
lent_cmp a b = identity_cmp a.now b.now

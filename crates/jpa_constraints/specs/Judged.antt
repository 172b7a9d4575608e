-- What is asked of a set where it was changed: what is required is there, links lead, no target is
-- shared.
use Rattle.std.specs.Prelude.{ℕ, Bool, true, false, not, ◌&&◌, ◌||◌, ◌==◌, List, [], ◌∷◌, Option, Some, None}
use Rattle.std.specs.List.{list_any, list_all, zip}
use Rattle.jpa_value.specs.declared.value.Identity.{Identity}
use Rattle.jpa_value.specs.declared.refusal.PersistenceFault.{PersistenceFault}
use Rattle.jpa_value.specs.Value.{same_identity}
use Rattle.jpa_model.specs.declared.unit.PersistenceUnit.{PersistenceUnit}
use Rattle.jpa_model.specs.declared.unit.Relation.{Relation}
use Rattle.jpa_model.specs.Chains.{attributes_of, relations_of}
use Rattle.jpa_stored.specs.declared.objects.stored.Stored.{Stored}
use Rattle.jpa_stored.specs.objects.Sets.{StoredSet, stored_at, values_there, links_there, is_of, one_to_one_column}
use Rattle.jpa_stored.specs.objects.Sets.{claims_at}
use Rattle.jpa_stored.specs.objects.Sets.{first_fault}
use Rattle.jpa_open.specs.Leads.{has_rival, leads_well, is_of_column}
use Rattle.jpa_constraints.specs.declared.change.Change.{Change}
use Rattle.jpa_constraints.specs.Changed.{class_at}

-- what stands there, if anything, passes
abbrev pub if_there : (Stored → Bool) → Option Stored → Bool
if_there f None = true
if_there f (Some x) = f x

-- ---- null

-- an object has its required values and links
abbrev pub has_required : PersistenceUnit → Stored → Bool
has_required m x = values_there (zip (attributes_of m x.class) x.values)
    && links_there (zip (relations_of m x.class) x.owned)

-- what stands where something was changed has what is required
abbrev pub fills : PersistenceUnit → StoredSet → Change → Bool
fills m s c = if_there (has_required m) (stored_at s c.id.now)

-- ---- reference

-- each identity that is owned in these relations leads to an object of the relation's target class
-- or below it
abbrev pub links_lead : PersistenceUnit → StoredSet → List (Relation × List Identity) → Bool
links_lead m s = list_all (λ p. list_all (λ id. is_of m (stored_at s id) (p.0).target) p.1)

-- the links of an object lead to objects of their targets
abbrev pub object_leads : PersistenceUnit → StoredSet → Stored → Bool
object_leads m s x = links_lead m s (zip (relations_of m x.class) x.owned)

-- nothing stood there, or an object of this class does still
abbrev pub keeps_class : Option ℕ → Option ℕ → Bool
keeps_class None now = true
keeps_class (Some class) None = false
keeps_class (Some class) (Some now) = class == now

-- what stands where something was changed leads well, and so does what leads there
abbrev pub leads : PersistenceUnit → StoredSet → Change → Bool
leads m s c = if_there (object_leads m s) (stored_at s c.id.now)
    && (keeps_class c.class_before (class_at s c.id.now) || leads_well m s c.id.now)

-- ---- unique

-- no identity is owned twice in the one-to-one relations of a column
abbrev pub ids_apart : ℕ → List Identity → List (Relation × List Identity) → Bool
ids_apart column [] ps = true
ids_apart column (id ∷ ids) ps =
    not (list_any (same_identity id) ids || list_any (λ p. is_of_column column p.0 && list_any (same_identity id) p.1)
    ps) && ids_apart column ids ps

-- no identity is owned twice in the column of a one-to-one relation
abbrev pub link_apart : Option ℕ → List Identity → List (Relation × List Identity) → Bool
link_apart None ids ps = true
link_apart (Some column) ids ps = ids_apart column ids ps

-- no identity is owned twice in one one-to-one relation of an object
abbrev pub links_apart : List (Relation × List Identity) → Bool
links_apart [] = true
links_apart (p ∷ ps) = link_apart (one_to_one_column (p.0).side) p.1 ps && links_apart ps

-- no other object claims what the owner claims in these relations
abbrev pub links_alone : PersistenceUnit → StoredSet → Identity → List (Relation × List Identity) → Bool
links_alone m s owner =
    list_all (λ p. list_all (λ claim. not (has_rival m s claim owner))
    (claims_at owner.table (one_to_one_column (p.0).side) p.1))

-- an object shares no target of its one-to-one relations
abbrev pub object_alone : PersistenceUnit → StoredSet → Identity → Stored → Bool
object_alone m s id x = let ps = zip (relations_of m x.class) x.owned in links_apart ps && links_alone m s id ps

-- what stands where something was changed shares no target
abbrev pub is_alone : PersistenceUnit → StoredSet → Change → Bool
is_alone m s c = if_there (object_alone m s c.id.now) (stored_at s c.id.now)

-- ---- the first part that fails where something was changed

-- the first part of soundness that fails where something was changed, if one does
abbrev pub fault_at : PersistenceUnit → StoredSet → List Change → Option PersistenceFault
fault_at m s changes =
    first_fault (list_all (fills m s) changes) (list_all (leads m s) changes) (list_all (is_alone m s) changes)

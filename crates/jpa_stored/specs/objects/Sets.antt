-- Sets of stored objects: a finite map from identities to stored objects, as its entries in rising
-- order of the identities.
use Rattle.std.specs.Prelude.{◌≡◌, ℕ, ℤ, Bool, true, false, not, nat_lt, ◌&&◌, ◌==◌, List, [], ◌∷◌, length, map}
use Rattle.std.specs.Prelude.{slice_index_or, Option, Some, None, if◌then◌else◌}
use Rattle.std.specs.List.{flat_map, filter, list_any, list_all, zip}
use Rattle.std.specs.FinMap.Entries.{find, put, where_key}
use Rattle.jpa_value.specs.declared.value.Value.{Value}
use Rattle.jpa_value.specs.declared.value.Identity.{Identity}
use Rattle.jpa_value.specs.declared.refusal.PersistenceFault.{PersistenceFault}
use Rattle.jpa_value.specs.Value.{identity_cmp, same_identity, is_null, fits}
use Rattle.std.specs.Ordering.{is_lt, is_eq, nat_cmp, ordering_then}
use Rattle.std.specs.declared.cmp.Ordering.{Ordering}
use Rattle.jpa_model.specs.declared.unit.Root.{Root}
use Rattle.jpa_model.specs.declared.unit.VersionColumn.{VersionColumn}
use Rattle.jpa_model.specs.declared.unit.PersistenceUnit.{PersistenceUnit}
use Rattle.jpa_model.specs.declared.unit.Attribute.{Attribute}
use Rattle.jpa_model.specs.declared.unit.Column.{Column}
use Rattle.jpa_model.specs.declared.unit.Side.{Side}
use Rattle.jpa_model.specs.declared.unit.Relation.{Relation}
use Rattle.jpa_model.specs.Chains.{attributes_of, relations_of, relation_at, is_kind_of, is_held_by, root_of, owner_of}
use Rattle.jpa_model.specs.Chains.{column_of}
use Rattle.jpa_stored.specs.declared.objects.claims.Claim.{Claim}
use Rattle.jpa_stored.specs.declared.objects.stored.Stored.{Stored}

-- a set of stored objects: identities, rising, each with its object
abbrev pub StoredSet : Type 0
StoredSet = List (Identity × Stored)

-- what stands under the identity, if anything
abbrev pub stored_at : StoredSet → Identity → Option Stored
stored_at s id = find identity_cmp id s

-- a set with an object put under an identity
abbrev pub with_stored : Identity → Stored → StoredSet → StoredSet
with_stored id x s = put identity_cmp id x s

-- the objects put into a set, one after another
abbrev pub put_all : List (Identity × Stored) → StoredSet → StoredSet
put_all [] set = set
put_all (e ∷ es) set = put_all es (with_stored e.0 e.1 set)

-- a set without some identities
abbrev pub without : List Identity → StoredSet → StoredSet
without ids s = where_key identity_cmp (λ id. not (list_any (same_identity id) ids)) s

-- the identities that an object owns in a relation
abbrev pub owned_at : Stored → ℕ → List Identity
owned_at x r = slice_index_or x.owned r []

-- those of the class or a subclass whose relation leads to the identity, rising
abbrev pub leading_to : PersistenceUnit → StoredSet → ℕ → ℕ → Identity → List Identity
leading_to m s class owner id =
    map (λ e. e.0) (filter (λ e. is_kind_of m (e.1).class class && list_any (same_identity id) (owned_at e.1 owner)) s)

-- the identities that an object holds in a relation
abbrev pub members_by : PersistenceUnit → StoredSet → Identity → Stored → ℕ → ℕ → Option ℕ → List Identity
members_by m s id x r target None = owned_at x r
members_by m s id x r target (Some owner) = leading_to m s target owner id

-- the identities that an object holds in a relation of its class (chapter 2.9)
abbrev pub members : PersistenceUnit → StoredSet → Identity → Stored → ℕ → List Identity
members m s id x r =
    let relation = relation_at m x.class r in members_by m s id x r relation.target (owner_of relation.side)

-- what an identity holds in the relation at place r of the class; nothing where it is not in the
-- set or of a class without that relation
abbrev pub members_of : PersistenceUnit → StoredSet → ℕ → Identity → Option Stored → ℕ → List Identity
members_of m s class id None r = []
members_of m s class id (Some x) r = if is_held_by m class r x.class then members m s id x r else []

-- ---- soundness, in three parts

-- whether there is a column, which is required
abbrev pub is_required : Option Column → Bool
is_required None = false
is_required (Some c) = c.required

-- required values and links are there
abbrev pub values_there : List (Attribute × Value) → Bool
values_there = list_all (λ p. not ((p.0).required && is_null p.1))

-- whether a list of identities is empty
abbrev pub is_empty : List Identity → Bool
is_empty [] = true
is_empty (x ∷ xs) = false

-- each required link leads to an identity
abbrev pub links_there : List (Relation × List Identity) → Bool
links_there = list_all (λ p. not (is_required (column_of (p.0).side) && is_empty p.1))

-- no object of a set lacks a required value or link
abbrev pub no_required_null : PersistenceUnit → StoredSet → Bool
no_required_null m s =
    list_all (λ e. values_there (zip (attributes_of m (e.1).class) (e.1).values)
    && links_there (zip (relations_of m (e.1).class) (e.1).owned)) s

-- an object of the class or a subclass stands under the identity
abbrev pub is_of : PersistenceUnit → Option Stored → ℕ → Bool
is_of m None class = false
is_of m (Some x) class = is_kind_of m x.class class

-- each link and each pair leads to an object of the relation's target class or a subclass
abbrev pub all_lead : PersistenceUnit → StoredSet → Bool
all_lead m s = list_all (λ e. list_all (λ p. list_all (λ id. is_of m (stored_at s id) (p.0).target) p.1)
    (zip (relations_of m (e.1).class) (e.1).owned)) s

-- the targets owned in oneToOne relations, each with the table and the column of the relation
abbrev pub one_to_one_column : Side → Option ℕ
one_to_one_column (Side.ManyToOne c) = None
one_to_one_column (Side.OneToOne c) = Some c.column
one_to_one_column (Side.OneToOneInverse owner) = None
one_to_one_column (Side.OneToMany owner) = None
one_to_one_column (Side.ManyToMany table) = None
one_to_one_column (Side.ManyToManyInverse owner) = None

-- the claims of a one-to-one relation with this column, one for each target
abbrev pub claims_at : ℕ → Option ℕ → List Identity → List Claim
claims_at table None ids = []
claims_at table (Some column) ids = map (λ id. record { table = table; column = column; target = id }) ids

-- the claims of a set: the targets that objects own in one-to-one relations (chapter 2.9)
abbrev pub claims : PersistenceUnit → StoredSet → List Claim
claims m s = flat_map (λ e. flat_map (λ p. claims_at (e.0).table (one_to_one_column (p.0).side) p.1)
    (zip (relations_of m (e.1).class) (e.1).owned)) s

-- by table, then by column, then by target
abbrev pub claim_cmp : Claim → Claim → Ordering
claim_cmp a b = ordering_then (nat_cmp a.table b.table)
    (ordering_then (nat_cmp a.column b.column) (identity_cmp a.target b.target))

-- whether two claims are the same
abbrev pub same_claim : Claim → Claim → Bool
same_claim a b = is_eq (claim_cmp a b)

-- whether no two elements of a list are the same by a test
abbrev pub all_distinct : {A : Type 0} → (A → A → Bool) → List A → Bool
all_distinct eq [] = true
all_distinct eq (x ∷ xs) = not (list_any (eq x) xs) && all_distinct eq xs

-- no two objects own the same target in one oneToOne relation
abbrev pub no_shared_target : PersistenceUnit → StoredSet → Bool
no_shared_target m s = all_distinct same_claim (claims m s)

-- the first part that fails
abbrev pub first_fault : Bool → Bool → Bool → Option PersistenceFault
first_fault false b c = Some PersistenceFault.Null
first_fault true false c = Some PersistenceFault.Reference
first_fault true true false = Some PersistenceFault.Unique
first_fault true true true = None

-- the first part of soundness that fails, if one does
abbrev pub fault_of : PersistenceUnit → StoredSet → Option PersistenceFault
fault_of m s = first_fault (no_required_null m s) (all_lead m s) (no_shared_target m s)

-- a set is sound: no part of soundness fails
abbrev pub IsSound : PersistenceUnit → StoredSet → Type 0
IsSound m s = fault_of m s ≡ None

-- ---- the shape of a stored object: what its class says of the lengths of its lists and of the
-- kinds in them

-- whether two lists are of one length, and their elements fit in pairs
abbrev pub each_fits : {A B : Type 0} → (A → B → Bool) → List A → List B → Bool
each_fits ok [] [] = true
each_fits ok [] (y ∷ ys) = false
each_fits ok (x ∷ xs) [] = false
each_fits ok (x ∷ xs) (y ∷ ys) = ok x y && each_fits ok xs ys

-- a key has one value for each part, of its kind and not null (chapter 2.4)
abbrev pub is_key_of : Root → List Value → Bool
is_key_of root key = each_fits (λ part v. fits part.kind v && not (is_null v)) root.key key

-- an identity of the hierarchy
abbrev pub is_identity_of : Root → Identity → Bool
is_identity_of root id = (id.table == root.table) && is_key_of root id.key

-- whether there is at most one identity
abbrev pub is_at_most_one : List Identity → Bool
is_at_most_one [] = true
is_at_most_one (x ∷ []) = true
is_at_most_one (x ∷ y ∷ ys) = false

-- strictly rising, so each once
abbrev pub is_below : Identity → List Identity → Bool
is_below x [] = true
is_below x (y ∷ ys) = is_lt (identity_cmp x y)

-- whether identities rise strictly
abbrev pub is_rising : List Identity → Bool
is_rising [] = true
is_rising (x ∷ xs) = is_below x xs && is_rising xs

-- how many identities a side may own: at most one, a rising list, or none
abbrev pub owns_as : Side → List Identity → Bool
owns_as (Side.ManyToOne c) ids = is_at_most_one ids
owns_as (Side.OneToOne c) ids = is_at_most_one ids
owns_as (Side.OneToOneInverse owner) ids = is_empty ids
owns_as (Side.OneToMany owner) ids = is_empty ids
owns_as (Side.ManyToMany table) ids = is_rising ids
owns_as (Side.ManyToManyInverse owner) ids = is_empty ids

-- what an object owns in a relation: as the side may, with keys of the target's hierarchy
abbrev pub owns_well : PersistenceUnit → Relation → List Identity → Bool
owns_well m r ids = owns_as r.side ids && list_all (is_identity_of (root_of m r.target)) ids

-- there is a version just where the hierarchy has one
abbrev pub version_there : Option VersionColumn → Option ℤ → Bool
version_there None None = true
version_there None (Some n) = false
version_there (Some c) None = false
version_there (Some c) (Some n) = true

-- of a class of the metamodel: where a number names none, the look-ups answer a blank
abbrev pub is_shaped : PersistenceUnit → Identity → Stored → Bool
is_shaped m id x =
    nat_lt x.class (length m.entities)
    && (is_identity_of (root_of m x.class) id
    && (version_there (root_of m x.class).version x.version
    && (each_fits (λ a v. fits a.kind v) (attributes_of m x.class) x.values
    && each_fits (owns_well m) (relations_of m x.class) x.owned)))

-- each object of a set has the shape of its class
abbrev pub all_shaped : PersistenceUnit → StoredSet → Bool
all_shaped m s = list_all (λ e. is_shaped m e.0 e.1) s

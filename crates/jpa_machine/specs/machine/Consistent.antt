-- What holds of the work of a manager. The objects have the shape of their classes. The context and
-- the states of objects agree. Each identity has one instance in a context. A store can hold the
-- set that is seen.
use Rattle.jpa_value.specs.Limits.{most_objects}
use Rattle.std.specs.Prelude.{◌≡◌, ◌≢◌, ◌<◌, ◌≤◌, ℕ, ℤ, Bool, true, false, not, nat_lt, nat_le, ◌&&◌, ◌==◌, List}
use Rattle.std.specs.Prelude.{length, Option, Some, None, if◌then◌else◌}
use Rattle.std.specs.List.{All, list_any, list_all}
use Rattle.jpa_value.specs.declared.value.Identity.{Identity}
use Rattle.jpa_value.specs.Value.{fits, same_identity, is_representable}
use Rattle.jpa_model.specs.declared.unit.PersistenceUnit.{PersistenceUnit}
use Rattle.jpa_model.specs.declared.unit.Relation.{Relation}
use Rattle.jpa_model.specs.declared.unit.VersionColumn.{VersionColumn}
use Rattle.jpa_model.specs.Chains.{attributes_of, relations_of, root_of, root_class, is_to_one}
use Rattle.jpa_behaviour.specs.Behaviour.{World}
use Rattle.jpa_stored.specs.objects.Sets.{each_fits, all_distinct, is_key_of, is_identity_of, is_rising, is_shaped}
use Rattle.jpa_rows.specs.rows.Cells.{CanBeHeld, are_numbers, key_given_by, version_representable, holds_representable}
use Rattle.jpa_rows.specs.rows.Cells.{names_representable}
use Rattle.jpa_work.specs.declared.heap.Link.{Link}
use Rattle.jpa_work.specs.declared.heap.Collection.{Collection}
use Rattle.jpa_work.specs.declared.heap.Held.{Held}
use Rattle.jpa_work.specs.declared.heap.Life.{Life}
use Rattle.jpa_work.specs.declared.heap.LiveObject.{LiveObject}
use Rattle.jpa_work.specs.heap.Objects.{object_at}
use Rattle.jpa_work.specs.declared.context.Base.{Base}
use Rattle.jpa_work.specs.declared.context.Entry.{Entry}
use Rattle.jpa_work.specs.context.Work.{Work, object}

-- ---- live objects

-- an object within the heap, of the table of the relation's target
abbrev pub leads_to : PersistenceUnit → List LiveObject → ℕ → ℕ → Bool
leads_to m objects target k =
    nat_lt k (length objects) && ((root_of m (object_at objects k).class).table == (root_of m target).table)

-- a link leads nowhere, to an object of the target's table, or to an identity of its hierarchy
abbrev pub link_fits : PersistenceUnit → List LiveObject → ℕ → Link → Bool
link_fits m objects target Link.None = true
link_fits m objects target (Link.Object k) = leads_to m objects target k
link_fits m objects target (Link.Key id) = is_identity_of (root_of m target) id

-- a collection was not read, or has objects of the target's table alone
abbrev pub collection_fits : PersistenceUnit → List LiveObject → ℕ → Collection → Bool
collection_fits m objects target Collection.Unfetched = true
collection_fits m objects target (Collection.Fetched ks) = list_all (leads_to m objects target) ks

-- a to-one relation holds a link, any other a collection
abbrev pub held_fits : PersistenceUnit → List LiveObject → Relation → Held → Bool
held_fits m objects r (Held.One l) = is_to_one r.side && link_fits m objects r.target l
held_fits m objects r (Held.Many c) = not (is_to_one r.side) && collection_fits m objects r.target c

-- a relation that was not read names an identity of the program's values
abbrev pub held_representable : Held → Bool
held_representable (Held.One Link.None) = true
held_representable (Held.One (Link.Object k)) = true
held_representable (Held.One (Link.Key id)) = names_representable id
held_representable (Held.Many c) = true

-- no version where the class has none
abbrev pub version_fits : Option VersionColumn → Option ℤ → Bool
version_fits None None = true
version_fits None (Some n) = false
version_fits (Some c) version = true

-- a live object has what its class says; parts of its key may be null
pub record IsLive (m : PersistenceUnit) (objects : List LiveObject) (x : LiveObject) : Type 0 where
  pub class : nat_lt x.class (length m.entities) ≡ true
  pub key : each_fits (λ part v. fits part.kind v) (root_of m x.class).key x.key ≡ true
  pub version : version_fits (root_of m x.class).version x.version ≡ true
  pub values : each_fits (λ a v. fits a.kind v) (attributes_of m x.class) x.values ≡ true
  pub relations : each_fits (held_fits m objects) (relations_of m x.class) x.relations ≡ true
  pub key_representable : list_all is_representable x.key ≡ true
  pub version_representable : version_representable x.version ≡ true
  pub values_representable : list_all is_representable x.values ≡ true
  pub links_representable : list_all held_representable x.relations ≡ true

-- ---- entries of a context

-- whether an object is managed or removed for a manager
abbrev pub is_held_by : ℕ → Life → Bool
is_held_by manager Life.New = false
is_held_by manager (Life.Managed k) = k == manager
is_held_by manager (Life.Removed k) = k == manager
is_held_by manager Life.Detached = false

-- the identity of an object whose key is whole
abbrev pub name_of : PersistenceUnit → LiveObject → Identity
name_of m x = record { table = (root_of m x.class).table; key = x.key }

-- what a base knows of a relation: a to-one's identity always; each identity once, rising
abbrev pub known_fits : Relation → Option (List Identity) → Bool
known_fits r None = not (is_to_one r.side)
known_fits r (Some ids) = is_rising ids

-- the base is of the object's class, and stood under its identity
abbrev pub base_fits : PersistenceUnit → LiveObject → Option Base → Bool
base_fits m x None = true
base_fits m x (Some b) =
    ((b.stored).class == x.class)
    && (is_shaped m (name_of m x) b.stored
    && (holds_representable b.stored
    && each_fits known_fits (relations_of m x.class) b.members))

-- an entry names an object that the manager holds, with the key under which it entered, a whole key
-- of its hierarchy; a generated key was given
pub record IsEntry (m : PersistenceUnit) (objects : List LiveObject) (numbers : List ℕ) (manager : ℕ)
    (e : Entry) : Type 0 where
  pub within : e.object < length objects
  pub keyed : (object_at objects e.object).key ≡ e.key
  pub held : is_held_by manager (object_at objects e.object).life ≡ true
  pub whole : is_key_of (root_of m (object_at objects e.object).class) (object_at objects e.object).key ≡ true
  pub given : key_given_by numbers (root_class m (object_at objects e.object).class)
      (root_of m (object_at objects e.object).class).generated (object_at objects e.object).key ≡ true
  pub base : base_fits m (object_at objects e.object) e.base ≡ true

-- whether the objects of two entries have one identity
abbrev pub are_one : PersistenceUnit → List LiveObject → Entry → Entry → Bool
are_one m objects a b = same_identity (name_of m (object_at objects a.object)) (name_of m (object_at objects b.object))

-- an object that a manager holds stands in that manager's context
abbrev pub stands_in : (ℕ → List Entry) → ℕ → Life → Bool
stands_in context n Life.New = true
stands_in context n (Life.Managed k) = list_any (λ e. e.object == n) (context k)
stands_in context n (Life.Removed k) = list_any (λ e. e.object == n) (context k)
stands_in context n Life.Detached = true

-- ---- a context

-- the entries are entries, and of different identities
pub record IsContext (m : PersistenceUnit) (objects : List LiveObject) (numbers : List ℕ) (manager : ℕ)
    (es : List Entry) : Type 0 where
  pub entries : All (IsEntry m objects numbers manager) es
  pub distinct : all_distinct (are_one m objects) es ≡ true

-- ---- a manager at work

-- beside it: the other managers with their contexts, and the next numbers as they were before
pub record Others : Type 0 where
  pub count : ℕ
  pub context : ℕ → List Entry
  pub numbers : List ℕ

-- the contexts then: its own as the work has it
abbrev pub contexts : Others → ℕ → Work → ℕ → List Entry
contexts M m w k = if k == m then w.context else M.context k

-- what holds of a manager at work, beside the others
pub record IsConsistent (world : World) (M : Others) (m : ℕ) (w : Work) : Type 0 where
  pub manager : w.manager ≡ m
  pub objects : All (IsLive world.model w.objects) w.objects
  pub entries : All (IsEntry world.model w.objects w.numbers m) w.context
  pub distinct : all_distinct (are_one world.model w.objects) w.context ≡ true
  pub others : (k : ℕ) → k < M.count → k ≢ m → IsContext world.model w.objects w.numbers k (M.context k)
  pub placed : (n : ℕ) → n < length w.objects → stands_in (contexts M m w) n (object w n).life ≡ true
  pub view : CanBeHeld world w.view w.numbers
  pub numbered : are_numbers world.model w.numbers ≡ true
  pub raised : each_fits nat_le M.numbers w.numbers ≡ true
  pub few : length w.objects ≤ most_objects

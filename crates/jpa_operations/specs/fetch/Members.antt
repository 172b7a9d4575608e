-- What get, set, add and take_out do (Jakarta Persistence 3.1, chapters 2.2: an object's state is
-- read and changed through its members, 2.2.2: its collections, and 3.2.7: what of a detached
-- object was not read stays unread).
use Rattle.std.specs.Prelude.{ℕ, ◌<◌, All, Bool, true, false, ◌==◌, List, [], ◌∷◌, ◌++◌, slice_index_or, slice_set}
use Rattle.std.specs.Prelude.{Option, Some, None, Result, Ok, Err, if◌then◌else◌}
use Rattle.std.specs.List.{list_any}
use Rattle.jpa_value.specs.declared.value.Value.{Value}
use Rattle.jpa_value.specs.declared.value.Identity.{Identity}
use Rattle.jpa_value.specs.declared.refusal.Cause.{Cause}
use Rattle.jpa_value.specs.declared.refusal.Argument.{Argument}
use Rattle.jpa_value.specs.declared.refusal.State.{State}
use Rattle.jpa_model.specs.declared.unit.PersistenceUnit.{PersistenceUnit}
use Rattle.jpa_model.specs.declared.unit.Member.{Member}
use Rattle.jpa_model.specs.Chains.{relation_at, is_to_one, member_of}
use Rattle.jpa_behaviour.specs.Behaviour.{World}
use Rattle.jpa_work.specs.declared.heap.Link.{Link}
use Rattle.jpa_work.specs.declared.heap.Collection.{Collection}
use Rattle.jpa_work.specs.declared.heap.Held.{Held}
use Rattle.jpa_work.specs.declared.heap.LiveObject.{LiveObject}
use Rattle.jpa_work.specs.declared.heap.Handed.{Handed}
use Rattle.jpa_work.specs.heap.Objects.{held_at, with_held, version_value}
use Rattle.jpa_work.specs.heap.Assign.{fits_link, set_in}
use Rattle.jpa_work.specs.declared.context.Base.{Base}
use Rattle.jpa_work.specs.declared.context.EntityState.{EntityState}
use Rattle.jpa_work.specs.context.Work.{Work, object, state_of, with_object, with_entry}
use Rattle.jpa_work.specs.context.Steps.{◌>>=◌, ◌>>◌, Op, Done, Refused, after, give, refuse, require, read, change}
use Rattle.jpa_cascade.specs.Waves.{members_now}
use Rattle.jpa_operations.specs.declared.fetch.getting.Got.{Got}
use Rattle.jpa_operations.specs.fetch.Load.{reach}

-- ---- what is not read yet is read

-- an unread relation is read by the manager that holds the object
abbrev pub is_held : EntityState → Bool
is_held EntityState.New = false
is_held EntityState.Managed = true
is_held EntityState.Removed = true
is_held EntityState.Detached = false

-- a work in which an object holds this in a relation
abbrev pub with_relation : ℕ → ℕ → Held → Work → Work
with_relation n r h w = with_object n (with_held (object w n) r h) w

-- a to-one relation, resolved
abbrev pub resolve_link : World → ℕ → ℕ → Held → Op (Option ℕ)
resolve_link world n r (Held.One Link.None) = give None
resolve_link world n r (Held.One (Link.Object k)) = give (Some k)
resolve_link world n r (Held.One (Link.Key id)) = do
  held ← read (λ w. is_held (state_of w n))
  require held (Cause.IllegalState State.Unfetched)
  k ← reach world Cause.EntityNotFound id
  change (with_relation n r (Held.One (Link.Object k)))
  give (Some k)
resolve_link world n r (Held.Many c) = give None

-- the object that a to-one relation leads to, read where it was not read
abbrev pub resolve : World → ℕ → ℕ → Op (Option ℕ)
resolve world n r w = resolve_link world n r (held_at (object w n) r) w

-- in order, with the answers in order
abbrev pub collect : {A B : Type 0} → (A → Op B) → List A → Op (List B)
collect f [] w = Done [] w
collect f (x ∷ xs) w = after (f x w) (λ y v. after (collect f xs v) (λ ys u. Done (y ∷ ys) u))

-- a base that remembers these members of a relation, where there is a base
abbrev pub with_members : ℕ → List Identity → Option Base → Option Base
with_members r ids None = None
with_members r ids (Some b) = Some (record b { members = slice_set b.members r (Some ids) })

-- the base takes these as what the relation held when it was last read
abbrev pub with_read : ℕ → ℕ → List Identity → Work → Work
with_read n r ids w = with_entry n (λ e. record e { base = with_members r ids e.base }) w

-- a collection, fetched
abbrev pub fetch_held : World → ℕ → ℕ → Held → Op (List ℕ)
fetch_held world n r (Held.Many (Collection.Fetched ks)) = give ks
fetch_held world n r (Held.Many Collection.Unfetched) = do
  held ← read (λ w. is_held (state_of w n))
  require held (Cause.IllegalState State.Unfetched)
  ids ← read (λ w. members_now world.model w n r)
  ks ← collect (reach world Cause.EntityNotFound) ids
  change (λ w. with_read n r ids (with_relation n r (Held.Many (Collection.Fetched ks)) w))
  give ks
fetch_held world n r (Held.One l) = give []

-- the members of a collection, read where they were not read
abbrev pub fetch : World → ℕ → ℕ → Op (List ℕ)
fetch world n r w = fetch_held world n r (held_at (object w n) r) w

-- ---- get

-- the value of a member that is no relation
abbrev pub value_of : LiveObject → Member → Value
value_of x (Member.KeyPart i) = slice_index_or x.key i Value.Null
value_of x Member.Version = version_value x.version
value_of x (Member.Attribute i) = slice_index_or x.values i Value.Null
value_of x (Member.Relation r) = Value.Null

-- what get answers of a to-one relation: an object or null
abbrev pub got_link : Option ℕ → Got
got_link None = Got.Scalar Value.Null
got_link (Some k) = Got.One k

-- what get answers of a relation, to one object or to many
abbrev pub get_relation : World → ℕ → ℕ → Bool → Op Got
get_relation world n r true = do
  k ← resolve world n r
  give (got_link k)
get_relation world n r false = do
  ks ← fetch world n r
  give (Got.Many ks)

-- what get answers of a member; without one the name is refused
abbrev pub get_member : World → ℕ → Option Member → Op Got
get_member world n None = refuse (Cause.IllegalArgument Argument.Name)
get_member world n (Some (Member.KeyPart i)) = read (λ w. Got.Scalar (value_of (object w n) (Member.KeyPart i)))
get_member world n (Some Member.Version) = read (λ w. Got.Scalar (value_of (object w n) Member.Version))
get_member world n (Some (Member.Attribute i)) = read (λ w. Got.Scalar (value_of (object w n) (Member.Attribute i)))
get_member world n (Some (Member.Relation r)) = do
  to_one ← read (λ w. is_to_one (relation_at world.model (object w n).class r).side)
  get_relation world n r to_one

-- the member of an object by its name
abbrev pub member_named : World → ℕ → List ℕ → Op (Option Member)
member_named world n name = read (λ w. member_of world.model (object w n).class name)

-- what an object holds in the member of this name
abbrev pub get : World → ℕ → List ℕ → Op Got
get world n name = do
  member ← member_named world n name
  get_member world n member

-- ---- set

-- the object takes the place of what stood there
abbrev pub placed : ℕ → Result LiveObject Cause → Op (Unit {0})
placed n (Ok x) w = Done tt (with_object n x w)
placed n (Err r) w = Refused r w.events

-- a member of an object, by its name, takes what was handed in
abbrev pub set : World → ℕ → List ℕ → Handed → Op (Unit {0})
set world n name v w = placed n (set_in world.model w.objects n name v) w

-- ---- add and take_out

-- the relation at which a class has a collection of this name
abbrev pub collection_in : PersistenceUnit → ℕ → Option Member → Option ℕ
collection_in m class None = None
collection_in m class (Some (Member.KeyPart i)) = None
collection_in m class (Some Member.Version) = None
collection_in m class (Some (Member.Attribute i)) = None
collection_in m class (Some (Member.Relation r)) = if is_to_one (relation_at m class r).side then None else Some r

-- the collection with what it holds, once it is read; the other object is to be one of its kind
abbrev pub read_for : World → ℕ → ℕ → Option ℕ → Op (ℕ × List ℕ)
read_for world n k None = refuse (Cause.IllegalArgument Argument.Name)
read_for world n k (Some r) = do
  fit ← read (λ w. fits_link world.model w.objects (relation_at world.model (object w n).class r).target
      (Handed.Object k))
  require fit (Cause.IllegalArgument Argument.Type)
  ks ← fetch world n r
  give (r, ks)

-- the collection of that name, read, with its place
abbrev pub read_named : World → ℕ → List ℕ → ℕ → Op (ℕ × List ℕ)
read_named world n name k = do
  r ← read (λ w. collection_in world.model (object w n).class (member_of world.model (object w n).class name))
  read_for world n k r

-- the object stands last in the collection
abbrev pub add : World → ℕ → List ℕ → ℕ → Op (Unit {0})
add world n name k = do
  c ← read_named world n name k
  change (with_relation n c.0 (Held.Many (Collection.Fetched (c.1 ++ k ∷ []))))

-- a list without the first place at which an object stands
abbrev pub without_first : ℕ → List ℕ → List ℕ
without_first k [] = []
without_first k (x ∷ xs) = if x == k then xs else x ∷ without_first k xs

-- the first place at which the object stands goes; whether there was one
abbrev pub take_out : World → ℕ → List ℕ → ℕ → Op Bool
take_out world n name k = do
  c ← read_named world n name k
  change (with_relation n c.0 (Held.Many (Collection.Fetched (without_first k c.1))))
  give (list_any (λ x. x == k) c.1)

-- ---- what is answered

-- the objects that are answered stand in the heap
abbrev pub IsGotWithin : ℕ → Got → Type 0
IsGotWithin count (Got.Scalar v) = Unit {0}
IsGotWithin count (Got.One k) = k < count
IsGotWithin count (Got.Many ks) = All (λ k. k < count) ks

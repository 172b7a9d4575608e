-- Loading an object, and finding one (Jakarta Persistence 3.1, chapters 3.1.1 find and 3.5
-- PostLoad).
use Rattle.jpa_value.specs.Limits.{most_objects}
use Rattle.std.specs.Prelude.{ℕ, Bool, true, false, not, nat_lt, ◌&&◌, List, [], ◌∷◌, ◌++◌, map, length, Option, Some}
use Rattle.std.specs.Prelude.{None, if◌then◌else◌}
use Rattle.std.specs.List.{enumerate_from}
use Rattle.jpa_value.specs.declared.value.Value.{Value}
use Rattle.jpa_value.specs.declared.value.Identity.{Identity}
use Rattle.jpa_value.specs.declared.refusal.Cause.{Cause}
use Rattle.jpa_model.specs.declared.unit.PersistenceUnit.{PersistenceUnit}
use Rattle.jpa_value.specs.declared.event.LifecycleEvent.{LifecycleEvent}
use Rattle.jpa_behaviour.specs.Behaviour.{World}
use Rattle.jpa_stored.specs.declared.objects.stored.Stored.{Stored}
use Rattle.jpa_work.specs.declared.heap.Link.{Link}
use Rattle.jpa_work.specs.declared.heap.Collection.{Collection}
use Rattle.jpa_work.specs.declared.heap.Held.{Held}
use Rattle.jpa_work.specs.declared.heap.Life.{Life}
use Rattle.jpa_work.specs.declared.heap.LiveObject.{LiveObject}
use Rattle.jpa_work.specs.declared.context.Base.{Base}
use Rattle.jpa_work.specs.context.Steps.{◌>>=◌, ◌>>◌, Op, give, refuse, require, read, change}
use Rattle.jpa_model.specs.Chains.{is_kind_of, relations_of, root_of, is_to_one}
use Rattle.jpa_stored.specs.objects.Sets.{StoredSet, members}
use Rattle.jpa_work.specs.context.Work.{Work, object, state_of, is_removed, instance, row, entered, with_base}
use Rattle.jpa_lifecycle.specs.Callbacks.{callback}

-- a to-one relation as it is loaded: not read yet
abbrev pub unread_link : List Identity → Link
unread_link [] = Link.None
unread_link (id ∷ ids) = Link.Key id

-- a relation as it is loaded: a to-one's link or none, or a collection that is not read
abbrev pub unread : Bool → List Identity → Held
unread true ids = Held.One (unread_link ids)
unread false ids = Held.Many Collection.Unfetched

-- what the base knows of a relation at a load: a to-one's identity
abbrev pub known : Bool → List Identity → Option (List Identity)
known true ids = Some ids
known false ids = None

-- what an object holds where its base knows this
abbrev pub held_from : Option (List Identity) → Held
held_from None = Held.Many Collection.Unfetched
held_from (Some ids) = Held.One (unread_link ids)

-- the relations of an object as it is loaded
abbrev pub held_loaded : PersistenceUnit → StoredSet → Identity → Stored → List Held
held_loaded m s id x =
    map (λ p. unread (is_to_one (p.1).side) (members m s id x p.0)) (enumerate_from 0 (relations_of m x.class))

-- a row as an object that a manager manages
abbrev pub object_loaded : PersistenceUnit → ℕ → StoredSet → Identity → Stored → LiveObject
object_loaded m manager s id x =
    record {
      class = x.class;
      key = id.key;
      version = x.version;
      values = x.values;
      relations = held_loaded m s id x;
      life = Life.Managed manager;
    }

-- what the base knows of each relation at a load
abbrev pub members_loaded : PersistenceUnit → StoredSet → Identity → Stored → List (Option (List Identity))
members_loaded m s id x =
    map (λ p. known (is_to_one (p.1).side) (members m s id x p.0)) (enumerate_from 0 (relations_of m x.class))

-- the base of an object that was loaded: its row, and what is known of its relations
abbrev pub base_loaded : PersistenceUnit → StoredSet → Identity → Stored → Base
base_loaded m s id x =
    record { stored = x; members = members_loaded m s id x }

-- one more object, at the end of the list
abbrev pub made : LiveObject → Work → Work
made x w = record w { objects = w.objects ++ x ∷ [] }

-- a row becomes an object of the context, which is its answer
abbrev pub load : World → Identity → Stored → Op ℕ
load world id x = do
  n ← read (λ w. length w.objects)
  require (nat_lt n most_objects) Cause.Limit
  change (λ w. with_base n (Some (base_loaded world.model w.view id x))
      (entered n (made (object_loaded world.model w.manager w.view id x) w)))
  callback world LifecycleEvent.PostLoad n
  give n

-- the instance of the context, else the row loaded, else the refusal
abbrev pub reached : World → Cause → Identity → Option ℕ → Option Stored → Op ℕ
reached world r id (Some n) x = give n
reached world r id None (Some x) = load world id x
reached world r id None None = refuse r

-- the object of an identity: the context's instance, else its row loaded, else a refusal
abbrev pub reach : World → Cause → Identity → Op ℕ
reach world r id w = reached world r id (instance world.model w id) (row w id) w

-- ---- find

-- the context's instance, unless it is removed or of another class
abbrev pub found_instance : PersistenceUnit → Work → ℕ → ℕ → Option ℕ
found_instance m w class n =
    if not (is_removed (state_of w n)) && is_kind_of m (object w n).class class then Some n else None

-- the row loaded as an object where its class is the one that is asked for, else nothing
abbrev pub found_row : World → ℕ → Identity → Stored → Bool → Op (Option ℕ)
found_row world class id x true = do
  n ← load world id x
  give (Some n)
found_row world class id x false = give None

-- what find answers: the context's instance, else the row loaded, else nothing
abbrev pub found : World → ℕ → Identity → Option ℕ → Option Stored → Op (Option ℕ)
found world class id (Some n) x = read (λ w. found_instance world.model w class n)
found world class id None (Some x) = found_row world class id x (is_kind_of world.model x.class class)
found world class id None None = give None

-- the context's instance, else the row loaded, else nothing; nothing for a removed one and for one
-- of another class
abbrev pub find : World → ℕ → List Value → Op (Option ℕ)
find world class key w =
    let id : Identity = record { table = (root_of world.model class).table; key = key } in
    found world class id (instance world.model w id) (row w id) w

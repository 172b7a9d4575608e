-- Live objects: how a new one is, its identity, and its members (Jakarta Persistence 3.1, chapters
-- 2.4 and 3.2).
use Rattle.std.specs.Prelude.{ℕ, zero, suc, ℤ, pos, negsuc, Bool, true, false, not, nat_lt, List, [], map}
use Rattle.std.specs.Prelude.{slice_index_or, slice_set, Option, Some, None, if◌then◌else◌}
use Rattle.std.specs.List.{list_all}
use Rattle.jpa_value.specs.declared.value.Value.{Value}
use Rattle.jpa_value.specs.declared.value.Identity.{Identity}
use Rattle.jpa_value.specs.Value.{is_null}
use Rattle.jpa_model.specs.declared.unit.PersistenceUnit.{PersistenceUnit}
use Rattle.jpa_model.specs.declared.unit.Member.{Member}
use Rattle.jpa_model.specs.Chains.{attributes_of, relations_of, root_of, is_to_one}
use Rattle.jpa_work.specs.declared.heap.Link.{Link}
use Rattle.jpa_work.specs.declared.heap.Collection.{Collection}
use Rattle.jpa_work.specs.declared.heap.Held.{Held}
use Rattle.jpa_work.specs.declared.heap.Life.{Life}
use Rattle.jpa_work.specs.declared.heap.LiveObject.{LiveObject}

-- what stands where a place has no object
abbrev pub no_object : LiveObject
no_object = record { class = 0; key = []; version = None; values = []; relations = []; life = Life.Detached }

-- the object at a place
abbrev pub object_at : List LiveObject → ℕ → LiveObject
object_at objects n = slice_index_or objects n no_object

-- null values, no links, read and empty collections
abbrev pub empty_held : Bool → Held
empty_held true = Held.One Link.None
empty_held false = Held.Many (Collection.Fetched [])

-- a new object of a class: null values, links to nothing, empty collections (chapter 3.2.1)
abbrev pub new_object : PersistenceUnit → ℕ → LiveObject
new_object m class =
    record {
      class = class;
      key = map (λ part. Value.Null) (root_of m class).key;
      version = None;
      values = map (λ a. Value.Null) (attributes_of m class);
      relations = map (λ r. empty_held (is_to_one r.side)) (relations_of m class);
      life = Life.New;
    }

-- whether no part of a key is null
abbrev pub is_whole : List Value → Bool
is_whole key = list_all (λ part. not (is_null part)) key

-- an object with a whole key has an identity
abbrev pub identity_of : PersistenceUnit → LiveObject → Option Identity
identity_of m x = if is_whole x.key then Some (record { table = (root_of m x.class).table; key = x.key }) else None

-- what an object holds in a relation
abbrev pub held_at : LiveObject → ℕ → Held
held_at x r = slice_index_or x.relations r (Held.One Link.None)

-- an object that holds this in a relation
abbrev pub with_held : LiveObject → ℕ → Held → LiveObject
with_held x r h = record x { relations = slice_set x.relations r h }

-- an object in this state
abbrev pub with_life : LiveObject → Life → LiveObject
with_life x l = record x { life = l }

-- whether a state is new
abbrev pub is_new : Life → Bool
is_new Life.New = true
is_new _ = false

-- an object's place in the heap, from its number
abbrev pub place_of : ℕ → ℤ → Option ℕ
place_of count (pos zero) = None
place_of count (pos (suc n)) = if nat_lt n count then Some n else None
place_of count (negsuc n) = None

-- a version as a value; null where there is none
abbrev pub version_value : Option ℤ → Value
version_value None = Value.Null
version_value (Some n) = Value.Int n

-- the version that a value is: an integer, else none
abbrev pub to_version : Value → Option ℤ
to_version (Value.Int n) = Some n
to_version _ = None

-- an object after a value is set
abbrev pub with_value : LiveObject → Member → Value → LiveObject
with_value x (Member.KeyPart i) v = record x { key = slice_set x.key i v }
with_value x Member.Version v = record x { version = to_version v }
with_value x (Member.Attribute i) v = record x { values = slice_set x.values i v }
with_value x (Member.Relation r) v = x

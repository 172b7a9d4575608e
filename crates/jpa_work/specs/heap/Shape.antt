-- The shape of live objects: what code that goes by places stands on.
use Rattle.std.specs.Prelude.{◌≡◌, ◌<◌, ℕ, List, length, Option, Some}
use Rattle.jpa_model.specs.declared.unit.PersistenceUnit.{PersistenceUnit}
use Rattle.jpa_model.specs.declared.unit.Member.{Member}
use Rattle.jpa_model.specs.Chains.{attributes_of, relations_of, root_of}
use Rattle.jpa_work.specs.declared.heap.Handed.{Handed}
use Rattle.jpa_work.specs.declared.heap.LiveObject.{LiveObject}

-- an object of an entity, with a value for each part of its key and each attribute, and what it
-- holds in each relation
pub record HasShape (m : PersistenceUnit) (x : LiveObject) : Type 0 where
  pub class : x.class < length m.entities
  pub key : length x.key ≡ length (root_of m x.class).key
  pub values : length x.values ≡ length (attributes_of m x.class)
  pub relations : length x.relations ≡ length (relations_of m x.class)

-- an object that is handed over stands in the heap
abbrev pub IsInHeap : List LiveObject → Handed → Type 0
IsInHeap objects (Handed.Plain v) = Unit {0}
IsInHeap objects (Handed.Object k) = k < length objects

-- a relation that a member names is one of the class
abbrev pub IsPlaced : PersistenceUnit → ℕ → Option Member → Type 0
IsPlaced m class (Some (Member.Relation r)) = r < length (relations_of m class)
IsPlaced m class _ = Unit {0}

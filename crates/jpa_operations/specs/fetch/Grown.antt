-- What operations on a work stand on, and how a work goes on by them: objects are added, and each
-- keeps its class.
use Rattle.std.specs.Prelude.{◌≡◌, ◌<◌, ◌≤◌, ◌==◌, ℕ, true, All, List, [], ◌∷◌, length}
use Rattle.jpa_model.specs.declared.unit.PersistenceUnit.{PersistenceUnit}
use Rattle.jpa_model.specs.Chains.{relations_of}
use Rattle.jpa_stored.specs.objects.Sets.{all_distinct}
use Rattle.jpa_work.specs.declared.heap.Link.{Link}
use Rattle.jpa_work.specs.declared.heap.Collection.{Collection}
use Rattle.jpa_work.specs.declared.heap.Held.{Held}
use Rattle.jpa_work.specs.declared.heap.LiveObject.{LiveObject}
use Rattle.jpa_work.specs.heap.Objects.{object_at}
use Rattle.jpa_work.specs.declared.context.Entry.{Entry}
use Rattle.jpa_work.specs.context.Undo.{IsPlaced}
use Rattle.jpa_work.specs.context.Work.{Work, object}

-- no two entries are of one object
abbrev pub AreDistinct : List Entry → Type 0
AreDistinct es = all_distinct (λ a b. a.object == b.object) es ≡ true

-- the objects that a relation holds, as far as it was read
abbrev pub objects_held : Held → List ℕ
objects_held (Held.One Link.None) = []
objects_held (Held.One (Link.Object k)) = k ∷ []
objects_held (Held.One (Link.Key id)) = []
objects_held (Held.Many (Collection.Fetched ks)) = ks
objects_held (Held.Many Collection.Unfetched) = []

-- what an object holds stands in the heap
abbrev pub IsLinked : List LiveObject → LiveObject → Type 0
IsLinked objects x = All (λ held. All (λ k. k < length objects) (objects_held held)) x.relations

-- what objects hold stands in the heap
abbrev pub AreLinked : List LiveObject → Type 0
AreLinked objects = All (IsLinked objects) objects

-- what operations stand on: places, links and entries are in order
pub record IsReady (m : PersistenceUnit) (w : Work) : Type 0 where
  pub placed : IsPlaced m w
  pub linked : AreLinked w.objects
  pub distinct : AreDistinct w.context

-- Operations can go on, and an object of the heap has a relation at this place.
pub record HasRelation (m : PersistenceUnit) (w : Work) (n r : ℕ) : Type 0 where
  pub ready : IsReady m w
  pub object : n < length w.objects
  pub relation : r < length (relations_of m (object_at w.objects n).class)

-- So it has, and can hold these objects there: they stand in the heap.
pub record CanHold (m : PersistenceUnit) (w : Work) (n r : ℕ) (targets : List ℕ) : Type 0 where
  pub ready : IsReady m w
  pub object : n < length w.objects
  pub relation : r < length (relations_of m (object_at w.objects n).class)
  pub within : All (λ k. k < length w.objects) targets

-- What was read is a collection of an object, by the place of the relation, and its members stand in the heap.
pub record IsRead (m : PersistenceUnit) (n : ℕ) (w : Work) (read : ℕ × List ℕ) : Type 0 where
  pub relation : read.0 < length (relations_of m (object w n).class)
  pub places : All (λ k. k < length w.objects) read.1

-- objects are added, and each keeps its class; what was linked, and entries of different objects,
-- are so still
pub record HasGrown (w v : Work) : Type 0 where
  pub count : length w.objects ≤ length v.objects
  pub classes : (n : ℕ) → n < length w.objects → (object v n).class ≡ (object w n).class
  pub distinct : AreDistinct w.context → AreDistinct v.context
  pub linked : AreLinked w.objects → AreLinked v.objects

-- an operation's work goes on from the one before: it is in order, and has grown
pub record GoesOn (m : PersistenceUnit) (u w : Work) : Type 0 where
  pub ready : IsReady m w
  pub grown : HasGrown u w

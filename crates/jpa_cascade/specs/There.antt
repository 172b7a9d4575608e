-- Where the nodes of a cascade are: objects in the heap, and identities with a row in the set that
-- the manager sees.
use Rattle.std.specs.Prelude.{◌<◌, ℕ, List, All, length, IsSome}
use Rattle.jpa_model.specs.declared.unit.PersistenceUnit.{PersistenceUnit}
use Rattle.jpa_work.specs.declared.heap.Link.{Link}
use Rattle.jpa_work.specs.declared.heap.Collection.{Collection}
use Rattle.jpa_work.specs.declared.heap.Held.{Held}
use Rattle.jpa_work.specs.declared.heap.LiveObject.{LiveObject}
use Rattle.jpa_work.specs.context.Work.{Work, row}
use Rattle.jpa_cascade.specs.declared.Operation.{Operation}
use Rattle.jpa_cascade.specs.declared.Node.{Node}
use Rattle.jpa_cascade.specs.Waves.{waves}

-- the objects that a relation holds are among so many
abbrev pub HoldsWithin : ℕ → Held → Type 0
HoldsWithin count (Held.One Link.None) = Unit {0}
HoldsWithin count (Held.One (Link.Object k)) = k < count
HoldsWithin count (Held.One (Link.Key id)) = Unit {0}
HoldsWithin count (Held.Many Collection.Unfetched) = Unit {0}
HoldsWithin count (Held.Many (Collection.Fetched ks)) = All (λ k. k < count) ks

-- objects hold objects of the heap alone
abbrev pub AreLinked : List LiveObject → Type 0
AreLinked objects = All (λ x. All (HoldsWithin (length objects)) x.relations) objects

-- an object stands in the heap, and an identity has a row in the view
abbrev pub IsThere : Work → Node → Type 0
IsThere w (Node.Live n) = n < length w.objects
IsThere w (Node.Bare id) = IsSome (row w id)

-- so are the waves of an operation on an object, where the entries of the context name objects of
-- the heap too
abbrev pub WavesAreThere : Type 0
WavesAreThere =
    (m : PersistenceUnit) (op : Operation) (w : Work) (start : ℕ) → AreLinked w.objects →
    All (λ e. e.object < length w.objects) w.context → start < length w.objects →
    All (IsThere w) (waves m op w start)

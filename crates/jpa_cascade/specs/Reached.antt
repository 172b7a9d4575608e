-- What a cascade is: the nodes that an operation comes to from its start along relations, each
-- once, those nearer the start first (Jakarta Persistence 3.1, chapter 3.2: an operation is
-- cascaded to the entities that relations lead to).
use Rattle.std.specs.Prelude.{◌≡◌, ◌≢◌, ◌↔◌, ◌≤◌, ℕ, zero, suc, true, List, [], ◌∷◌, length, slice_get, Contains, Some}
use Rattle.std.specs.List.{AllPairs}
use Rattle.jpa_model.specs.declared.unit.PersistenceUnit.{PersistenceUnit}
use Rattle.jpa_model.specs.declared.unit.Relation.{Relation}
use Rattle.jpa_model.specs.Chains.{relations_of}
use Rattle.jpa_stored.specs.declared.objects.stored.Stored.{Stored}
use Rattle.jpa_stored.specs.objects.Sets.{members}
use Rattle.jpa_work.specs.heap.Objects.{held_at}
use Rattle.jpa_work.specs.context.Work.{Work, object, state_of, row}
use Rattle.jpa_cascade.specs.declared.Operation.{Operation}
use Rattle.jpa_cascade.specs.declared.Node.{Node}
use Rattle.jpa_cascade.specs.Waves.{goes_along, goes_from, reaches_unread, nodes_of, nodes_held, waves_by, waves}

-- ---- which nodes are reached

-- a way of so many steps, each from a node to one that it leads to, goes from the start to the node
abbrev pub IsReachedIn : (Node → Node → Type 0) → Node → ℕ → Node → Type 0
IsReachedIn LeadsTo start zero x = x ≡ start
IsReachedIn LeadsTo start (suc steps) x = (y : Node) × IsReachedIn LeadsTo start steps y × LeadsTo y x

-- a node is reached from the start in some number of steps
abbrev pub IsReached : (Node → Node → Type 0) → Node → Node → Type 0
IsReached LeadsTo start x = (steps : ℕ) × IsReachedIn LeadsTo start steps x

-- for each way to y there is one to x that is no longer
abbrev pub IsAsNear : (Node → Node → Type 0) → Node → Node → Node → Type 0
IsAsNear LeadsTo start x y =
    (steps : ℕ) → IsReachedIn LeadsTo start steps y → (fewer : ℕ) × (fewer ≤ steps) × IsReachedIn LeadsTo start fewer x

-- these nodes are those that are reached and no other, none twice, the nearest first
pub record AreReached (LeadsTo : Node → Node → Type 0) (start : Node) (nodes : List Node) : Type 0 where
  pub exact : (x : Node) → Contains nodes x ↔ IsReached LeadsTo start x
  pub once : AllPairs (λ x y. x ≢ y) nodes
  pub nearest_first : AllPairs (IsAsNear LeadsTo start) nodes

-- ---- by lists of targets

-- a node has another among its targets
abbrev pub HasTarget : (Node → List Node) → Node → Node → Type 0
HasTarget next x y = Contains (next x) y

-- each node that is reached and leads to another is one of these
abbrev pub HaveAllThatLeadOn : (Node → List Node) → Node → List Node → Type 0
HaveAllThatLeadOn next start nodes =
    (x y : Node) → IsReached (HasTarget next) start x → HasTarget next x y → Contains nodes x

-- no wave is cut off where the bound is at least the number of nodes that lead on
abbrev pub WavesReach : Type 0
WavesReach =
    (next : Node → List Node) (start : Node) (nodes : List Node) (bound : ℕ) → HaveAllThatLeadOn next start nodes →
    length nodes ≤ bound →
    AreReached (HasTarget next) start (waves_by next bound [] (start ∷ []))

-- ---- along relations

-- the class has a relation at place r, and the operation goes along it
abbrev pub GoesAlong : PersistenceUnit → Operation → ℕ → ℕ → Type 0
GoesAlong m op class r =
    (relation : Relation) × (slice_get (relations_of m class) r ≡ Some relation) × (goes_along op relation ≡ true)

-- an object that the operation goes on from leads to what it holds in such a relation, a row to its
-- members in the view
abbrev pub CascadesTo : PersistenceUnit → Operation → Work → Node → Node → Type 0
CascadesTo m op w (Node.Live n) y =
    (r : ℕ) × (goes_from op (state_of w n) ≡ true) × GoesAlong m op (object w n).class r ×
    Contains (nodes_held m w (reaches_unread op) n r (held_at (object w n) r)) y
CascadesTo m op w (Node.Bare id) y =
    (r : ℕ) × (x : Stored) × (row w id ≡ Some x) × GoesAlong m op x.class r
    × Contains (nodes_of m w (members m w.view id x r)) y

-- the waves of an operation on an object are the nodes that its cascade reaches
abbrev pub CascadesReach : Type 0
CascadesReach =
    (m : PersistenceUnit) (op : Operation) (w : Work) (start : ℕ) → AreReached (CascadesTo m op w) (Node.Live start)
    (waves m op w start)

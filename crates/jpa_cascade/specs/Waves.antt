-- The targets of a node and the waves of a cascade (Jakarta Persistence 3.1, chapter 3.2; the order
-- of the waves is this provider's own).
use Rattle.std.specs.Prelude.{ℕ, zero, suc, ◌+◌, Bool, true, false, ◌||◌, ◌==◌, List, [], ◌∷◌, ◌++◌, map, length}
use Rattle.std.specs.Prelude.{Option, Some, None, if◌then◌else◌}
use Rattle.std.specs.List.{flat_map, list_any, enumerate_from}
use Rattle.jpa_value.specs.declared.value.Identity.{Identity}
use Rattle.jpa_value.specs.Value.{same_identity}
use Rattle.jpa_model.specs.declared.unit.PersistenceUnit.{PersistenceUnit}
use Rattle.jpa_model.specs.declared.unit.Relation.{Relation}
use Rattle.jpa_model.specs.Chains.{relations_of}
use Rattle.jpa_stored.specs.declared.objects.stored.Stored.{Stored}
use Rattle.jpa_stored.specs.objects.Sets.{members, members_of}
use Rattle.jpa_work.specs.declared.heap.Link.{Link}
use Rattle.jpa_work.specs.declared.heap.Collection.{Collection}
use Rattle.jpa_work.specs.declared.heap.Held.{Held}
use Rattle.jpa_work.specs.heap.Objects.{held_at}
use Rattle.jpa_work.specs.context.Work.{Work, object, state_of, instance, row, identity_at}
use Rattle.jpa_work.specs.declared.context.EntityState.{EntityState}
use Rattle.jpa_cascade.specs.declared.Operation.{Operation}
use Rattle.jpa_cascade.specs.declared.Node.{Node}

-- whether the operation goes along the relation
abbrev pub goes_along : Operation → Relation → Bool
goes_along Operation.Persist r = (r.cascade).persist
goes_along Operation.Merge r = (r.cascade).merge
goes_along Operation.Remove r = (r.cascade).remove || r.orphan_removal
goes_along Operation.Refresh r = (r.cascade).refresh
goes_along Operation.Detach r = (r.cascade).detach

-- whether the operation goes on from an object in this state
abbrev pub goes_from : Operation → EntityState → Bool
goes_from Operation.Remove EntityState.Removed = false
goes_from Operation.Detach EntityState.New = false
goes_from Operation.Detach EntityState.Detached = false
goes_from _ _ = true

-- only a removal reaches what was not read
abbrev pub reaches_unread : Operation → Bool
reaches_unread Operation.Remove = true
reaches_unread _ = false

-- an identity means its instance in the context, else its row, else nothing
abbrev pub node_from : Option ℕ → Option Stored → Identity → List Node
node_from (Some n) x id = Node.Live n ∷ []
node_from None (Some x) id = Node.Bare id ∷ []
node_from None None id = []

-- what an identity means: its instance in the context, else its row, else nothing
abbrev pub node_of : PersistenceUnit → Work → Identity → List Node
node_of m w id = node_from (instance m w id) (row w id) id

-- what identities mean, in turn
abbrev pub nodes_of : PersistenceUnit → Work → List Identity → List Node
nodes_of m w ids = flat_map (node_of m w) ids

-- what the view holds in a relation under an identity; without an identity nothing
abbrev pub members_under : PersistenceUnit → Work → ℕ → Option Identity → ℕ → List Identity
members_under m w class None r = []
members_under m w class (Some id) r = members_of m w.view class id (row w id) r

-- what the view holds in a relation of an object
abbrev pub members_now : PersistenceUnit → Work → ℕ → ℕ → List Identity
members_now m w n r = members_under m w (object w n).class (identity_at m w n) r

-- what an object holds in a relation, as nodes; what was not read only where unread is true
abbrev pub nodes_held : PersistenceUnit → Work → Bool → ℕ → ℕ → Held → List Node
nodes_held m w unread n r (Held.One Link.None) = []
nodes_held m w unread n r (Held.One (Link.Object k)) = Node.Live k ∷ []
nodes_held m w true n r (Held.One (Link.Key id)) = node_of m w id
nodes_held m w false n r (Held.One (Link.Key id)) = []
nodes_held m w unread n r (Held.Many (Collection.Fetched ks)) = map Node.Live ks
nodes_held m w true n r (Held.Many Collection.Unfetched) = nodes_of m w (members_now m w n r)
nodes_held m w false n r (Held.Many Collection.Unfetched) = []

-- along one relation, which stands at place r
abbrev pub live_targets_along : PersistenceUnit → Operation → Work → ℕ → ℕ × Relation → List Node
live_targets_along m op w n p =
    if goes_along op p.1 then nodes_held m w (reaches_unread op) n p.0 (held_at (object w n) p.0) else []

-- where a row leads along a relation, if the operation goes along it
abbrev pub bare_targets_along : PersistenceUnit → Operation → Work → Identity → Stored → ℕ × Relation → List Node
bare_targets_along m op w id x p = if goes_along op p.1 then nodes_of m w (members m w.view id x p.0) else []

-- where a row leads, along its relations in declared order
abbrev pub bare_targets : PersistenceUnit → Operation → Work → Identity → Option Stored → List Node
bare_targets m op w id None = []
bare_targets m op w id (Some x) = flat_map (bare_targets_along m op w id x) (enumerate_from 0 (relations_of m x.class))

-- the targets of a node, relations in declared order, those of superclasses first
abbrev pub targets : PersistenceUnit → Operation → Work → Node → List Node
targets m op w (Node.Live n) =
    if goes_from op (state_of w n) then flat_map (live_targets_along m op w n)
    (enumerate_from 0 (relations_of m (object w n).class)) else []
targets m op w (Node.Bare id) = bare_targets m op w id (row w id)

-- whether two nodes are the same object or the same identity
abbrev pub same_node : Node → Node → Bool
same_node (Node.Live a) (Node.Live b) = a == b
same_node (Node.Live a) (Node.Bare y) = false
same_node (Node.Bare x) (Node.Live b) = false
same_node (Node.Bare x) (Node.Bare y) = same_identity x y

-- those that were not seen, each once
abbrev pub unseen : List Node → List Node → List Node
unseen seen [] = []
unseen seen (x ∷ xs) = if list_any (same_node x) seen then unseen seen xs else x ∷ unseen (seen ++ x ∷ []) xs

-- the nodes so far, then this wave, then the later ones: the targets of a wave that were not seen
-- are the next. A bound of the number of nodes that lead on cuts none off: `cascade_laws` proves
-- it, and that each node that is reached stands here once
abbrev pub waves_by : (Node → List Node) → ℕ → List Node → List Node → List Node
waves_by next zero before wave = before ++ wave
waves_by next (suc bound) before [] = before
waves_by next (suc bound) before (x ∷ xs) =
    waves_by next bound (before ++ x ∷ xs) (unseen (before ++ x ∷ xs) (flat_map next (x ∷ xs)))

-- no more nodes lead on than there are objects and rows
abbrev pub most_nodes : Work → ℕ
most_nodes w = length w.objects + length w.view

-- the nodes of a cascade from an object, wave by wave (chapter 3.2)
abbrev pub waves : PersistenceUnit → Operation → Work → ℕ → List Node
waves m op w start = waves_by (targets m op w) (most_nodes w) [] (Node.Live start ∷ [])

-- the objects among the nodes
abbrev pub live_nodes : List Node → List ℕ
live_nodes [] = []
live_nodes (Node.Live n ∷ ns) = n ∷ live_nodes ns
live_nodes (Node.Bare id ∷ ns) = live_nodes ns

-- A work of which this holds is one on which operations may go.
use Rattle.std.proofs.Common.{◌≡◌, ◌<◌, ℕ, true, [], length}
use Rattle.std.specs.List.{All}
use Rattle.std.proofs.lemmas.List.Elements.{All-cons, All-nil, All-weaker}
use Rattle.jpa_behaviour.specs.Behaviour.{World}
use Rattle.jpa_work.specs.declared.heap.Link.{Link}
use Rattle.jpa_work.specs.declared.heap.Collection.{Collection}
use Rattle.jpa_work.specs.declared.heap.Held.{Held}
use Rattle.jpa_work.specs.declared.heap.LiveObject.{LiveObject}
use Rattle.jpa_work.specs.context.Work.{Work}
use Rattle.jpa_cascade.specs.There.{HoldsWithin}
use Rattle.jpa_operations.specs.fetch.Grown.{AreDistinct, AreLinked, IsLinked, IsReady, objects_held}
use Rattle.jpa_operations.specs.ops.Names.{has_distinct_entries}
use Rattle.jpa_operations.proofs.ops.Names.{distinct_objects}
use Rattle.jpa_machine.specs.machine.Consistent.{IsConsistent, Others}
use Rattle.jpa_machine.proofs.machine.Members.{linked}
use Rattle.jpa_machine.proofs.machine.Placed.{placed_at_work}

-- ---- what an object holds stands in the heap

held_within : (count : ℕ) (h : Held) → HoldsWithin count h → All (λ k. k < count) (objects_held h)
held_within count (Held.One Link.None) l = All-nil (λ k. k < count)
held_within count (Held.One (Link.Object k)) l = All-cons (λ j. j < count) k [] l (All-nil (λ j. j < count))
held_within count (Held.One (Link.Key id)) l = All-nil (λ k. k < count)
held_within count (Held.Many Collection.Unfetched) l = All-nil (λ k. k < count)
held_within count (Held.Many (Collection.Fetched ks)) l = l

pub linked_at_work : {world : World} {M : Others} {m : ℕ} {w : Work} → IsConsistent world M m w → AreLinked w.objects
linked_at_work {world} {M} {m} {w} h =
    let count = length w.objects in
    All-weaker (λ (x : LiveObject). All (HoldsWithin count) x.relations) (IsLinked w.objects)
    (λ x. All-weaker (HoldsWithin count) (λ held. All (λ k. k < count) (objects_held held)) (held_within count) x.relations) w.objects (linked w.objects h.objects)

-- ---- entries

-- the entries are of different identities
pub named_at_work : {world : World} {M : Others} {m : ℕ} {w : Work} → IsConsistent world M m w → has_distinct_entries world.model w ≡ true
named_at_work h = h.distinct

-- and so of different objects
pub apart_at_work : {world : World} {M : Others} {m : ℕ} {w : Work} → IsConsistent world M m w → AreDistinct w.context
apart_at_work {world} {M} {m} {w} h = distinct_objects world.model w (named_at_work h)

-- ---- what operations stand on

pub ready_at_work : {world : World} {M : Others} {m : ℕ} {w : Work} → IsConsistent world M m w → IsReady world.model w
ready_at_work h = record { placed = placed_at_work h; linked = linked_at_work h; distinct = apart_at_work h }

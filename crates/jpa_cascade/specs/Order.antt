-- An order of nodes: objects by their places, then identities.
use Rattle.std.specs.Prelude.{◌≡◌, ℕ, List}
use Rattle.std.specs.List.{list_any}
use Rattle.std.specs.BTreeSet.{contains, BTreeSet}
use Rattle.std.specs.Cmp.{IsTotalOrder, then_total, on_total, nat_cmp_total}
use Rattle.std.specs.Ordering.{nat_cmp, ordering_then}
use Rattle.std.specs.declared.cmp.Ordering.{Ordering}
use Rattle.std.specs.declared.cmp.Ordering.TheVariants.{Less, Greater}
use Rattle.std.proofs.Common.{refl, subst, []}
use Rattle.jpa_value.specs.declared.value.Identity.{Identity}
use Rattle.jpa_value.specs.Value.{identity_cmp}
use Rattle.jpa_value.proofs.Orders.{identity_total, then_equal}
use Rattle.jpa_cascade.specs.declared.Node.{Node}
use Rattle.jpa_cascade.specs.Waves.{same_node}

-- the order of nodes: objects by their places, then identities
abbrev pub node_cmp : Node → Node → Ordering
node_cmp (Node.Live a) (Node.Live b) = nat_cmp a b
node_cmp (Node.Live a) (Node.Bare y) = Less
node_cmp (Node.Bare x) (Node.Live b) = Greater
node_cmp (Node.Bare x) (Node.Bare y) = identity_cmp x y

-- the nodes of the set are those of the list
abbrev pub AreSeen : List Node → BTreeSet Node → Type 0
AreSeen nodes seen = (x : Node) → contains node_cmp seen x ≡ list_any (same_node x) nodes

-- ---- it is total: that of three parts, of which some are the same for all nodes of a sort

rank : Node → ℕ
rank (Node.Live n) = 0
rank (Node.Bare id) = 1

place : Node → ℕ
place (Node.Live n) = n
place (Node.Bare id) = 0

name : Node → Identity
name (Node.Live n) = record { table = 0; key = [] }
name (Node.Bare id) = id

by_parts : Node → Node → Ordering
by_parts a b = ordering_then (nat_cmp (rank a) (rank b))
    (ordering_then (nat_cmp (place a) (place b)) (identity_cmp (name a) (name b)))

parts_total : IsTotalOrder by_parts
unfolding by_parts
parts_total = then_total (on_total rank nat_cmp_total)
    (then_total (on_total place nat_cmp_total) (on_total name identity_total))

same_order : (a b : Node) → by_parts a b ≡ node_cmp a b
unfolding by_parts rank place name
same_order (Node.Live a) (Node.Live b) = then_equal (nat_cmp a b)
same_order (Node.Live a) (Node.Bare y) = refl
same_order (Node.Bare x) (Node.Live b) = refl
same_order (Node.Bare x) (Node.Bare y) = refl

-- this order of nodes is total
pub node_total : IsTotalOrder node_cmp
node_total = subst (λ (cmp : Node → Node → Ordering). IsTotalOrder cmp) (λ i a b. same_order a b i) parts_total

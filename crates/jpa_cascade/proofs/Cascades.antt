-- No more nodes lead on in a cascade than there are objects and rows, so its waves reach all that they lead to.
use Rattle.std.proofs.Common.{◌≡◌, ◌∙◌, ℕ, zero, suc, ◌<◌, ◌≤◌, Bool, true, false, List, [], ◌++◌, map, length, get_or, refl, ap, sym, subst, ⊎_elim, length-append, arith}
use Rattle.std.specs.Prelude.{Contains, Option, Some, None, is_some, if◌then◌else◌}
use Rattle.std.specs.List.{flat_map, list_any, enumerate_from, range_with_len}
use Rattle.std.specs.FinMap.Entries.{is_some-find}
use Rattle.std.specs.Cmp.{Equal-is}
use Rattle.std.specs.Ordering.{eq_by_cmp}
use Rattle.std.proofs.lemmas.Bool.{cases_lt}
use Rattle.std.proofs.lemmas.List.{length-map, get_or_past}
use Rattle.std.proofs.lemmas.List.Elements.{Contains-append_left, Contains-append_right}
use Rattle.std.proofs.lemmas.List.FromFn.{length-range_with_len}
use Rattle.std.proofs.lemmas.Map.Views.{Contains-from_any}
use Rattle.jpa_value.specs.declared.value.Identity.{Identity}
use Rattle.jpa_value.specs.Value.{identity_cmp}
use Rattle.jpa_value.proofs.Orders.{identity_exact}
use Rattle.jpa_model.specs.declared.unit.PersistenceUnit.{PersistenceUnit}
use Rattle.jpa_model.specs.declared.unit.Relation.{Relation}
use Rattle.jpa_model.specs.Chains.{relations_of}
use Rattle.jpa_stored.specs.declared.objects.stored.Stored.{Stored}
use Rattle.jpa_work.specs.declared.heap.Link.{Link}
use Rattle.jpa_work.specs.declared.heap.Held.{Held}
use Rattle.jpa_work.specs.heap.Objects.{held_at, no_object}
use Rattle.jpa_work.specs.context.Work.{Work, object, state_of, row}
use Rattle.jpa_cascade.specs.declared.Operation.{Operation}
use Rattle.jpa_cascade.specs.declared.Node.{Node}
use Rattle.jpa_cascade.specs.Waves.{goes_along, goes_from, reaches_unread, nodes_held, live_targets_along, bare_targets_along, bare_targets, targets, most_nodes, waves}
use Rattle.jpa_cascade.specs.Reached.{IsReachedIn, AreReached, HasTarget, CascadesTo, CascadesReach}
use Rattle.jpa_cascade.proofs.Lists.{in_flat, from_enumerated, to_enumerated, none_in, in_map, from_flat, in_range}
use Rattle.jpa_cascade.proofs.Reaching.{waves_reach}

-- the objects by their places, and the rows by their identities
abbrev pub lives : Work → List Node
lives w = map Node.Live (range_with_len 0 (length w.objects))

abbrev pub names : Work → List Identity
names w = map (λ e. e.0) w.view

abbrev pub nodes_in : Work → List Node
nodes_in w = lives w ++ map Node.Bare (names w)

pub nodes_few : (w : Work) → length (nodes_in w) ≡ most_nodes w
nodes_few w =
    let places : List ℕ = range_with_len 0 (length w.objects) in
    let objects : length (lives w) ≡ length w.objects = length-map places Node.Live ∙ length-range_with_len 0 (length w.objects) in
    let rows : length (map Node.Bare (names w)) ≡ length w.view = length-map (names w) Node.Bare ∙ length-map w.view (λ (e : Identity × Stored). e.0) in
    length-append (lives w) (map Node.Bare (names w)) ∙ omega (arith, objects, rows)

live_there : (w : Work) (n : ℕ) → n < length w.objects → Contains (nodes_in w) (Node.Live n)
live_there w n h =
    Contains-append_left (lives w) (map Node.Bare (names w)) (Node.Live n) (in_map Node.Live (range_with_len 0 (length w.objects)) n (in_range (length w.objects) n h))

bare_there : (w : Work) (id : Identity) (x : Stored) → row w id ≡ Some x → Contains (nodes_in w) (Node.Bare id)
bare_there w id x h =
    let tied : list_any (eq_by_cmp identity_cmp id) (names w) ≡ true = sym (is_some-find identity_cmp id w.view) ∙ ap is_some h in
    let exact : ((a b : Identity) → eq_by_cmp identity_cmp a b ≡ true → a ≡ b) = λ a b e. identity_exact a b ((Equal-is (identity_cmp a b)).0 e) in
    Contains-append_right (lives w) (map Node.Bare (names w)) (Node.Bare id) (in_map Node.Bare (names w) id (Contains-from_any exact id (names w) tied))

-- ---- what leads on is there

-- past the last object none holds anything
pub held_there : (w : Work) (n r : ℕ) → length w.objects ≤ n → held_at (object w n) r ≡ Held.One Link.None
held_there w n r h = ap (λ x. held_at x r) (get_or_past w.objects n no_object h)

where_true : (b : Bool) (xs : List Node) (y : Node) → Contains (if b then xs else []) y → (b ≡ true) × Contains xs y
where_true true xs y k = (refl, k)
where_true false xs y k = absurd (none_in y k)

as_true : (b : Bool) (xs : List Node) (y : Node) → b ≡ true → Contains xs y → Contains (if b then xs else []) y
as_true b xs y e k = subst (λ c. Contains (if c then xs else []) y) (sym e) k

never_past : (m : PersistenceUnit) (op : Operation) (w : Work) (n : ℕ) (y : Node) → length w.objects ≤ n → Contains (targets m op w (Node.Live n)) y → ⊥
never_past m op w n y past k =
    let along = live_targets_along m op w n in
    let relations = enumerate_from 0 (relations_of m (object w n).class) in
    let from = from_flat along relations y (where_true (goes_from op (state_of w n)) (flat_map along relations) y k).1 in
    let r = (from.0).0 in
    let held : Contains (nodes_held m w (reaches_unread op) n r (held_at (object w n) r)) y = (where_true (goes_along op (from.0).1) _ y from.2).1 in
    none_in y (subst (λ h. Contains (nodes_held m w (reaches_unread op) n r h) y) (held_there w n r past) held)

bare_there_from : (m : PersistenceUnit) (op : Operation) (w : Work) (id : Identity) (x : Option Stored) (y : Node) → row w id ≡ x → Contains (bare_targets m op w id x) y → Contains (nodes_in w) (Node.Bare id)
bare_there_from m op w id None y e k = absurd (none_in y k)
bare_there_from m op w id (Some x) y e k = bare_there w id x e

pub leads_there : (m : PersistenceUnit) (op : Operation) (w : Work) (x y : Node) → Contains (targets m op w x) y → Contains (nodes_in w) x
leads_there m op w (Node.Live n) y k =
    ⊎_elim (λ (l : n < length w.objects). live_there w n l) (λ (l : length w.objects ≤ n). absurd (never_past m op w n y l k)) (cases_lt n (length w.objects))
leads_there m op w (Node.Bare id) y k = bare_there_from m op w id (row w id) y refl k

waves_of_targets : (m : PersistenceUnit) (op : Operation) (w : Work) (start : ℕ) → AreReached (HasTarget (targets m op w)) (Node.Live start) (waves m op w start)
waves_of_targets m op w start =
    waves_reach (targets m op w) (Node.Live start) (nodes_in w) (most_nodes w) (λ x y _ k. leads_there m op w x y k) (omega (arith, nodes_few w))

-- ---- targets are what relations lead to

from_targets : (m : PersistenceUnit) (op : Operation) (w : Work) (x y : Node) → HasTarget (targets m op w) x y → CascadesTo m op w x y
from_targets m op w (Node.Live n) y k =
    let along = live_targets_along m op w n in
    let relations = enumerate_from 0 (relations_of m (object w n).class) in
    let goes = where_true (goes_from op (state_of w n)) (flat_map along relations) y k in
    let from = from_flat along relations y goes.1 in
    let held = where_true (goes_along op (from.0).1) _ y from.2 in
    ((from.0).0, goes.0, ((from.0).1, from_enumerated (relations_of m (object w n).class) from.0 from.1, held.0), held.1)
from_targets m op w (Node.Bare id) y k = by_row (row w id) refl k
  where
    by_row : (found : Option Stored) → row w id ≡ found → Contains (bare_targets m op w id found) y → CascadesTo m op w (Node.Bare id) y
    by_row None e l = absurd (none_in y l)
    by_row (Some x) e l =
        let along = bare_targets_along m op w id x in
        let from = from_flat along (enumerate_from 0 (relations_of m x.class)) y l in
        let there = where_true (goes_along op (from.0).1) _ y from.2 in
        ((from.0).0, x, e, ((from.0).1, from_enumerated (relations_of m x.class) from.0 from.1, there.0), there.1)

to_targets : (m : PersistenceUnit) (op : Operation) (w : Work) (x y : Node) → CascadesTo m op w x y → HasTarget (targets m op w) x y
to_targets m op w (Node.Live n) y h =
    let along = live_targets_along m op w n in
    let relations = enumerate_from 0 (relations_of m (object w n).class) in
    let place : ℕ × Relation = (h.0, h.2.0) in
    let held : Contains (along place) y = as_true (goes_along op h.2.0) _ y h.2.2 h.3 in
    as_true (goes_from op (state_of w n)) (flat_map along relations) y h.1 (in_flat along relations place y (to_enumerated (relations_of m (object w n).class) h.0 h.2.0 h.2.1) held)
to_targets m op w (Node.Bare id) y h =
    let along = bare_targets_along m op w id h.1 in
    let relations = enumerate_from 0 (relations_of m (h.1).class) in
    let place : ℕ × Relation = (h.0, h.3.0) in
    let there : Contains (along place) y = as_true (goes_along op h.3.0) _ y h.3.2 h.4 in
    subst (λ found. Contains (bare_targets m op w id found) y) (sym h.2) (in_flat along relations place y (to_enumerated (relations_of m (h.1).class) h.0 h.3.0 h.3.1) there)

-- ---- the same ways

same_ways : (P Q : Node → Node → Type 0) → ((x y : Node) → P x y → Q x y) → (start : Node) (steps : ℕ) (x : Node) → IsReachedIn P start steps x → IsReachedIn Q start steps x
same_ways P Q f start zero x e = e
same_ways P Q f start (suc steps) x way = (way.0, same_ways P Q f start steps way.0 way.1, f way.0 x way.2)

same_reached : (P Q : Node → Node → Type 0) → ((x y : Node) → P x y → Q x y) → ((x y : Node) → Q x y → P x y) → (start : Node) (nodes : List Node) → AreReached P start nodes → AreReached Q start nodes
same_reached P Q f g start nodes h = record {
  exact = λ x. (λ k. let r = (h.exact x).0 k in (r.0, same_ways P Q f start r.0 x r.1), λ r. (h.exact x).1 (r.0, same_ways Q P g start r.0 x r.1));
  once = h.once;
  nearest_first = λ i j d below within steps way.
      let r = h.nearest_first i j d below within steps (same_ways Q P g start steps (get_or nodes j d) way) in
      (r.0, r.1, same_ways P Q f start r.0 (get_or nodes i d) r.2);
}

pub cascades_reach : CascadesReach
cascades_reach m op w start =
    same_reached (HasTarget (targets m op w)) (CascadesTo m op w) (from_targets m op w) (to_targets m op w) (Node.Live start) (waves m op w start) (waves_of_targets m op w start)

-- The nodes of a cascade are there.
use Rattle.std.proofs.Common.{◌≡◌, ℕ, zero, suc, ◌<◌, ◌≤◌, Bool, true, false, cond, List, [], ◌∷◌, length, get_or, refl, sym, subst, ⊎_elim}
use Rattle.std.specs.Prelude.{All, Contains, Option, Some, None, IsSome, find}
use Rattle.std.specs.List.{AllByRecursion}
use Rattle.std.proofs.lemmas.Bool.{cases_lt}
use Rattle.std.proofs.lemmas.List.{get_or_past}
use Rattle.std.proofs.lemmas.List.Elements.{Contains-get_or, recursion_from_All}
use Rattle.jpa_value.specs.declared.value.Identity.{Identity}
use Rattle.jpa_model.specs.declared.unit.PersistenceUnit.{PersistenceUnit}
use Rattle.jpa_stored.specs.declared.objects.stored.Stored.{Stored}
use Rattle.jpa_work.specs.declared.heap.Link.{Link}
use Rattle.jpa_work.specs.declared.heap.Collection.{Collection}
use Rattle.jpa_work.specs.declared.heap.Held.{Held}
use Rattle.jpa_work.specs.heap.Objects.{held_at}
use Rattle.jpa_work.specs.declared.context.Entry.{Entry}
use Rattle.jpa_work.specs.context.Work.{Work, object, object_in, has_identity, identity_at, instance, row}
use Rattle.jpa_cascade.specs.declared.Operation.{Operation}
use Rattle.jpa_cascade.specs.declared.Node.{Node}
use Rattle.jpa_cascade.specs.Waves.{reaches_unread, node_from, node_of, nodes_of, nodes_held, waves}
use Rattle.jpa_cascade.specs.Reached.{IsReachedIn, CascadesTo}
use Rattle.jpa_cascade.specs.There.{HoldsWithin, AreLinked, IsThere, WavesAreThere}
use Rattle.jpa_cascade.proofs.Lists.{none_in, in_one, from_map, from_flat}
use Rattle.jpa_cascade.proofs.Cascades.{cascades_reach}

none_some : (n : ℕ) → None ≡ Some n → ⊥
none_some n e = absurd cc

same_some : (n k : ℕ) → Some n ≡ Some k → n ≡ k
same_some n k e = cc

found_within : (p : Entry → Bool) (count : ℕ) (es : List Entry) → AllByRecursion (λ (e : Entry). e.object < count) es → (n : ℕ) → object_in (find p es) ≡ Some n → n < count
found_within p count [] h n e = absurd (none_some n e)
found_within p count (x ∷ xs) h n e = by (p x) e (found_within p count xs h.1 n)
  where
    by : (b : Bool) → object_in (cond b (Some x) (find p xs)) ≡ Some n → (object_in (find p xs) ≡ Some n → n < count) → n < count
    by true k rest = subst (λ j. j < count) (same_some x.object n k) h.0
    by false k rest = rest k

module _ (m : PersistenceUnit) (w : Work) (linked : AreLinked w.objects) (entries : All (λ (e : Entry). e.object < length w.objects) w.context) where
  from_there : (id : Identity) (o : Option ℕ) → instance m w id ≡ o → (x : Option Stored) → row w id ≡ x → (y : Node) → Contains (node_from o x id) y → IsThere w y
  from_there id (Some n) e x k y l =
      subst (IsThere w) (sym (in_one (Node.Live n) y l))
      (found_within (λ (t : Entry). has_identity (identity_at m w t.object) id) (length w.objects) w.context (recursion_from_All (λ (t : Entry). t.object < length w.objects) w.context entries) n e)
  from_there id None e (Some x) k y l = subst (IsThere w) (sym (in_one (Node.Bare id) y l)) (subst IsSome (sym k) refl)
  from_there id None e None k y l = absurd (none_in y l)

  nodes_there : (ids : List Identity) (y : Node) → Contains (nodes_of m w ids) y → IsThere w y
  nodes_there ids y k = let from = from_flat (node_of m w) ids y k in from_there from.0 (instance m w from.0) refl (row w from.0) refl y from.2

  held_there : (unread : Bool) (n r : ℕ) (held : Held) → HoldsWithin (length w.objects) held → (y : Node) → Contains (nodes_held m w unread n r held) y → IsThere w y
  held_there unread n r (Held.One Link.None) h y k = absurd (none_in y k)
  held_there unread n r (Held.One (Link.Object j)) h y k = subst (IsThere w) (sym (in_one (Node.Live j) y k)) h
  held_there true n r (Held.One (Link.Key id)) h y k = from_there id (instance m w id) refl (row w id) refl y k
  held_there false n r (Held.One (Link.Key id)) h y k = absurd (none_in y k)
  held_there unread n r (Held.Many (Collection.Fetched js)) h y k =
      let from = from_map Node.Live js y k in
      subst (IsThere w) (sym from.2) (subst (λ j. j < length w.objects) from.1.2 (h from.1.0 from.0 from.1.1))
  held_there true n r (Held.Many Collection.Unfetched) h y k = nodes_there _ y k
  held_there false n r (Held.Many Collection.Unfetched) h y k = absurd (none_in y k)

  holds_there : (n r : ℕ) → n < length w.objects → HoldsWithin (length w.objects) (held_at (object w n) r)
  holds_there n r within =
      ⊎_elim (λ (l : r < length (object w n).relations). linked n _ within r (Held.One Link.None) l)
      (λ (l : length (object w n).relations ≤ r). subst (HoldsWithin (length w.objects)) (sym (get_or_past (object w n).relations r (Held.One Link.None) l)) tt) (cases_lt r (length (object w n).relations))

  step_there : (op : Operation) (x y : Node) → IsThere w x → CascadesTo m op w x y → IsThere w y
  step_there op (Node.Live n) y h way = held_there (reaches_unread op) n way.0 (held_at (object w n) way.0) (holds_there n way.0 h) y way.3
  step_there op (Node.Bare id) y h way = nodes_there _ y way.4

  way_there : (op : Operation) (start : ℕ) → start < length w.objects → (steps : ℕ) (x : Node) → IsReachedIn (CascadesTo m op w) (Node.Live start) steps x → IsThere w x
  way_there op start h zero x e = subst (IsThere w) (sym e) h
  way_there op start h (suc steps) x way = step_there op way.0 x (way_there op start h steps way.0 way.1) way.2

pub waves_are_there : WavesAreThere
waves_are_there m op w start linked entries within i d less =
    let node = get_or (waves m op w start) i d in
    let reached = ((cascades_reach m op w start).exact node).0 (Contains-get_or (waves m op w start) i d less) in
    way_there m w linked entries op start within reached.0 node reached.1

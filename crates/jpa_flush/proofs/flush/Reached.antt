-- Persist along cascades: what an object leads to stands in the heap, and the context is gone through place by place.
use Rattle.std.specs.Prelude.{◌≡◌, ◌<◌, ◌≤◌, ◌+◌, ◌-◌, ℕ, zero, suc, Bool, true, false, All, List, [], ◌∷◌, ◌++◌, map, length, if◌then◌else◌}
use Rattle.std.specs.List.{flat_map, enumerate_from}
use Rattle.std.proofs.Common.{refl, sym, ap, subst, ◌∙◌, arith, get_or, drop, ⊎_elim}
use Rattle.std.proofs.lemmas.Bool.{cases_lt}
use Rattle.std.proofs.lemmas.List.{at_drop_more, get_or_past}
use Rattle.std.proofs.lemmas.List.Elements.{All-append, All-nil}
use Rattle.std.proofs.lemmas.Option.{slice_get_past, slice_get_read}
use Rattle.jpa_value.specs.declared.refusal.Cause.{Cause}
use Rattle.jpa_protocol.specs.declared.event.Told.{Told}
use Rattle.jpa_model.specs.declared.unit.PersistenceUnit.{PersistenceUnit}
use Rattle.jpa_model.specs.declared.unit.Relation.{Relation}
use Rattle.jpa_model.specs.Chains.{relations_of}
use Rattle.jpa_behaviour.specs.Behaviour.{World}
use Rattle.jpa_work.specs.declared.heap.Held.{Held}
use Rattle.jpa_work.specs.declared.heap.Link.{Link}
use Rattle.jpa_work.specs.declared.heap.Collection.{Collection}
use Rattle.jpa_work.specs.heap.Objects.{no_object, held_at}
use Rattle.jpa_work.specs.declared.context.Entry.{Entry}
use Rattle.jpa_work.specs.context.Steps.{Outcome, Done, Op, after, each, IsRefusedAs}
use Rattle.jpa_work.specs.context.Work.{Work, object, state_of}
use Rattle.jpa_cascade.specs.declared.Node.{Node}
use Rattle.jpa_cascade.specs.declared.Operation.{Operation}
use Rattle.jpa_cascade.specs.Waves.{goes_along, goes_from, nodes_held, live_targets_along, targets, live_nodes}
use Rattle.jpa_operations.specs.fetch.Grown.{objects_held, AreLinked}
use Rattle.jpa_flush.specs.flush.Flush.{persist_targets, persist_behind, persist_from}

-- ---- one after another

refused_after : {A B : Type 0} (r : Cause) (events : List Told) (o : Outcome A) (f : A → Op B) → IsRefusedAs r events o → IsRefusedAs r events (after o f)
refused_after Cause.OutOfMemory events o f h = tt
refused_after Cause.StoreFault events o f h = h
refused_after r events o f h = ap (λ p. after p f) h

next : {X : Type 0} (f : X → Op (Unit {0})) (xs : List X) (i : ℕ) (x : X) (w : Work) → i < length xs → x ≡ get_or xs i x → each f (drop i xs) w ≡ after (f x w) (λ _. each f (drop (i + 1) xs))
next f xs i x w l is = at_drop_more (λ ys. each f ys w) xs i x l ∙ ap (λ y. after (f y w) (λ _. each f (drop (i + 1) xs))) (sym is)

pub next_done : {X : Type 0} (f : X → Op (Unit {0})) (xs : List X) (i : ℕ) (x : X) (w w' : Work) → i < length xs → x ≡ get_or xs i x → f x w ≡ Done tt w' →
    each f (drop (i + 1) xs) w' ≡ each f (drop i xs) w
next_done f xs i x w w' l is done = sym (next f xs i x w l is ∙ ap (λ o. after o (λ _. each f (drop (i + 1) xs))) done)

pub next_refused : {X : Type 0} (f : X → Op (Unit {0})) (xs : List X) (i : ℕ) (x : X) (w : Work) (r : Cause) (events : List Told) → i < length xs → x ≡ get_or xs i x → IsRefusedAs r events (f x w) →
    IsRefusedAs r events (each f (drop i xs) w)
next_refused f xs i x w r events l is h = subst (IsRefusedAs r events) (sym (next f xs i x w l is)) (refused_after r events (f x w) (λ _. each f (drop (i + 1) xs)) h)

-- ---- what an object leads to stands in the heap

live_append : (xs ys : List Node) → live_nodes (xs ++ ys) ≡ live_nodes xs ++ live_nodes ys
live_append [] ys = refl
live_append (Node.Live n ∷ xs) ys = ap (λ ns. n ∷ ns) (live_append xs ys)
live_append (Node.Bare id ∷ xs) ys = live_append xs ys

live_mapped : (ks : List ℕ) → live_nodes (map Node.Live ks) ≡ ks
live_mapped [] = refl
live_mapped (k ∷ ks) = ap (λ ns. k ∷ ns) (live_mapped ks)

live_held : (m : PersistenceUnit) (w : Work) (n r : ℕ) (held : Held) → live_nodes (nodes_held m w false n r held) ≡ objects_held held
live_held m w n r (Held.One Link.None) = refl
live_held m w n r (Held.One (Link.Object k)) = refl
live_held m w n r (Held.One (Link.Key id)) = refl
live_held m w n r (Held.Many (Collection.Fetched ks)) = live_mapped ks
live_held m w n r (Held.Many Collection.Unfetched) = refl

module _ (m : PersistenceUnit) (w : Work) (linked : AreLinked w.objects) (n : ℕ) (within : n < length w.objects) where
  abbrev AreWithin : List Node → Type 0
  AreWithin nodes = All (λ (k : ℕ). k < length w.objects) (live_nodes nodes)

  none_within : AreWithin []
  none_within = All-nil (λ (k : ℕ). k < length w.objects)

  holds_within : (r : ℕ) → All (λ (k : ℕ). k < length w.objects) (objects_held (held_at (object w n) r))
  holds_within r =
      ⊎_elim (λ (l : r < length (object w n).relations). linked n no_object within r (Held.One Link.None) l)
      (λ (l : length (object w n).relations ≤ r). subst (λ (h : Held). All (λ (k : ℕ). k < length w.objects) (objects_held h)) (sym (get_or_past (object w n).relations r (Held.One Link.None) l)) none_within)
      (cases_lt r (length (object w n).relations))

  along_within : (p : ℕ × Relation) → AreWithin (live_targets_along m Operation.Persist w n p)
  along_within p = by (goes_along Operation.Persist p.1)
    where
      by : (b : Bool) → AreWithin (if b then nodes_held m w false n p.0 (held_at (object w n) p.0) else [])
      by true = subst (All (λ (k : ℕ). k < length w.objects)) (sym (live_held m w n p.0 (held_at (object w n) p.0))) (holds_within p.0)
      by false = none_within

  all_within : (ps : List (ℕ × Relation)) → AreWithin (flat_map (live_targets_along m Operation.Persist w n) ps)
  all_within [] = none_within
  all_within (p ∷ ps) =
      let first = live_targets_along m Operation.Persist w n p in
      let rest = flat_map (live_targets_along m Operation.Persist w n) ps in
      subst (All (λ (k : ℕ). k < length w.objects)) (sym (live_append first rest)) (All-append (λ (k : ℕ). k < length w.objects) (live_nodes first) (live_nodes rest) (along_within p) (all_within ps))

  pub targets_within : AreWithin (targets m Operation.Persist w (Node.Live n))
  targets_within = by (goes_from Operation.Persist (state_of w n))
    where
      by : (b : Bool) → AreWithin (if b then flat_map (live_targets_along m Operation.Persist w n) (enumerate_from 0 (relations_of m (object w n).class)) else [])
      by true = all_within (enumerate_from 0 (relations_of m (object w n).class))
      by false = none_within

-- ---- place by place

-- past the context there is nothing to do
pub past : (world : World) (bound i : ℕ) (w : Work) → length w.context ≤ i → persist_from world bound i w ≡ Done tt w
past world zero i w l = refl
past world (suc bound) i w l =
    ap (λ o. after (persist_behind world o w) (λ _. persist_from world bound (suc i))) (slice_get_past w.context i l)
    ∙ past world bound (suc i) w (omega (arith, l))

one_less : (bound i : ℕ) → i < bound → bound - i ≡ suc (bound - (i + 1))
one_less bound i l = omega arith

one_on : (i : ℕ) → suc i ≡ i + 1
one_on i = omega arith

module _ (world : World) (bound i : ℕ) (w : Work) (e : Entry) (l : i < bound) (within : i < length w.context) (is : e ≡ get_or w.context i e) where
  turn : persist_from world (bound - i) i w ≡ after (persist_targets world e.object (state_of w e.object) w) (λ _. persist_from world (bound - (i + 1)) (i + 1))
  turn =
      ap (λ b. persist_from world b i w) (one_less bound i l)
      ∙ ap (λ o. after (persist_behind world o w) (λ _. persist_from world (bound - (i + 1)) (suc i))) (slice_get_read w.context (length w.context) i e refl within is)
      ∙ ap (λ k. after (persist_targets world e.object (state_of w e.object) w) (λ _. persist_from world (bound - (i + 1)) k)) (one_on i)

  pub turn_done : (w' : Work) → persist_targets world e.object (state_of w e.object) w ≡ Done tt w' → persist_from world (bound - (i + 1)) (i + 1) w' ≡ persist_from world (bound - i) i w
  turn_done w' done = sym (turn ∙ ap (λ o. after o (λ _. persist_from world (bound - (i + 1)) (i + 1))) done)

  pub turn_refused : (r : Cause) (events : List Told) → IsRefusedAs r events (persist_targets world e.object (state_of w e.object) w) → IsRefusedAs r events (persist_from world (bound - i) i w)
  turn_refused r events h = subst (IsRefusedAs r events) (sym turn) (refused_after r events (persist_targets world e.object (state_of w e.object) w) (λ _. persist_from world (bound - (i + 1)) (i + 1)) h)

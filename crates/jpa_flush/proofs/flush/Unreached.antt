-- Persist along cascades and the removal of orphans do nothing where managed objects lead, along relations that cascade persist, to
-- managed ones alone, and have no orphans.
use Rattle.std.proofs.Common.{◌≡◌, ◌∙◌, ℕ, zero, suc, Bool, true, false, List, [], ◌∷◌, ◌++◌, map, length, refl, ap, subst, arith}
use Rattle.std.specs.Prelude.{◌==◌, ◌||◌, not, slice_get, Option, Some, None, if◌then◌else◌}
use Rattle.std.specs.List.{AllByRecursion, list_all, list_any, flat_map, enumerate_from}
use Rattle.std.proofs.lemmas.Bool.{and_parts, false≢true, eqb-true}
use Rattle.jpa_model.specs.declared.unit.PersistenceUnit.{PersistenceUnit}
use Rattle.jpa_model.specs.declared.unit.Relation.{Relation}
use Rattle.jpa_model.specs.Chains.{relations_of}
use Rattle.jpa_behaviour.specs.Behaviour.{World}
use Rattle.jpa_work.specs.declared.heap.Collection.{Collection}
use Rattle.jpa_work.specs.declared.heap.Held.{Held}
use Rattle.jpa_work.specs.declared.heap.Link.{Link}
use Rattle.jpa_work.specs.heap.Objects.{held_at}
use Rattle.jpa_work.specs.declared.context.Entry.{Entry}
use Rattle.jpa_work.specs.declared.context.EntityState.{EntityState}
use Rattle.jpa_work.specs.context.Steps.{Done, after, each}
use Rattle.jpa_work.specs.context.Work.{Work, object, state_of, is_managed}
use Rattle.jpa_cascade.specs.declared.Node.{Node}
use Rattle.jpa_cascade.specs.declared.Operation.{Operation}
use Rattle.jpa_cascade.specs.Waves.{live_nodes, live_targets_along, most_nodes, nodes_held, same_node, targets, unseen, waves, waves_by}
use Rattle.jpa_operations.specs.fetch.Grown.{objects_held}
use Rattle.jpa_operations.specs.ops.States.{persist, persist_node, persist_one}
use Rattle.jpa_flush.specs.flush.Flush.{orphans_of, persist_behind, persist_from, persist_reachable, persist_targets, remove_orphan, remove_orphans, remove_orphans_of}
use Rattle.jpa_flush.specs.flush.Marked.{AreEntered, are_linked, are_without_orphans, has_no_orphan, is_linked, is_linked_if_managed, leads_along, may_lead}
use Rattle.jpa_flush.proofs.flush.Gaps.{each_none}

module _ (world : World) (w : Work) where
  -- a node that persist leaves as it is
  abbrev IsKept : Node → Type 0
  IsKept (Node.Live n) = is_managed (state_of w n) ≡ true
  IsKept (Node.Bare id) = ⊥

  abbrev AreKept : List Node → Type 0
  AreKept xs = AllByRecursion IsKept xs

  both_kept : (xs ys : List Node) → AreKept xs → AreKept ys → AreKept (xs ++ ys)
  both_kept [] ys h g = g
  both_kept (x ∷ xs) ys h g = (h.0, both_kept xs ys h.1 g)

  new_kept : (seen xs : List Node) → AreKept xs → AreKept (unseen seen xs)
  new_kept seen [] h = tt
  new_kept seen (x ∷ xs) h = by (list_any (same_node x) seen) (new_kept seen xs h.1) (new_kept (seen ++ x ∷ []) xs h.1)
    where
      by : (b : Bool) → AreKept (unseen seen xs) → AreKept (unseen (seen ++ x ∷ []) xs) → AreKept (if b then unseen seen xs else x ∷ unseen (seen ++ x ∷ []) xs)
      by true k l = k
      by false k l = (h.0, l)

  module _ (leads : (n : ℕ) → is_managed (state_of w n) ≡ true → is_linked world.model w n ≡ true) where
    -- ---- the targets of a managed object are managed

    mapped : (ks : List ℕ) → list_all (λ k. may_lead true (state_of w k)) ks ≡ true → AreKept (map Node.Live ks)
    mapped [] h = tt
    mapped (k ∷ ks) h = let p = and_parts (is_managed (state_of w k)) (list_all (λ j. may_lead true (state_of w j)) ks) h in (p.0, mapped ks p.1)

    held : (n r : ℕ) (x : Held) → list_all (λ k. may_lead true (state_of w k)) (objects_held x) ≡ true → AreKept (nodes_held world.model w false n r x)
    held n r (Held.One Link.None) h = tt
    held n r (Held.One (Link.Object k)) h = ((and_parts (is_managed (state_of w k)) true h).0, tt)
    held n r (Held.One (Link.Key id)) h = tt
    held n r (Held.Many (Collection.Fetched ks)) h = mapped ks h
    held n r (Held.Many Collection.Unfetched) h = tt

    along : (n : ℕ) (p : ℕ × Relation) → leads_along w n p ≡ true → AreKept (live_targets_along world.model Operation.Persist w n p)
    along n p = by ((p.1).cascade).persist
      where
        by : (b : Bool) → list_all (λ k. may_lead b (state_of w k)) (objects_held (held_at (object w n) p.0)) ≡ true →
            AreKept (if b then nodes_held world.model w false n p.0 (held_at (object w n) p.0) else [])
        by true h = held n p.0 (held_at (object w n) p.0) h
        by false h = tt

    all_along : (n : ℕ) (ps : List (ℕ × Relation)) → list_all (leads_along w n) ps ≡ true → AreKept (flat_map (live_targets_along world.model Operation.Persist w n) ps)
    all_along n [] h = tt
    all_along n (p ∷ ps) h =
        let q = and_parts (leads_along w n p) (list_all (leads_along w n) ps) h in
        both_kept (live_targets_along world.model Operation.Persist w n p) _ (along n p q.0) (all_along n ps q.1)

    next_kept : (x : Node) → IsKept x → AreKept (targets world.model Operation.Persist w x)
    next_kept (Node.Live n) h = all_along n (enumerate_from 0 (relations_of world.model (object w n).class)) (leads n h)
    next_kept (Node.Bare id) h = absurd h

    wave_kept : (xs : List Node) → AreKept xs → AreKept (flat_map (targets world.model Operation.Persist w) xs)
    wave_kept [] h = tt
    wave_kept (x ∷ xs) h = both_kept (targets world.model Operation.Persist w x) _ (next_kept x h.0) (wave_kept xs h.1)

    -- ---- so are the waves

    waves_kept : (bound : ℕ) (before wave : List Node) → AreKept before → AreKept wave → AreKept (waves_by (targets world.model Operation.Persist w) bound before wave)
    waves_kept zero before wave h g = both_kept before wave h g
    waves_kept (suc bound) before [] h g = h
    waves_kept (suc bound) before (x ∷ xs) h g =
        waves_kept bound (before ++ x ∷ xs) (unseen (before ++ x ∷ xs) (flat_map (targets world.model Operation.Persist w) (x ∷ xs)))
        (both_kept before (x ∷ xs) h g) (new_kept (before ++ x ∷ xs) (flat_map (targets world.model Operation.Persist w) (x ∷ xs)) (wave_kept (x ∷ xs) g))

    managed_state : (s : EntityState) → is_managed s ≡ true → s ≡ EntityState.Managed
    managed_state EntityState.New h = absurd (false≢true h)
    managed_state EntityState.Managed h = refl
    managed_state EntityState.Removed h = absurd (false≢true h)
    managed_state EntityState.Detached h = absurd (false≢true h)

    -- ---- persist does nothing

    node_kept : (x : Node) → IsKept x → persist_node world x w ≡ Done tt w
    node_kept (Node.Live n) h = ap (λ s. persist_one world n s w) (managed_state (state_of w n) h)
    node_kept (Node.Bare id) h = absurd h

    nodes_kept : (xs : List Node) → AreKept xs → AllByRecursion (λ x. persist_node world x w ≡ Done tt w) xs
    nodes_kept [] h = tt
    nodes_kept (x ∷ xs) h = (node_kept x h.0, nodes_kept xs h.1)

    persist_none : (n : ℕ) → is_managed (state_of w n) ≡ true → persist world n w ≡ Done tt w
    persist_none n h =
        let xs = waves world.model Operation.Persist w n in
        each_none (persist_node world) w xs (nodes_kept xs (waves_kept (most_nodes w) [] (Node.Live n ∷ []) tt (h, tt)))

    each_persisted : (xs : List Node) → AreKept xs → AllByRecursion (λ n. persist world n w ≡ Done tt w) (live_nodes xs)
    each_persisted [] h = tt
    each_persisted (Node.Live n ∷ xs) h = (persist_none n h.0, each_persisted xs h.1)
    each_persisted (Node.Bare id ∷ xs) h = absurd h.0

    targets_none : (n : ℕ) (s : EntityState) → state_of w n ≡ s → persist_targets world n s w ≡ Done tt w
    targets_none n EntityState.Managed e =
        each_none (persist world) w (live_nodes (targets world.model Operation.Persist w (Node.Live n))) (each_persisted (targets world.model Operation.Persist w (Node.Live n)) (next_kept (Node.Live n) (ap is_managed e)))
    targets_none n EntityState.New e = refl
    targets_none n EntityState.Removed e = refl
    targets_none n EntityState.Detached e = refl

    behind_none : (o : Option Entry) → persist_behind world o w ≡ Done tt w
    behind_none None = refl
    behind_none (Some e) = targets_none e.object (state_of w e.object) refl

    from_none : (bound i : ℕ) → persist_from world bound i w ≡ Done tt w
    from_none zero i = refl
    from_none (suc bound) i = ap (λ o. after o (λ _. persist_from world bound (suc i))) (behind_none (slice_get w.context i)) ∙ from_none bound (suc i)

    pub reachable_none : persist_reachable world w ≡ Done tt w
    reachable_none = from_none (length w.objects) 0

  -- ---- orphans

  abbrev HasNone : Entry → Type 0
  HasNone e = orphans_of world.model w e.object (state_of w e.object) ≡ []

  without : (es : List Entry) → AllByRecursion HasNone es → AllByRecursion (λ e. remove_orphans_of world e w ≡ Done tt w) es
  without [] h = tt
  without (e ∷ es) h = (ap (λ ids. each (remove_orphan world) ids w) h.0, without es h.1)

  pub orphans_none : AllByRecursion HasNone w.context → remove_orphans world w ≡ Done tt w
  orphans_none h = each_none (remove_orphans_of world) w w.context (without w.context h)

none_listed : {X : Type 0} (xs : List X) → (length xs == 0) ≡ true → xs ≡ []
none_listed [] h = refl
none_listed (x ∷ xs) h = let e = eqb-true (length (x ∷ xs)) 0 h in absurd (omega (arith, e))

all_without : (m : PersistenceUnit) (w : Work) (es : List Entry) → list_all (λ (e : Entry). has_no_orphan m w e.object) es ≡ true → AllByRecursion (λ (e : Entry). orphans_of m w e.object (state_of w e.object) ≡ []) es
all_without m w [] h = tt
all_without m w (e ∷ es) h =
    let p = and_parts (has_no_orphan m w e.object) (list_all (λ (x : Entry). has_no_orphan m w x.object) es) h in
    (none_listed (orphans_of m w e.object (state_of w e.object)) p.0, all_without m w es p.1)

-- where no object of the context has an orphan
pub removes_none : (world : World) (w : Work) → are_without_orphans world.model w ≡ true → remove_orphans world w ≡ Done tt w
removes_none world w h = orphans_none world w (all_without world.model w w.context h)

any_has : (P : ℕ → Type 0) (n : ℕ) (es : List Entry) → list_any (λ (e : Entry). e.object == n) es ≡ true → AllByRecursion (λ (e : Entry). P e.object) es → P n
any_has P n [] h g = absurd (false≢true h)
any_has P n (e ∷ es) h g = by (e.object == n) refl h (λ k. any_has P n es k g.1)
  where
    by : (b : Bool) → (e.object == n) ≡ b → (b || list_any (λ (x : Entry). x.object == n) es) ≡ true → (list_any (λ (x : Entry). x.object == n) es ≡ true → P n) → P n
    by true q k rest = subst P (eqb-true e.object n q) g.0
    by false q k rest = rest k

all_linked : (m : PersistenceUnit) (w : Work) (es : List Entry) → list_all (λ (e : Entry). is_linked_if_managed m w e.object) es ≡ true →
    AllByRecursion (λ (e : Entry). is_managed (state_of w e.object) ≡ true → is_linked m w e.object ≡ true) es
all_linked m w [] h = tt
all_linked m w (e ∷ es) h =
    let p = and_parts (is_linked_if_managed m w e.object) (list_all (λ (x : Entry). is_linked_if_managed m w x.object) es) h in
    (λ managed. by (is_managed (state_of w e.object)) p.0 managed, all_linked m w es p.1)
  where
    by : (b : Bool) → (not b || is_linked m w e.object) ≡ true → b ≡ true → is_linked m w e.object ≡ true
    by true h k = h
    by false h k = absurd (false≢true k)

-- where each managed object of the context is linked
pub linked_none : (world : World) (w : Work) → AreEntered w → are_linked world.model w ≡ true → persist_reachable world w ≡ Done tt w
linked_none world w entered h =
    reachable_none world w (λ n managed.
    any_has (λ k. is_managed (state_of w k) ≡ true → is_linked world.model w k ≡ true) n w.context (entered n managed) (all_linked world.model w w.context h) managed)

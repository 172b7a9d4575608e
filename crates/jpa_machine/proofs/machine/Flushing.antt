-- The laws of a flush: once, for whatever its steps keep.
use Rattle.std.proofs.Common.{◌≡◌, ◌<◌, ℕ, zero, suc, Bool, true, false, List, [], ◌∷◌, length, map, refl, ap, sym, subst}
use Rattle.std.specs.Prelude.{Option, Some, None, is_some, slice_get, if◌then◌else◌}
use Rattle.std.specs.List.{All, AllByRecursion, enumerate_from, flat_map, list_all}
use Rattle.std.specs.Option.{unwrap_or}
use Rattle.std.proofs.lemmas.Bool.{false≢true}
use Rattle.std.proofs.lemmas.List.Elements.{recursion_from_All}
use Rattle.jpa_value.specs.declared.value.Identity.{Identity}
use Rattle.jpa_value.specs.declared.refusal.Cause.{Cause}
use Rattle.jpa_value.specs.declared.refusal.PersistenceFault.{PersistenceFault}
use Rattle.jpa_value.specs.declared.refusal.State.{State}
use Rattle.jpa_value.specs.declared.event.LifecycleEvent.{LifecycleEvent}
use Rattle.jpa_model.specs.declared.unit.PersistenceUnit.{PersistenceUnit}
use Rattle.jpa_model.specs.declared.unit.Relation.{Relation}
use Rattle.jpa_model.specs.Chains.{relations_of}
use Rattle.jpa_behaviour.specs.Behaviour.{World}
use Rattle.jpa_stored.specs.declared.objects.stored.Stored.{Stored}
use Rattle.jpa_stored.specs.objects.Sets.{fault_of}
use Rattle.jpa_work.specs.declared.heap.Link.{Link}
use Rattle.jpa_work.specs.declared.heap.Collection.{Collection}
use Rattle.jpa_work.specs.declared.heap.Held.{Held}
use Rattle.jpa_work.specs.heap.Objects.{held_at}
use Rattle.jpa_work.specs.declared.context.Entry.{Entry}
use Rattle.jpa_work.specs.declared.context.EntityState.{EntityState}
use Rattle.jpa_work.specs.context.Work.{Work, instance, object, row, state_of}
use Rattle.jpa_work.specs.context.Steps.{Done, Op, Outcome, Refused, after, each}
use Rattle.jpa_cascade.specs.declared.Node.{Node}
use Rattle.jpa_cascade.specs.declared.Operation.{Operation}
use Rattle.jpa_cascade.specs.There.{HoldsWithin}
use Rattle.jpa_cascade.specs.Waves.{goes_along, goes_from, live_nodes, live_targets_along, nodes_held, targets}
use Rattle.jpa_operations.specs.fetch.Load.{load}
use Rattle.jpa_operations.specs.ops.States.{persist, remove}
use Rattle.jpa_flush.specs.flush.Flush.{Action, Drop, Insert, Replace, action_of, actions, after_flush, check_actions, check_links, check_one, flush, flushed, links_stored, orphans_of, persist_behind, persist_from, persist_reachable, persist_targets, planned, post, post_event, pre_update, pre_update_for, pre_update_one, remove_instance, remove_orphan, remove_orphan_in, remove_orphans, remove_orphans_of, sound_or, write_all}
use Rattle.jpa_machine.specs.machine.Going.{HoldsAfter}
use Rattle.jpa_machine.proofs.machine.Going.{More, after_holds, each_goes, no_more, require_holds, then_from, then_goes, within_more}
use Rattle.jpa_machine.proofs.machine.Laws.{IsWithin, Steps, load_goes, persist_goes, remove_goes}
use Rattle.jpa_machine.proofs.machine.Members.{Leads, holds_at_place, instance_leads}
use Rattle.jpa_machine.proofs.machine.Planned.{Checked, all_appended, check_action_holds}

-- ---- where the targets of an object are

held_within : (m : PersistenceUnit) (w : Work) (n r : ℕ) (h : Held) → HoldsWithin (length w.objects) h → AllByRecursion (λ x. IsWithin x w) (nodes_held m w false n r h)
held_within m w n r (Held.One Link.None) l = tt
held_within m w n r (Held.One (Link.Object k)) l = (l, tt)
held_within m w n r (Held.One (Link.Key id)) l = tt
held_within m w n r (Held.Many (Collection.Fetched ks)) l = each_within ks (recursion_from_All (λ k. k < length w.objects) ks l)
  where
    each_within : (js : List ℕ) → AllByRecursion (λ k. k < length w.objects) js → AllByRecursion (λ x. IsWithin x w) (map Node.Live js)
    each_within [] h = tt
    each_within (j ∷ js) h = (h.0, each_within js h.1)
held_within m w n r (Held.Many Collection.Unfetched) l = tt

module _ (m : PersistenceUnit) (w : Work) (n : ℕ) (holds : (r : ℕ) → HoldsWithin (length w.objects) (held_at (object w n) r)) where
  along_within : (ps : List (ℕ × Relation)) → AllByRecursion (λ x. IsWithin x w) (flat_map (live_targets_along m Operation.Persist w n) ps)
  along_within [] = tt
  along_within (p ∷ ps) =
      all_appended (λ x. IsWithin x w) (live_targets_along m Operation.Persist w n p) (flat_map (live_targets_along m Operation.Persist w n) ps)
      (by_test (goes_along Operation.Persist p.1)) (along_within ps)
    where
      by_test : (b : Bool) → AllByRecursion (λ x. IsWithin x w) (if b then nodes_held m w false n p.0 (held_at (object w n) p.0) else [])
      by_test true = held_within m w n p.0 (held_at (object w n) p.0) (holds p.0)
      by_test false = tt

  targets_within : AllByRecursion (λ x. IsWithin x w) (targets m Operation.Persist w (Node.Live n))
  targets_within = by_test (goes_from Operation.Persist (state_of w n))
    where
      by_test : (b : Bool) → AllByRecursion (λ x. IsWithin x w) (if b then flat_map (live_targets_along m Operation.Persist w n) (enumerate_from 0 (relations_of m (object w n).class)) else [])
      by_test true = along_within (enumerate_from 0 (relations_of m (object w n).class))
      by_test false = tt

pub live_within : (w : Work) (xs : List Node) → AllByRecursion (λ x. IsWithin x w) xs → AllByRecursion (λ k. k < length w.objects) (live_nodes xs)
live_within w [] h = tt
live_within w (Node.Live n ∷ xs) h = (h.0, live_within w xs h.1)
live_within w (Node.Bare id ∷ xs) h = live_within w xs h.1

got_has : {A : Type 0} (Q : A → Type 0) (xs : List A) (i : ℕ) (x : A) → AllByRecursion Q xs → slice_get xs i ≡ Some x → Q x
got_has Q [] i x h e = absurd (false≢true (ap is_some e))
got_has Q (y ∷ ys) zero x h e = subst Q (ap (λ o. unwrap_or o x) e) h.0
got_has Q (y ∷ ys) (suc i) x h e = got_has Q ys i x h.1 e

-- ---- what the checks leave known

-- the checks change nothing
pub checks_hold : (world : World) (es : List Entry) (w : Work) →
    HoldsAfter (λ u w'. (w' ≡ w) × AllByRecursion (λ (e : Entry). Checked world w e.object (action_of world.model w e)) es) (each (check_one world) es w)
checks_hold world [] w = (refl, tt)
checks_hold world (e ∷ es) w =
    after_holds _ (λ u w'. (w' ≡ w) × Checked world w e.object (action_of world.model w e)) (check_one world e w) _ (check_action_holds world w e (action_of world.model w e))
    (λ u v h. subst (λ v'. HoldsAfter (λ u' w'. (w' ≡ w) × AllByRecursion (λ (e' : Entry). Checked world w e'.object (action_of world.model w e')) (e ∷ es)) (each (check_one world) es v')) (sym h.0)
    (weaker (each (check_one world) es w) (λ u' w' k. (k.0, (h.1, k.1))) (checks_hold world es w)))
  where
    weaker : {P Q : Unit {0} → Work → Type 0} (o : Outcome (Unit {0})) → ((u : Unit {0}) (v : Work) → P u v → Q u v) → HoldsAfter P o → HoldsAfter Q o
    weaker (Done u v) k h = k u v h
    weaker (Refused r es) k h = tt

abbrev pub AreChecked : World → Work → Type 0
AreChecked world w = AllByRecursion (λ (e : Entry). Checked world w e.object (action_of world.model w e)) w.context

-- the work as what was planned is written, before the Post events
abbrev pub written_in : World → Work → Work
written_in world w = let plan = actions world.model w in after_flush world.model plan (flushed world.model w plan) w

-- what a flush keeps where it writes
abbrev pub KeepsWritten : World → (Work → Type 0) → Type 0
KeepsWritten world P = (w : Work) → P w → AreChecked world w → fault_of world.model (flushed world.model w (actions world.model w)) ≡ None → P (written_in world w) × More w (written_in world w)

sound_holds : (P : Unit {0} → Work → Type 0) (f : Option PersistenceFault) (w : Work) (next : Unit {0} → Op (Unit {0})) → (f ≡ None → HoldsAfter P (next tt w)) → HoldsAfter P (after (sound_or f w) next)
sound_holds P None w next k = k refl
sound_holds P (Some fault) w next k = tt

module _ {world : World} {P : Work → Type 0} (steps : Steps world P) where
  -- ---- persist along cascades

  persist_targets_goes : (n : ℕ) (s : EntityState) (w : Work) → P w → n < length w.objects → HoldsAfter (λ u v. P v × More w v) (persist_targets world n s w)
  persist_targets_goes n EntityState.Managed w p l =
      let ks = live_nodes (targets world.model Operation.Persist w (Node.Live n)) in
      each_goes P (λ k v. k < length v.objects) (persist world) (λ k w' v more j. within_more w' v k more j) (λ k v q j. persist_goes steps k v q j) ks w p
      (live_within w (targets world.model Operation.Persist w (Node.Live n)) (targets_within world.model w n (holds_at_place world w (steps.stands w p) n l)))
  persist_targets_goes n EntityState.New w p l = (p, no_more w)
  persist_targets_goes n EntityState.Removed w p l = (p, no_more w)
  persist_targets_goes n EntityState.Detached w p l = (p, no_more w)

  persist_behind_goes : (o : Option Entry) (w : Work) → P w → ((e : Entry) → o ≡ Some e → e.object < length w.objects) → HoldsAfter (λ u v. P v × More w v) (persist_behind world o w)
  persist_behind_goes None w p l = (p, no_more w)
  persist_behind_goes (Some e) w p l = persist_targets_goes e.object (state_of w e.object) w p (l e refl)

  persist_from_goes : (bound i : ℕ) (w : Work) → P w → HoldsAfter (λ u v. P v × More w v) (persist_from world bound i w)
  persist_from_goes zero i w p = (p, no_more w)
  persist_from_goes (suc bound) i w p =
      then_goes w (persist_behind world (slice_get w.context i) w) (λ u. persist_from world bound (suc i))
      (persist_behind_goes (slice_get w.context i) w p (λ e at. got_has (λ (x : Entry). x.object < length w.objects) w.context i e (entries_within w p) at))
      (λ u v q more. persist_from_goes bound (suc i) v q)
    where
      entries_within : (w : Work) → P w → AllByRecursion (λ (e : Entry). e.object < length w.objects) w.context
      entries_within w p = recursion_from_All (λ (e : Entry). e.object < length w.objects) w.context (steps.stands w p).entries

  pub persist_reachable_goes : (w : Work) → P w → HoldsAfter (λ u v. P v × More w v) (persist_reachable world w)
  persist_reachable_goes w p = persist_from_goes (length w.objects) 0 w p

  -- ---- orphans

  remove_instance_goes : (k : ℕ) (s : EntityState) (w : Work) → P w → k < length w.objects → HoldsAfter (λ u v. P v × More w v) (remove_instance world k s w)
  remove_instance_goes k EntityState.Managed w p l = remove_goes steps k w p l
  remove_instance_goes k EntityState.New w p l = (p, no_more w)
  remove_instance_goes k EntityState.Removed w p l = (p, no_more w)
  remove_instance_goes k EntityState.Detached w p l = (p, no_more w)

  remove_orphan_in_goes : (id : Identity) (k : Option ℕ) (x : Option Stored) (w : Work) → P w → instance world.model w id ≡ k → row w id ≡ x → HoldsAfter (λ u v. P v × More w v) (remove_orphan_in world id k x w)
  remove_orphan_in_goes id (Some k) x w p i e = remove_instance_goes k (state_of w k) w p (instance_leads world.model w id k (steps.stands w p).entries i).0
  remove_orphan_in_goes id None (Some x) w p i e =
      then_from (λ k v. Leads world.model id k v) w (load world id x w) (remove world) (load_goes steps id x w p e (ap is_some i)) (λ k v q more leads. remove_goes steps k v q leads.0)
  remove_orphan_in_goes id None None w p i e = (p, no_more w)

  remove_orphan_goes : (id : Identity) (w : Work) → P w → HoldsAfter (λ u v. P v × More w v) (remove_orphan world id w)
  remove_orphan_goes id w p = remove_orphan_in_goes id (instance world.model w id) (row w id) w p refl refl

  -- in order, whatever they are
  all_go : {A : Type 0} (f : A → Op (Unit {0})) → ((x : A) (w : Work) → P w → HoldsAfter (λ u v. P v × More w v) (f x w)) → (xs : List A) (w : Work) → P w → HoldsAfter (λ u v. P v × More w v) (each f xs w)
  all_go f k [] w p = (p, no_more w)
  all_go f k (x ∷ xs) w p = then_goes w (f x w) (λ u. each f xs) (k x w p) (λ u v q more. all_go f k xs v q)

  pub remove_orphans_goes : (w : Work) → P w → HoldsAfter (λ u v. P v × More w v) (remove_orphans world w)
  remove_orphans_goes w p = all_go (remove_orphans_of world) (λ e v q. all_go (remove_orphan world) remove_orphan_goes (orphans_of world.model v e.object (state_of v e.object)) v q) w.context w p

  -- ---- PreUpdate

  pre_update_for_goes : (e : Entry) (a : Option Action) (w : Work) → P w → e.object < length w.objects → HoldsAfter (λ u v. P v × More w v) (pre_update_for world e a w)
  pre_update_for_goes e (Some (Replace b)) w p l = steps.heard LifecycleEvent.PreUpdate e.object w p l
  pre_update_for_goes e (Some Insert) w p l = (p, no_more w)
  pre_update_for_goes e (Some (Drop b)) w p l = (p, no_more w)
  pre_update_for_goes e None w p l = (p, no_more w)

  -- of the objects of the context
  pub pre_update_law : (w : Work) → P w → HoldsAfter (λ u v. P v × More w v) (pre_update world w)
  pre_update_law w p =
      each_goes P (λ (e : Entry) v. e.object < length v.objects) (pre_update_one world) (λ e w' v more l. within_more w' v e.object more l)
      (λ e v q l. pre_update_for_goes e (action_of world.model v e) v q l) w.context w p
      (recursion_from_All (λ (e : Entry). e.object < length w.objects) w.context (steps.stands w p).entries)

  -- ---- the writing

  module _ (writes : KeepsWritten world P) where
    write_goes : (w : Work) → P w → AreChecked world w → HoldsAfter (λ u v. P v × More w v) (write_all world w)
    write_goes w p checked =
        let plan = actions world.model w in
        sound_holds (λ u v. P v × More w v) (fault_of world.model (flushed world.model w plan)) w _ (λ sound.
        let v = written_in world w in
        let done = writes w p checked sound in
        then_goes {A = Unit {0}} w (Done tt v) (λ u. each (post world) plan) done (λ u v' q more.
        each_goes P (λ (a : ℕ × Action) t. a.0 < length t.objects) (post world) (λ a w' t more' l. within_more w' t a.0 more' l)
        (λ a t r l. steps.heard (post_event a.1) a.0 t r l) plan v' q (plan_within w v' (steps.stands w p).entries more)))
      where
        entry_planned : (w v : Work) (e : Entry) (a : Option Action) → e.object < length w.objects → More w v → AllByRecursion (λ (b : ℕ × Action). b.0 < length v.objects) (planned world.model w e a)
        entry_planned w v e None l more = tt
        entry_planned w v e (Some a) l more = (within_more w v e.object more l, tt)

        context_planned : (w v : Work) (es : List Entry) → AllByRecursion (λ (e : Entry). e.object < length w.objects) es → More w v →
            AllByRecursion (λ (b : ℕ × Action). b.0 < length v.objects) (flat_map (λ (e : Entry). planned world.model w e (action_of world.model w e)) es)
        context_planned w v [] h more = tt
        context_planned w v (e ∷ es) h more =
            all_appended (λ (b : ℕ × Action). b.0 < length v.objects) (planned world.model w e (action_of world.model w e)) _
            (entry_planned w v e (action_of world.model w e) h.0 more) (context_planned w v es h.1 more)

        plan_within : (w v : Work) → All (λ (e : Entry). e.object < length w.objects) w.context → More w v → AllByRecursion (λ (b : ℕ × Action). b.0 < length v.objects) (actions world.model w)
        plan_within w v h more = context_planned w v w.context (recursion_from_All (λ (e : Entry). e.object < length w.objects) w.context h) more

    checked_goes : (w : Work) → P w → HoldsAfter (λ u v. P v × More w v) (after (check_actions world w) (λ u. write_all world))
    checked_goes w p =
        after_holds (λ u v. P v × More w v) (λ u v. (v ≡ w) × AreChecked world w) (check_actions world w) _ (checks_hold world w.context w)
        (λ u v k. subst (λ v'. HoldsAfter (λ u' t. P t × More w t) (write_all world v')) (sym k.0) (write_goes w p k.1))

    linked_goes : (w : Work) → P w → HoldsAfter (λ u v. P v × More w v) (after (check_links world w) (λ u v. after (pre_update world v) (λ u' v'. after (check_actions world v') (λ u''. write_all world))))
    linked_goes w p =
        require_holds (λ u v. P v × More w v) (list_all (links_stored world.model w) w.context) (Cause.IllegalState State.Reference) w _ (λ stored.
        then_goes w (pre_update world w) _ (pre_update_law w p) (λ u v q more. checked_goes v q))

    pub flush_law : (w : Work) → P w → HoldsAfter (λ u v. P v × More w v) (flush world w)
    flush_law w p =
        then_goes w (persist_reachable world w) _ (persist_reachable_goes w p) (λ u v q more.
        then_goes v (remove_orphans world v) _ (remove_orphans_goes v q) (λ u' v' r more'. linked_goes v' r))

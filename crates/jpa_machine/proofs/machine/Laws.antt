-- The laws of operations: each once, for whatever the steps keep of which they are made, in every unit.
use Rattle.std.proofs.Common.{◌≡◌, ◌<◌, ℕ, Bool, true, false, List, [], ◌∷◌, ◌++◌, length, refl, ap, sym, subst, ◌∙◌, arith}
use Rattle.std.specs.List.{AllByRecursion}
use Rattle.std.specs.Prelude.{nat_lt, Option, Some, None, is_some, ◌==◌, slice_set}
use Rattle.std.proofs.lemmas.Bool.{eq-eqb, eqb-true, ltb-true}
use Rattle.std.proofs.lemmas.List.{length-append, get_or_push}
use Rattle.std.proofs.lemmas.List.Elements.{All-weaker, recursion_from_All}
use Rattle.jpa_value.specs.Limits.{most_objects}
use Rattle.jpa_value.specs.declared.value.Value.{Value}
use Rattle.jpa_value.specs.declared.value.Identity.{Identity}
use Rattle.jpa_value.specs.declared.refusal.Argument.{Argument}
use Rattle.jpa_value.specs.declared.refusal.Cause.{Cause}
use Rattle.jpa_value.specs.declared.refusal.PersistenceFault.{PersistenceFault}
use Rattle.jpa_value.specs.declared.event.LifecycleEvent.{LifecycleEvent}
use Rattle.jpa_model.specs.Chains.{root_of, is_kind_of, is_versioned}
use Rattle.jpa_behaviour.specs.Behaviour.{World}
use Rattle.jpa_stored.specs.declared.objects.stored.Stored.{Stored}
use Rattle.jpa_stored.specs.objects.Sets.{is_rising}
use Rattle.jpa_work.specs.declared.heap.Life.{Life}
use Rattle.jpa_work.specs.declared.heap.LiveObject.{LiveObject}
use Rattle.jpa_work.specs.declared.context.Base.{Base}
use Rattle.jpa_work.specs.declared.context.EntityState.{EntityState}
use Rattle.jpa_work.specs.declared.context.Lock.{Lock}
use Rattle.jpa_work.specs.heap.Objects.{no_object, with_life}
use Rattle.jpa_work.specs.context.Work.{Work, object, state_of, is_managed, identity_at, instance, row, row_at, entry_of, base_of, with_object, with_life_of, entered, with_base, with_lock}
use Rattle.jpa_work.specs.context.Steps.{Op, Outcome, Done, Refused, after, give}
use Rattle.jpa_cascade.specs.declared.Node.{Node}
use Rattle.jpa_cascade.specs.declared.Operation.{Operation}
use Rattle.jpa_cascade.specs.There.{IsThere}
use Rattle.jpa_cascade.specs.Waves.{waves}
use Rattle.jpa_cascade.proofs.There.{waves_are_there}
use Rattle.jpa_lifecycle.specs.Callbacks.{callback}
use Rattle.jpa_operations.specs.fetch.Load.{object_loaded, base_loaded, made, load, reach, reached, found, found_row, find}
use Rattle.jpa_operations.specs.fetch.Members.{with_read}
use Rattle.jpa_operations.specs.ops.States.{cascaded, persist, persist_one, persist_node, become_managed, pre_persist_if, remove, remove_one, remove_live, remove_under, remove_node, refresh, refresh_row, refresh_one, refresh_node, reloaded, detach, detach_one, detach_node, let_go, lock, lock_in, locked}
use Rattle.jpa_machine.specs.machine.Consistent.{IsLive, is_held_by}
use Rattle.jpa_machine.specs.machine.Going.{HoldsAfter}
use Rattle.jpa_machine.proofs.machine.Kept.{KeepsClasses, keeps_more}
use Rattle.jpa_machine.proofs.machine.Going.{require_holds, after_holds, More, each_goes, more_on, no_more, then_from, then_goes, within_more}
use Rattle.jpa_machine.proofs.machine.Setting.{IsSet}
use Rattle.jpa_machine.proofs.machine.Changed.{keeps_set}
use Rattle.jpa_machine.proofs.machine.Persisted.{state_code, life_new, life_managed, life_removed}
use Rattle.jpa_machine.proofs.machine.Members.{IsStanding, Leads, instance_leads, leads_still, linked, row_table}

-- a row as the work has it once it is loaded, before PostLoad
abbrev pub loaded_in : World → Identity → Stored → Work → Work
loaded_in world id x w =
    let n = length w.objects in
    with_base n (Some (base_loaded world.model w.view id x)) (entered n (made (object_loaded world.model w.manager w.view id x) w))

-- what the steps keep
pub record Steps (world : World) (P : Work → Type 0) : Type 0 where
  pub stands : (w : Work) → P w → IsStanding world w
  pub heard : (event : LifecycleEvent) (n : ℕ) (w : Work) → P w → n < length w.objects → HoldsAfter (λ u v. P v × More w v) (callback world event n w)
  pub becomes : (n : ℕ) (w : Work) → P w → n < length w.objects → (object w n).life ≡ Life.New → HoldsAfter (λ u v. P v × More w v) (become_managed world n w)
  pub revives : (n : ℕ) (w : Work) → P w → n < length w.objects → (object w n).life ≡ Life.Removed w.manager → P (with_life_of n (Life.Managed w.manager) w)
  pub loads : (id : Identity) (x : Stored) (w : Work) → P w → row w id ≡ Some x → is_some (instance world.model w id) ≡ false → length w.objects < most_objects → P (loaded_in world id x w)
  pub sets : (n : ℕ) (y : LiveObject) (w : Work) → P w → n < length w.objects → IsSet world.model w.objects (object w n) y → P (with_object n y w)
  pub reads : (n r : ℕ) (ids : List Identity) (w : Work) → P w → is_rising ids ≡ true → P (with_read n r ids w)
  pub removes : (n : ℕ) (w : Work) → P w → n < length w.objects → (object w n).life ≡ Life.Managed w.manager → P (with_life_of n (Life.Removed w.manager) w)
  pub reloads : (n : ℕ) (id : Identity) (x : Stored) (w : Work) → P w → n < length w.objects → (object w n).life ≡ Life.Managed w.manager → identity_at world.model w n ≡ Some id → row w id ≡ Some x →
      (object w n).class ≡ x.class → P (reloaded world n id x w)
  pub lets_go : (n : ℕ) (w : Work) → P w → n < length w.objects → is_held_by w.manager (object w n).life ≡ true → P (let_go n w)
  pub makes : (x : LiveObject) (w : Work) → P w → IsLive world.model (w.objects ++ x ∷ []) x → x.life ≡ Life.New → length w.objects < most_objects → P (made x w)
  pub locks : (n : ℕ) (l : Lock) (w : Work) → P w → P (with_lock n l w)

-- an object of the same class in the place of one
pub set_more : (n : ℕ) (y : LiveObject) (w v : Work) → n < length w.objects → y.class ≡ (object w n).class → v.objects ≡ slice_set w.objects n y → More w v
set_more n y w v l c e = subst (KeepsClasses w.objects) (sym e) (keeps_set w.objects n y l c)

-- a node of a cascade that is an object is one of the heap
abbrev pub IsWithin : Node → Work → Type 0
IsWithin (Node.Live n) w = n < length w.objects
IsWithin (Node.Bare id) w = Unit {0}

within_still : (x : Node) (w v : Work) → More w v → IsWithin x w → IsWithin x v
within_still (Node.Live n) w v more l = within_more w v n more l
within_still (Node.Bare id) w v more l = tt

there_within : (w : Work) (x : Node) → IsThere w x → IsWithin x w
there_within w (Node.Live n) h = h
there_within w (Node.Bare id) h = tt

module _ {world : World} {P : Work → Type 0} (steps : Steps world P) where
  -- ---- along a cascade

  -- its objects are in the heap
  pub waves_within : (op : Operation) (n : ℕ) (w : Work) → P w → n < length w.objects → AllByRecursion (λ x. IsWithin x w) (waves world.model op w n)
  waves_within op n w p l =
      let stands = steps.stands w p in
      let nodes = waves world.model op w n in
      recursion_from_All (λ x. IsWithin x w) nodes
      (All-weaker (IsThere w) (λ x. IsWithin x w) (there_within w) nodes (waves_are_there world.model op w n (linked w.objects stands.objects) stands.entries l))

  cascade_goes : (op : Operation) (visit : Node → Op (Unit {0})) → ((x : Node) (w : Work) → P w → IsWithin x w → HoldsAfter (λ u v. P v × More w v) (visit x w)) →
      (n : ℕ) (w : Work) → P w → n < length w.objects → HoldsAfter (λ u v. P v × More w v) (cascaded world op visit n w)
  cascade_goes op visit goes n w p l = each_goes P IsWithin visit within_still goes (waves world.model op w n) w p (waves_within op n w p l)

  -- ---- load, find and reach

  pub load_goes : (id : Identity) (x : Stored) (w : Work) → P w → row w id ≡ Some x → is_some (instance world.model w id) ≡ false →
      HoldsAfter (λ n v. P v × More w v × Leads world.model id n v) (load world id x w)
  load_goes id x w p e free =
      let n = length w.objects in
      let y = object_loaded world.model w.manager w.view id x in
      let v = loaded_in world id x w in
      let within : n < length v.objects = let s = length-append w.objects (y ∷ []) in omega (arith, s) in
      let leads : Leads world.model id n v = (within, subst (λ (z : LiveObject). ((root_of world.model z.class).table == id.table) ≡ true) (sym (get_or_push w.objects y no_object n refl)) (row_table world id x w (steps.stands w p) e)) in
      require_holds (λ n v. P v × More w v × Leads world.model id n v) (nat_lt n most_objects) Cause.Limit w _ (λ few.
      told_after id n w v (keeps_more w.objects y) leads (callback world LifecycleEvent.PostLoad n v) (steps.heard LifecycleEvent.PostLoad n v (steps.loads id x w p e free (ltb-true n most_objects few)) within))
    where
      told_after : (id : Identity) (n : ℕ) (w v : Work) → More w v → Leads world.model id n v → (o : Outcome (Unit {0})) → HoldsAfter (λ u t. P t × More v t) o →
          HoldsAfter (λ k t. P t × More w t × Leads world.model id k t) (after o (λ u. give n))
      told_after id n w v more leads (Done u t) h = (h.0, more_on w v t more h.1, leads_still world.model id n v t h.1 leads)
      told_after id n w v more leads (Refused r events) h = tt

  reached_goes : (r : Cause) (id : Identity) (n : Option ℕ) (o : Option Stored) (w : Work) → P w → instance world.model w id ≡ n → row w id ≡ o →
      HoldsAfter (λ k v. P v × More w v × Leads world.model id k v) (reached world r id n o w)
  reached_goes r id (Some k) o w p i e = (p, no_more w, instance_leads world.model w id k (steps.stands w p).entries i)
  reached_goes r id None (Some x) w p i e = load_goes id x w p e (ap is_some i)
  reached_goes r id None None w p i e = tt

  pub reach_goes : (r : Cause) (id : Identity) (w : Work) → P w → HoldsAfter (λ k v. P v × More w v × Leads world.model id k v) (reach world r id w)
  reach_goes r id w p = reached_goes r id (instance world.model w id) (row w id) w p refl refl

  found_row_goes : (class : ℕ) (id : Identity) (x : Stored) (b : Bool) (w : Work) → P w → row w id ≡ Some x → is_some (instance world.model w id) ≡ false → HoldsAfter (λ n v. P v) (found_row world class id x b w)
  found_row_goes class id x true w p e free =
      after_holds (λ n v. P v) (λ n v. P v × More w v × Leads world.model id n v) (load world id x w) _ (load_goes id x w p e free) (λ n v k. k.0)
  found_row_goes class id x false w p e free = p

  found_goes : (class : ℕ) (id : Identity) (o : Option ℕ) (s : Option Stored) (w : Work) → P w → instance world.model w id ≡ o → row w id ≡ s → HoldsAfter (λ n v. P v) (found world class id o s w)
  found_goes class id (Some n) s w p i r = p
  found_goes class id None (Some x) w p i r = found_row_goes class id x (is_kind_of world.model x.class class) w p r (ap is_some i)
  found_goes class id None None w p i r = p

  pub find_goes : (class : ℕ) (key : List Value) (w : Work) → P w → HoldsAfter (λ n v. P v) (find world class key w)
  find_goes class key w p =
      let id : Identity = record { table = (root_of world.model class).table; key = key } in
      found_goes class id (instance world.model w id) (row w id) w p refl refl

  -- ---- persist

  pre_persist_goes : (n : ℕ) (b : Option Base) (w : Work) → P w → n < length w.objects → HoldsAfter (λ u v. P v × More w v) (pre_persist_if world n b w)
  pre_persist_goes n None w p l = steps.heard LifecycleEvent.PrePersist n w p l
  pre_persist_goes n (Some b) w p l = (p, no_more w)

  persist_one_goes : (n : ℕ) (s : EntityState) (w : Work) → state_of w n ≡ s → P w → n < length w.objects → HoldsAfter (λ u v. P v × More w v) (persist_one world n s w)
  persist_one_goes n EntityState.New w e p l =
      then_goes w (become_managed world n w) (λ u. callback world LifecycleEvent.PrePersist n) (steps.becomes n w p l (life_new w.manager (object w n).life (ap state_code e)))
      (λ u v q more. steps.heard LifecycleEvent.PrePersist n v q (within_more w v n more l))
  persist_one_goes n EntityState.Managed w e p l = (p, no_more w)
  persist_one_goes n EntityState.Removed w e p l =
      let life = Life.Managed w.manager in
      let v = with_life_of n life w in
      then_goes {A = Unit {0}} w (Done tt v) (λ u v'. pre_persist_if world n (base_of v' n) v')
      (steps.revives n w p l (life_removed w.manager (object w n).life (ap state_code e)), set_more n (with_life (object w n) life) w v l refl refl)
      (λ u v' q more. pre_persist_goes n (base_of v' n) v' q (within_more w v' n more l))
  persist_one_goes n EntityState.Detached w e p l = tt

  persist_node_goes : (x : Node) (w : Work) → P w → IsWithin x w → HoldsAfter (λ u v. P v × More w v) (persist_node world x w)
  persist_node_goes (Node.Live n) w p l = persist_one_goes n (state_of w n) w refl p l
  persist_node_goes (Node.Bare id) w p l = (p, no_more w)

  pub persist_goes : (n : ℕ) (w : Work) → P w → n < length w.objects → HoldsAfter (λ u v. P v × More w v) (persist world n w)
  persist_goes = cascade_goes Operation.Persist (persist_node world) persist_node_goes

  -- ---- remove

  remove_one_goes : (n : ℕ) (s : EntityState) (w : Work) → state_of w n ≡ s → P w → n < length w.objects → HoldsAfter (λ u v. P v × More w v) (remove_one world n s w)
  remove_one_goes n EntityState.New w e p l = (p, no_more w)
  remove_one_goes n EntityState.Managed w e p l =
      let life = Life.Removed w.manager in
      let v = with_life_of n life w in
      then_goes {A = Unit {0}} w (Done tt v) (λ u. callback world LifecycleEvent.PreRemove n)
      (steps.removes n w p l (life_managed w.manager (object w n).life (ap state_code e)), set_more n (with_life (object w n) life) w v l refl refl)
      (λ u v' q more. steps.heard LifecycleEvent.PreRemove n v' q (within_more w v' n more l))
  remove_one_goes n EntityState.Removed w e p l = (p, no_more w)
  remove_one_goes n EntityState.Detached w e p l = tt

  remove_live_goes : (n : ℕ) (w : Work) → P w → n < length w.objects → HoldsAfter (λ u v. P v × More w v) (remove_live world n w)
  remove_live_goes n w p l = remove_one_goes n (state_of w n) w refl p l

  remove_under_goes : (id : Identity) (n : Option ℕ) (o : Option Stored) (w : Work) → P w → instance world.model w id ≡ n → row w id ≡ o → HoldsAfter (λ u v. P v × More w v) (remove_under world id n o w)
  remove_under_goes id (Some n) o w p i e = remove_live_goes n w p (instance_leads world.model w id n (steps.stands w p).entries i).0
  remove_under_goes id None None w p i e = (p, no_more w)
  remove_under_goes id None (Some x) w p i e =
      then_from (λ n v. Leads world.model id n v) w (load world id x w) (remove_live world) (load_goes id x w p e (ap is_some i)) (λ n v q more leads. remove_live_goes n v q leads.0)

  remove_node_goes : (x : Node) (w : Work) → P w → IsWithin x w → HoldsAfter (λ u v. P v × More w v) (remove_node world x w)
  remove_node_goes (Node.Live n) w p l = remove_live_goes n w p l
  remove_node_goes (Node.Bare id) w p l = remove_under_goes id (instance world.model w id) (row w id) w p refl refl

  pub remove_goes : (n : ℕ) (w : Work) → P w → n < length w.objects → HoldsAfter (λ u v. P v × More w v) (remove world n w)
  remove_goes = cascade_goes Operation.Remove (remove_node world) remove_node_goes

  -- ---- refresh

  refresh_row_goes : (n : ℕ) (o : Option Identity) (s : Option Stored) (w : Work) → P w → n < length w.objects → (object w n).life ≡ Life.Managed w.manager → identity_at world.model w n ≡ o → row_at w o ≡ s →
      HoldsAfter (λ u v. P v × More w v) (refresh_row world n o s w)
  refresh_row_goes n None s w p l h i r = tt
  refresh_row_goes n (Some id) None w p l h i r = tt
  refresh_row_goes n (Some id) (Some x) w p l h i r =
      require_holds (λ u v. P v × More w v) ((object w n).class == x.class) Cause.EntityNotFound w _ (λ same.
      let c = eqb-true (object w n).class x.class same in
      let v = reloaded world n id x w in
      then_goes {A = Unit {0}} w (Done tt v) (λ u. callback world LifecycleEvent.PostLoad n)
      (steps.reloads n id x w p l h i r c, set_more n (object_loaded world.model w.manager w.view id x) w v l (sym c) refl)
      (λ u v' q more. steps.heard LifecycleEvent.PostLoad n v' q (within_more w v' n more l)))

  refresh_one_goes : (n : ℕ) (s : EntityState) (w : Work) → state_of w n ≡ s → P w → n < length w.objects → HoldsAfter (λ u v. P v × More w v) (refresh_one world n s w)
  refresh_one_goes n EntityState.New w e p l = tt
  refresh_one_goes n EntityState.Managed w e p l =
      let id = identity_at world.model w n in
      refresh_row_goes n id (row_at w id) w p l (life_managed w.manager (object w n).life (ap state_code e)) refl refl
  refresh_one_goes n EntityState.Removed w e p l = tt
  refresh_one_goes n EntityState.Detached w e p l = tt

  refresh_node_goes : (x : Node) (w : Work) → P w → IsWithin x w → HoldsAfter (λ u v. P v × More w v) (refresh_node world x w)
  refresh_node_goes (Node.Live n) w p l = refresh_one_goes n (state_of w n) w refl p l
  refresh_node_goes (Node.Bare id) w p l = (p, no_more w)

  pub refresh_goes : (n : ℕ) (w : Work) → P w → n < length w.objects → HoldsAfter (λ u v. P v × More w v) (refresh world n w)
  refresh_goes = cascade_goes Operation.Refresh (refresh_node world) refresh_node_goes

  -- ---- detach

  let_go_goes : (n : ℕ) (w : Work) → P w → n < length w.objects → is_held_by w.manager (object w n).life ≡ true → P (let_go n w) × More w (let_go n w)
  let_go_goes n w p l held = (steps.lets_go n w p l held, set_more n (with_life (object w n) Life.Detached) w (let_go n w) l refl refl)

  detach_one_goes : (n : ℕ) (s : EntityState) (w : Work) → state_of w n ≡ s → P w → n < length w.objects → HoldsAfter (λ u v. P v × More w v) (detach_one n s w)
  detach_one_goes n EntityState.New w e p l = (p, no_more w)
  detach_one_goes n EntityState.Managed w e p l =
      let_go_goes n w p l (ap (is_held_by w.manager) (life_managed w.manager (object w n).life (ap state_code e)) ∙ eq-eqb w.manager w.manager refl)
  detach_one_goes n EntityState.Removed w e p l =
      let_go_goes n w p l (ap (is_held_by w.manager) (life_removed w.manager (object w n).life (ap state_code e)) ∙ eq-eqb w.manager w.manager refl)
  detach_one_goes n EntityState.Detached w e p l = (p, no_more w)

  detach_node_goes : (x : Node) (w : Work) → P w → IsWithin x w → HoldsAfter (λ u v. P v × More w v) (detach_node x w)
  detach_node_goes (Node.Live n) w p l = detach_one_goes n (state_of w n) w refl p l
  detach_node_goes (Node.Bare id) w p l = (p, no_more w)

  pub detach_goes : (n : ℕ) (w : Work) → P w → n < length w.objects → HoldsAfter (λ u v. P v × More w v) (detach world n w)
  detach_goes = cascade_goes Operation.Detach detach_node detach_node_goes

  -- ---- lock

  pub lock_goes : (n : ℕ) (mode : Lock) (w : Work) → P w → HoldsAfter (λ u v. P v × More w v) (lock world n mode w)
  lock_goes n mode w p =
      require_holds (λ u v. P v × More w v) (is_managed (state_of w n)) (Cause.IllegalArgument Argument.State) w _ (λ managed.
      require_holds (λ u v. P v × More w v) (is_versioned world.model (object w n).class) (Cause.Persistence PersistenceFault.Version) w _ (λ versioned.
      (steps.locks n (locked (lock_in (entry_of w n)) mode) w p, no_more w)))

-- What refresh and remove do to a work: operations stand on it still.
use Rattle.jpa_operations.specs.fetch.Grown.{GoesOn}
use Rattle.std.proofs.Common.{◌≡◌, ◌∙◌, ◌<◌, ℕ, Bool, true, false, length, refl, ap, sym, subst, Option, Some, None, Result}
use Rattle.std.specs.Prelude.{◌==◌, if◌then◌else◌}
use Rattle.std.proofs.lemmas.Bool.{eq-eqb, eqb-true}
use Rattle.std.proofs.lemmas.List.{get_or-set_same}
use Rattle.jpa_value.specs.declared.value.Identity.{Identity}
use Rattle.jpa_value.specs.declared.refusal.Cause.{Cause}
use Rattle.jpa_value.specs.declared.event.LifecycleEvent.{LifecycleEvent}
use Rattle.jpa_behaviour.specs.Behaviour.{World}
use Rattle.jpa_stored.specs.declared.objects.stored.Stored.{Stored}
use Rattle.jpa_stored.specs.objects.Sets.{all_shaped}
use Rattle.jpa_work.specs.declared.heap.Life.{Life}
use Rattle.jpa_work.specs.heap.Objects.{is_whole, no_object}
use Rattle.jpa_work.specs.heap.Shape.{HasShape}
use Rattle.jpa_work.specs.declared.context.EntityState.{EntityState}
use Rattle.jpa_work.specs.context.Steps.{◌>>◌, Done, IsRefusedAs, Meets, after, change, require}
use Rattle.jpa_work.specs.context.Work.{Work, object, identity_at, instance, row, row_at, state_of, with_life_of, with_object}
use Rattle.jpa_cascade.specs.declared.Node.{Node}
use Rattle.jpa_cascade.specs.There.{IsThere}
use Rattle.jpa_lifecycle.specs.Callbacks.{callback}
use Rattle.jpa_lifecycle.proofs.Keeps.{happened}
use Rattle.jpa_operations.specs.fetch.Load.{base_loaded, load, object_loaded}
use Rattle.jpa_operations.specs.ops.States.{refresh_managed, refresh_node, refresh_one, refresh_row, reloaded, remove_live, remove_one, remove_under}
use Rattle.jpa_operations.proofs.ops.Refused.{refused_after}
use Rattle.jpa_operations.proofs.ops.Going.{HoldsAfter, holds_where, require_holds}
use Rattle.jpa_operations.proofs.ops.Persisted.{within_from}
use Rattle.jpa_operations.proofs.fetch.Grown.{grown_happened, grown_set, placed_happened, placed_set}
use Rattle.jpa_operations.proofs.fetch.Loaded.{loaded_links, loaded_shape}
use Rattle.jpa_operations.proofs.ops.Ready.{from_on, grown_base, grown_life, placed_base, placed_life}

-- where its row is there and of its class, the object is loaded again and PostLoad happens to it
pub refreshes : (world : World) (n : ℕ) (id : Identity) (x : Stored) (w : Work) → identity_at world.model w n ≡ Some id → row w id ≡ Some x → (object w n).class ≡ x.class →
    refresh_managed world n w ≡ callback world LifecycleEvent.PostLoad n (reloaded world n id x w)
refreshes world n id x w named stored class =
    ap (λ o. refresh_row world n o (row_at w o) w) named
    ∙ ap (λ s. refresh_row world n (Some id) s w) stored
    ∙ ap (λ b. after (require b Cause.EntityNotFound w) (λ _. change (reloaded world n id x) >> callback world LifecycleEvent.PostLoad n)) (eq-eqb (object w n).class x.class class)

-- it has the shape of its class then
pub reloaded_shape : (world : World) (n : ℕ) (id : Identity) (x : Stored) (w v : Work) → all_shaped world.model w.view ≡ true → row w id ≡ Some x → n < length w.objects →
    v ≡ reloaded world n id x w → HasShape world.model (object v n)
reloaded_shape world n id x w v shaped stored l e =
    let m = world.model in
    let y = object_loaded m w.manager w.view id x in
    let here : y ≡ object (reloaded world n id x w) n = sym (get_or-set_same w.objects n y no_object l) in
    subst (λ (u : Work). HasShape m (object u n)) (sym e) (subst (HasShape m) here (loaded_shape m w.view w.manager id x shaped stored).0)

-- an object's identity has its key
identity_key : (id own : Identity) (b : Bool) → (if b then Some own else None) ≡ Some id → id.key ≡ own.key
identity_key id own true e = ap (λ (i : Identity). i.key) (sym (same id own e))
  where
    same : (a b : Identity) → Some b ≡ Some a → b ≡ a
    same a b e = cc
identity_key id own false e = absurd cc

-- ---- each step

module _ (world : World) (u : Work) where
  abbrev Goes : Work → Type 0
  Goes w = GoesOn world.model u w

  heard : (event : LifecycleEvent) (n : ℕ) (w : Work) → n < length u.objects → Goes w → HoldsAfter Goes (callback world event n w)
  heard event n w l h =
      let within = within_from world.model u w n l h in
      holds_where Goes (callback world event n w) (λ a v e.
      let h' = happened world event n w v e in
      from_on world.model u w v h (placed_happened world.model n w v h.ready.placed within h') (grown_happened n w v within h'))

  -- ---- refresh

  reloads : (n : ℕ) (id : Identity) (x : Stored) (w : Work) → n < length u.objects → Goes w → identity_at world.model w n ≡ Some id → row w id ≡ Some x → (object w n).class ≡ x.class →
      Goes (reloaded world n id x w)
  reloads n id x w l h named stored class =
      let m = world.model in
      let y = object_loaded m w.manager w.view id x in
      let b = base_loaded m w.view id x in
      let v = with_object n y w in
      let within = within_from m u w n l h in
      let own : Identity = record { table = _; key = (object w n).key } in
      let key : y.key ≡ (object w n).key = identity_key id own (is_whole (object w n).key) named in
      let placed = placed_set m w n y h.ready.placed within (loaded_shape m w.view w.manager id x h.ready.placed.view stored).0 key in
      let grown = grown_set w n y (sym class) within (λ links. loaded_links m w.view w.manager id x w.objects) in
      let set = from_on m u w v h placed grown in
      from_on m u v (reloaded world n id x w) set (placed_base m v n (Some b) placed) (grown_base v n (Some b))

  refresh_row_goes : (n : ℕ) (o : Option Identity) (s : Option Stored) (w : Work) → n < length u.objects → Goes w → identity_at world.model w n ≡ o → row_at w o ≡ s → HoldsAfter Goes (refresh_row world n o s w)
  refresh_row_goes n None s w l h i r = tt
  refresh_row_goes n (Some id) None w l h i r = tt
  refresh_row_goes n (Some id) (Some x) w l h i r =
      require_holds Goes ((object w n).class == x.class) Cause.EntityNotFound w _ (λ same.
      heard LifecycleEvent.PostLoad n (reloaded world n id x w) l (reloads n id x w l h i r (eqb-true (object w n).class x.class same)))

  refresh_one_goes : (n : ℕ) (s : EntityState) (w : Work) → n < length u.objects → Goes w → HoldsAfter Goes (refresh_one world n s w)
  refresh_one_goes n EntityState.New w l h = tt
  refresh_one_goes n EntityState.Managed w l h = let id = identity_at world.model w n in refresh_row_goes n id (row_at w id) w l h refl refl
  refresh_one_goes n EntityState.Removed w l h = tt
  refresh_one_goes n EntityState.Detached w l h = tt

  -- a node of the cascade
  pub refresh_node_goes : (x : Node) (w : Work) → IsThere u x → Goes w → HoldsAfter Goes (refresh_node world x w)
  refresh_node_goes (Node.Live n) w l h = refresh_one_goes n (state_of w n) w l h
  refresh_node_goes (Node.Bare id) w l h = h

  -- ---- remove

  remove_one_goes : (n : ℕ) (s : EntityState) (w : Work) → n < length u.objects → Goes w → HoldsAfter Goes (remove_one world n s w)
  remove_one_goes n EntityState.New w l h = h
  remove_one_goes n EntityState.Managed w l h =
      let life = Life.Removed w.manager in
      let within = within_from world.model u w n l h in
      heard LifecycleEvent.PreRemove n (with_life_of n life w) l (from_on world.model u w (with_life_of n life w) h (placed_life world.model w n life h.ready.placed within) (grown_life w n life within))
  remove_one_goes n EntityState.Removed w l h = h
  remove_one_goes n EntityState.Detached w l h = tt

  pub remove_live_goes : (n : ℕ) (w : Work) → n < length u.objects → Goes w → HoldsAfter Goes (remove_live world n w)
  remove_live_goes n w l h = remove_one_goes n (state_of w n) w l h

-- what has a row and no instance is loaded, then removed
pub removes_loaded : (world : World) (id : Identity) (x y : Stored) (n : ℕ) (w v new : Work) (r : Result (Unit {0}) Cause) → instance world.model w id ≡ None → row w id ≡ Some y → x ≡ y → load world id x w ≡ Done n v →
    Meets r new (remove_live world n v) → Meets r new (remove_under world id (instance world.model w id) (row w id) w)
removes_loaded world id x y n w v new r none stored same done h =
    subst (Meets r new)
    (sym (ap (λ o. remove_under world id o (row w id) w) none
    ∙ ap (λ s. remove_under world id None s w) stored
    ∙ ap (λ z. after (load world id z w) (remove_live world)) (sym same)
    ∙ ap (λ o. after o (remove_live world)) done)) h

-- where it isn't loaded, the removal is refused with it
pub removes_refused : (world : World) (id : Identity) (x y : Stored) (w new : Work) (r : Cause) → instance world.model w id ≡ None → row w id ≡ Some y → x ≡ y →
    IsRefusedAs r new.events (load world id x w) → IsRefusedAs r new.events (remove_under world id (instance world.model w id) (row w id) w)
removes_refused world id x y w new r none stored same h =
    subst (IsRefusedAs r new.events)
    (sym (ap (λ o. remove_under world id o (row w id) w) none
    ∙ ap (λ s. remove_under world id None s w) stored
    ∙ ap (λ z. after (load world id z w) (remove_live world)) (sym same)))
    (refused_after r new.events (load world id x w) (remove_live world) h)

-- What persist does to a work: operations stand on it, and entries of different identities are so still.
use Rattle.std.proofs.Common.{◌≡◌, ◌≢◌, ◌<◌, ◌⊎◌, inl, inr, ℕ, suc, Bool, true, false, List, [], ◌∷◌, ◌++◌, length, refl, ap, sym, subst, ◌∙◌, arith, Option, Some, None}
use Rattle.std.specs.Prelude.{All, not, nat_lt, slice_set, slice_index_or}
use Rattle.std.specs.List.{list_all}
use Rattle.std.proofs.lemmas.Bool.{true≢false, and_parts, cases_eq, not-true}
use Rattle.std.proofs.lemmas.List.{length-set, get_or-set_other, get_or-set_same}
use Rattle.std.proofs.lemmas.List.Elements.{All-get_or, All-set, All-weaker}
use Rattle.jpa_value.specs.declared.value.Value.{Value}
use Rattle.jpa_value.specs.declared.refusal.Cause.{Cause}
use Rattle.jpa_value.specs.declared.refusal.PersistenceFault.{PersistenceFault}
use Rattle.jpa_value.specs.declared.event.LifecycleEvent.{LifecycleEvent}
use Rattle.jpa_value.specs.Value.{is_null}
use Rattle.jpa_model.specs.declared.unit.PersistenceUnit.{PersistenceUnit}
use Rattle.jpa_model.specs.Chains.{root_of, root_class}
use Rattle.jpa_behaviour.specs.Behaviour.{World}
use Rattle.jpa_work.specs.declared.heap.Life.{Life}
use Rattle.jpa_work.specs.declared.heap.LiveObject.{LiveObject}
use Rattle.jpa_work.specs.heap.Objects.{no_object, object_at, is_whole}
use Rattle.jpa_work.specs.heap.Shape.{HasShape}
use Rattle.jpa_work.specs.declared.context.Entry.{Entry}
use Rattle.jpa_work.specs.context.Undo.{IsKeyed, IsPlaced}
use Rattle.jpa_work.specs.declared.context.Base.{Base}
use Rattle.jpa_work.specs.declared.context.EntityState.{EntityState}
use Rattle.jpa_work.specs.declared.context.Lock.{Lock}
use Rattle.jpa_work.specs.context.Steps.{Done}
use Rattle.jpa_work.specs.context.Work.{Work, object, base_of, entered, identity_at, state_of, with_life_of}
use Rattle.jpa_cascade.specs.declared.Node.{Node}
use Rattle.jpa_cascade.specs.There.{IsThere}
use Rattle.jpa_lifecycle.specs.Callbacks.{callback}
use Rattle.jpa_lifecycle.proofs.Keeps.{happened}
use Rattle.jpa_operations.specs.fetch.Grown.{HasGrown, IsReady, GoesOn}
use Rattle.jpa_operations.specs.fetch.Orderly.{IsOrderly}
use Rattle.jpa_operations.specs.ops.Names.{has_distinct_entries}
use Rattle.jpa_operations.specs.ops.States.{become_managed, give_key, has_instance, last_number, number_part, persist_node, persist_one, pre_persist_if, with_key, with_number}
use Rattle.jpa_operations.proofs.ops.Entered.{entered_names, entered_apart}
use Rattle.jpa_operations.proofs.ops.Fitting.{each_fits_length}
use Rattle.jpa_operations.proofs.ops.Going.{HoldsAfter, after_holds, done_holds, holds_where, require_holds, require_holds_last}
use Rattle.jpa_operations.proofs.ops.Names.{names_kept}
use Rattle.jpa_operations.proofs.fetch.Grown.{grown_happened, grown_set, placed_happened}
use Rattle.jpa_operations.proofs.ops.Ready.{from_itself, from_on, grown_entered, grown_life, links_same, placed_entered, placed_life}

-- ---- a work whose object took a number as its key

-- a generated key has one part
numbered_shape : (m : PersistenceUnit) (x : LiveObject) (k : ℕ) → IsOrderly m → (root_of m x.class).generated ≡ true → HasShape m x → HasShape m (record x { key = number_part k })
numbered_shape m x k orderly g h =
    record { class = h.class; key = sym (each_fits_length _ (root_of m x.class).key (number_part k) (orderly.generated x.class k g)); values = h.values; relations = h.relations }

-- a key without a part that is there is not whole, unless it has no part
not_whole : (key : List Value) → length key ≡ 1 → list_all is_null key ≡ true → is_whole key ≡ true → ⊥
not_whole [] l unset whole = absurd (omega (arith, l))
not_whole (v ∷ vs) l unset whole =
    let null = (and_parts (is_null v) (list_all is_null vs) unset).0 in
    let there = (and_parts (not (is_null v)) (is_whole vs) whole).0 in
    true≢false (sym there ∙ ap not null)

-- the entries know their keys still: the object whose key was unset is none of theirs
numbered_keyed : (os : List LiveObject) (n : ℕ) (y : LiveObject) (es : List Entry) → n < length os → length (object_at os n).key ≡ 1 → list_all is_null (object_at os n).key ≡ true →
    All (IsKeyed os) es → All (IsKeyed (slice_set os n y)) es
numbered_keyed os n y es l one unset h = All-weaker (IsKeyed os) (IsKeyed (slice_set os n y)) (λ e k. by_place e k (cases_eq e.object n)) es h
  where
    by_place : (e : Entry) → IsKeyed os e → (e.object ≡ n) ⊎ (e.object ≢ n) → IsKeyed (slice_set os n y) e
    by_place e k (inl same) =
        let own : e.key ≡ (object_at os n).key = sym k.same ∙ ap (λ i. (object_at os i).key) same in
        absurd (not_whole (object_at os n).key one unset (ap is_whole (sym own) ∙ k.whole))
    by_place e k (inr other) = record { same = ap (λ (x : LiveObject). x.key) (get_or-set_other os n e.object y no_object other) ∙ k.same; whole = k.whole }

-- the places stay those of the unit
pub numbered_places : (m : PersistenceUnit) (w : Work) (n k : ℕ) (x y : LiveObject) (objects : List LiveObject) (numbers : List ℕ) → IsOrderly m → IsPlaced m w → n < length w.objects →
    (root_of m (object w n).class).generated ≡ true → list_all is_null (object w n).key ≡ true → x ≡ object w n → y ≡ record x { key = number_part k } → objects ≡ slice_set w.objects n y → length numbers ≡ length w.numbers →
    IsPlaced m (record w { objects = objects; numbers = numbers })
numbered_places m w n k x y objects numbers orderly h l g unset own e set same =
    let before = All-get_or (HasShape m) w.objects n no_object l h.objects in
    let one : length (object w n).key ≡ 1 = before.key ∙ each_fits_length _ (root_of m (object w n).class).key (number_part k) (orderly.generated (object w n).class k g) in
    let shape = numbered_shape m (object w n) k orderly g before in
    let keyed : y ≡ record (object w n) { key = number_part k } = e ∙ ap (λ (z : LiveObject). record z { key = number_part k }) own in
    let shapes = All-set (HasShape m) w.objects n y (subst (HasShape m) (sym keyed) shape) h.objects in
    let count : length objects ≡ length w.objects = ap length set ∙ length-set w.objects n y in
    record {
      objects = subst (All (HasShape m)) (sym set) shapes;
      entries = subst (λ c. All (λ (z : Entry). z.object < c) w.context) (sym count) h.entries;
      keyed = subst (λ os. All (IsKeyed os) w.context) (sym set) (numbered_keyed w.objects n y w.context l one unset h.keyed);
      numbers = same ∙ h.numbers;
      view = h.view;
    }

-- ---- each step

-- operations stand on a work that goes on from another, and its entries are of different identities if those were
pub record IsNamedFrom (m : PersistenceUnit) (u w : Work) : Type 0 where
  pub from : GoesOn m u w
  pub named : has_distinct_entries m u ≡ true → has_distinct_entries m w ≡ true

-- where the context is the same
named_on : (m : PersistenceUnit) (u w v : Work) → IsNamedFrom m u w → IsPlaced m v → HasGrown w v → v.context ≡ w.context → IsNamedFrom m u v
named_on m u w v h placed grown same =
    record { from = from_on m u w v h.from placed grown; named = λ d. names_kept m w v h.from.ready.placed placed grown same ∙ h.named d }

pub within_from : (m : PersistenceUnit) (u w : Work) (n : ℕ) → n < length u.objects → GoesOn m u w → n < length w.objects
within_from m u w n l h = let more = h.grown.count in omega (arith, l, more)

module _ (world : World) (orderly : IsOrderly world.model) (u : Work) where
  abbrev Goes : Work → Type 0
  Goes w = IsNamedFrom world.model u w

  heard : (event : LifecycleEvent) (n : ℕ) (w : Work) → n < length u.objects → Goes w → HoldsAfter Goes (callback world event n w)
  heard event n w l h =
      let within = within_from world.model u w n l h.from in
      holds_where Goes (callback world event n w) (λ a v e.
      let h' = happened world event n w v e in
      named_on world.model u w v h (placed_happened world.model n w v h.from.ready.placed within h') (grown_happened n w v within h') (ap (λ (z : Work). z.context) h'.same))

  lives : (n : ℕ) (life : Life) (w : Work) → n < length u.objects → Goes w → Goes (with_life_of n life w)
  lives n life w l h =
      let within = within_from world.model u w n l h.from in
      named_on world.model u w (with_life_of n life w) h (placed_life world.model w n life h.from.ready.placed within) (grown_life w n life within) refl

  -- its key is given then
  record IsKeyGiven (n : ℕ) (w : Work) : Type 0 where
    goes : Goes w
    whole : is_whole (object w n).key ≡ true

  numbered : (n root k : ℕ) (w : Work) → n < length u.objects → Goes w → (root_of world.model (object w n).class).generated ≡ true → list_all is_null (object w n).key ≡ true →
      IsKeyGiven n (with_number root (suc k) (with_key n (number_part k) w))
  numbered n root k w l h generated unset =
      let m = world.model in
      let x = object w n in
      let y : LiveObject = record x { key = number_part k } in
      let v = with_number root (suc k) (with_key n (number_part k) w) in
      let within = within_from m u w n l h.from in
      let placed = numbered_places m w n k x y (slice_set w.objects n y) (slice_set w.numbers root (suc k)) orderly h.from.ready.placed within generated unset refl refl refl (length-set w.numbers root (suc k)) in
      let grown = grown_set w n y refl within (links_same w n y refl within) in
      record {
        goes = named_on m u w v h placed (record { count = grown.count; classes = grown.classes; distinct = grown.distinct; linked = grown.linked }) refl;
        whole = ap (λ (z : LiveObject). is_whole z.key) (get_or-set_same w.objects n y no_object within);
      }

  gives_key : (n : ℕ) (b : Bool) (w : Work) → (root_of world.model (object w n).class).generated ≡ b → n < length u.objects → Goes w → HoldsAfter (IsKeyGiven n) (give_key world n b w)
  gives_key n false w e l h = require_holds_last (IsKeyGiven n) (is_whole (object w n).key) (Cause.Persistence PersistenceFault.Key) w (λ whole. record { goes = h; whole = whole })
  gives_key n true w e l h =
      let root = root_class world.model (object w n).class in
      let k = slice_index_or w.numbers root 1 in
      require_holds (IsKeyGiven n) (list_all is_null (object w n).key) (Cause.Persistence PersistenceFault.Key) w _ (λ unset.
      require_holds (IsKeyGiven n) (nat_lt k last_number) (Cause.Persistence PersistenceFault.Generator) w _ (λ few. numbered n root k w l h e unset))

  -- it enters the context, which has no instance of its identity
  enters : (n : ℕ) (w : Work) → n < length u.objects → IsKeyGiven n w → has_instance world.model w (identity_at world.model w n) ≡ false → Goes (entered n w)
  enters n w l h free =
      let m = world.model in
      let g = h.goes.from in
      let within = within_from m u w n l g in
      let placed = placed_entered m w n g.ready.placed within h.whole in
      record {
        from = from_on m u w (entered n w) g placed (grown_entered w n (entered_apart m w n g.ready.placed h.whole free));
        named = λ d. entered_names m w n g.ready.placed h.whole free (h.goes.named d);
      }

  lives_entered : (n : ℕ) (life : Life) (w : Work) → n < length w.objects → with_life_of n life (entered n w) ≡ entered n (with_life_of n life w)
  lives_entered n life w within =
      let y : LiveObject = record (object w n) { life = life } in
      let key : (object w n).key ≡ (object (with_life_of n life w) n).key = sym (ap (λ (z : LiveObject). z.key) (get_or-set_same w.objects n y no_object within)) in
      λ i. record w { objects = slice_set w.objects n y; context = w.context ++ record { object = n; key = key i; lock = Lock.Unlocked; base = None } ∷ [] }

  becomes : (n : ℕ) (w : Work) → n < length u.objects → Goes w → HoldsAfter Goes (become_managed world n w)
  becomes n w l h =
      let generated = (root_of world.model (object w n).class).generated in
      after_holds Goes (IsKeyGiven n) (give_key world n generated w) _ (gives_key n generated w refl l h) (λ a v g.
      let taken = has_instance world.model v (identity_at world.model v n) in
      let life = Life.Managed v.manager in
      let within = within_from world.model u v n l g.goes.from in
      require_holds Goes (not taken) Cause.EntityExists v _ (λ free.
      subst Goes (lives_entered n life v within) (lives n life (entered n v) l (enters n v l g (not-true taken free)))))

  -- ---- persist

  pre_persist_goes : (n : ℕ) (b : Option Base) (w : Work) → n < length u.objects → Goes w → HoldsAfter Goes (pre_persist_if world n b w)
  pre_persist_goes n None w l h = heard LifecycleEvent.PrePersist n w l h
  pre_persist_goes n (Some b) w l h = h

  persist_one_goes : (n : ℕ) (s : EntityState) (w : Work) → n < length u.objects → Goes w → HoldsAfter Goes (persist_one world n s w)
  persist_one_goes n EntityState.New w l h = after_holds Goes Goes (become_managed world n w) _ (becomes n w l h) (λ a v g. heard LifecycleEvent.PrePersist n v l g)
  persist_one_goes n EntityState.Managed w l h = h
  persist_one_goes n EntityState.Removed w l h =
      let life = Life.Managed w.manager in
      let v = with_life_of n life w in
      pre_persist_goes n (base_of v n) v l (lives n life w l h)
  persist_one_goes n EntityState.Detached w l h = tt

  -- a node of the cascade
  pub persist_node_goes : (x : Node) (w : Work) → IsThere u x → Goes w → HoldsAfter Goes (persist_node world x w)
  persist_node_goes (Node.Live n) w l h = persist_one_goes n (state_of w n) w l h
  persist_node_goes (Node.Bare id) w l h = h

-- a new object that became managed
pub became : (world : World) (n : ℕ) (w v : Work) → IsOrderly world.model → IsReady world.model w → n < length w.objects → become_managed world n w ≡ Done tt v → IsNamedFrom world.model w v
became world n w v orderly ready l done =
    let m = world.model in
    done_holds (IsNamedFrom m w) (become_managed world n w) tt v done (becomes world orderly w n w l (record { from = from_itself m w ready; named = λ d. d }))

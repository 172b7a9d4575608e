-- The law of merge, for whatever the steps keep of which it is made.
use Rattle.jpa_value.specs.Limits.{most_objects}
use Rattle.std.proofs.Common.{◌≡◌, ◌<◌, ℕ, Bool, true, false, List, [], ◌∷◌, ◌++◌, length, refl, ap, sym, subst, ◌∙◌, arith}
use Rattle.std.specs.Prelude.{Option, Some, None, is_some, nat_lt, not, ◌==◌, slice_get, if◌then◌else◌}
use Rattle.std.specs.List.{All, AllByRecursion, enumerate_from, list_all}
use Rattle.std.specs.Option.{unwrap_or}
use Rattle.std.proofs.lemmas.Bool.{and_from, and_parts, eqb-true, false≢true, lt-ltb, ltb-true}
use Rattle.std.proofs.lemmas.List.{get_or_push, length-append}
use Rattle.std.proofs.lemmas.List.Elements.{All-weaker, recursion_from_All}
use Rattle.jpa_value.specs.declared.value.Value.{Value}
use Rattle.jpa_value.specs.declared.value.Identity.{Identity}
use Rattle.jpa_value.specs.declared.refusal.Cause.{Cause}
use Rattle.jpa_value.specs.declared.refusal.Argument.{Argument}
use Rattle.jpa_value.specs.declared.refusal.State.{State}
use Rattle.jpa_value.specs.declared.event.LifecycleEvent.{LifecycleEvent}
use Rattle.jpa_value.specs.Value.{fits, is_representable}
use Rattle.jpa_model.specs.declared.unit.Attribute.{Attribute}
use Rattle.jpa_model.specs.declared.unit.Part.{Part}
use Rattle.jpa_model.specs.declared.unit.PersistenceUnit.{PersistenceUnit}
use Rattle.jpa_model.specs.declared.unit.Relation.{Relation}
use Rattle.jpa_model.specs.Chains.{attributes_of, is_to_one, relations_of, root_of}
use Rattle.jpa_behaviour.specs.Behaviour.{World}
use Rattle.jpa_stored.specs.declared.objects.stored.Stored.{Stored}
use Rattle.jpa_stored.specs.objects.Sets.{each_fits}
use Rattle.jpa_work.specs.declared.heap.Link.{Link}
use Rattle.jpa_work.specs.declared.heap.Collection.{Collection}
use Rattle.jpa_work.specs.declared.heap.Held.{Held}
use Rattle.jpa_work.specs.declared.heap.Life.{Life}
use Rattle.jpa_work.specs.declared.heap.LiveObject.{LiveObject}
use Rattle.jpa_work.specs.heap.Objects.{held_at, is_whole, new_object, no_object}
use Rattle.jpa_work.specs.declared.context.EntityState.{EntityState}
use Rattle.jpa_work.specs.context.Work.{instance, Work, identity_at, is_removed, object, row_at, state_of}
use Rattle.jpa_work.specs.context.Steps.{Done, after, done, each, give}
use Rattle.jpa_cascade.specs.declared.Operation.{Operation}
use Rattle.jpa_cascade.specs.There.{HoldsWithin}
use Rattle.jpa_cascade.specs.Waves.{goes_along, live_nodes, members_now, waves}
use Rattle.jpa_lifecycle.specs.Callbacks.{callback}
use Rattle.jpa_operations.specs.fetch.Load.{load, made, reach}
use Rattle.jpa_operations.specs.fetch.Members.{collect, is_held, with_read, with_relation}
use Rattle.jpa_operations.specs.fetch.Orderly.{IsOrderly}
use Rattle.jpa_operations.specs.ops.States.{become_managed}
use Rattle.jpa_merge.specs.declared.images.NodeImage.{NodeImage}
use Rattle.jpa_merge.specs.Merge.{copy_at, copy_held, copy_node, copy_relation, copy_relations, copy_to_other, first_image, fresh_image, fresh_object, image_among, image_by, image_elsewhere, image_in, image_key, image_named, image_of_node, is_unset, merge, of_class_of, pre_persist_fresh, read_if_unread, replaced, replaced_by, replaced_far, replaced_outside, replaced_unless, takes, version_is, with_values_of}
use Rattle.jpa_machine.specs.machine.Consistent.{IsLive, held_fits, leads_to, name_of}
use Rattle.jpa_machine.specs.machine.Going.{HoldsAfter}
use Rattle.jpa_machine.proofs.machine.Facts.{list_all_weaker}
use Rattle.jpa_machine.proofs.machine.Fetching.{IsAt, MayStand, at_before, held_again, held_now_fits, hold_goes, leads_later, stand_later}
use Rattle.jpa_machine.proofs.machine.Flushing.{live_within}
use Rattle.jpa_machine.proofs.machine.Going.{EachHas, More, all_still, all_there, collect_there, each_goes, known_from, more_before, no_more, require_holds, then_from, then_goes, then_known, then_to, within_more}
use Rattle.jpa_machine.proofs.machine.Kept.{keeps_more, leads_kept, new_live}
use Rattle.jpa_machine.proofs.machine.Laws.{Steps, load_goes, reach_goes, set_more, waves_within}
use Rattle.jpa_machine.proofs.machine.Members.{Leads, held_there, holds_at_place, instance_leads, linked, members_now_fit}
use Rattle.jpa_machine.proofs.machine.Setting.{IsSet}
use Rattle.jpa_machine.proofs.machine.Written.{name_is}

-- ---- a fresh object

fresh_key : (p : List Value → Bool) (b : Bool) (copied unset : List Value) → p copied ≡ true → p unset ≡ true → p (image_key b copied unset) ≡ true
fresh_key p true copied unset h k = k
fresh_key p false copied unset h k = h

-- it is a live one, since the object of its class is
fresh_live : (m : PersistenceUnit) (os ps : List LiveObject) (x : LiveObject) → IsLive m os x → IsLive m ps (fresh_object m x)
fresh_live m os ps x h =
    let blank = new_object m x.class in
    let new = new_live m ps x.class h.class in
    let b = (root_of m x.class).generated in
    record {
      class = new.class;
      key = fresh_key (λ key. each_fits (λ (part : Part) v. fits part.kind v) (root_of m x.class).key key) b x.key blank.key h.key new.key;
      version = new.version;
      values = new.values;
      relations = new.relations;
      key_representable = fresh_key (list_all is_representable) b x.key blank.key h.key_representable new.key_representable;
      version_representable = new.version_representable;
      values_representable = new.values_representable;
      links_representable = new.links_representable;
    }

-- ---- copies

-- a node and its image: two objects of one class
pub record IsImage (n k : ℕ) (w : Work) : Type 0 where
  pub node : n < length w.objects
  pub image : k < length w.objects
  pub class : (object w k).class ≡ (object w n).class

image_still : (node image : ℕ) (w v : Work) → More w v → IsImage node image w → IsImage node image v
image_still node image w v more h =
    record {
      node = within_more w v node more h.node;
      image = within_more w v image more h.image;
      class = more.class image h.image ∙ h.class ∙ sym (more.class node h.node);
    }

abbrev pub IsCopy : NodeImage → Work → Type 0
IsCopy c w = IsImage c.node c.image w

copy_still : (c : NodeImage) (w v : Work) → More w v → IsCopy c w → IsCopy c v
copy_still c = image_still c.node c.image

abbrev pub AreCopies : List NodeImage → Work → Type 0
AreCopies copies w = AllByRecursion (λ c. IsCopy c w) copies

copies_still : (copies : List NodeImage) (w v : Work) → More w v → AreCopies copies w → AreCopies copies v
copies_still copies w v more h = all_still IsCopy w v (λ c. copy_still c w v more) copies h

-- each answer is a copy
are_copies : (ns : List ℕ) (copies : List NodeImage) (w : Work) → EachHas (λ n c v. IsCopy c v) ns copies w → AreCopies copies w
are_copies [] [] w h = tt
are_copies [] (c ∷ cs) w h = absurd h
are_copies (n ∷ ns) [] w h = absurd h
are_copies (n ∷ ns) (c ∷ cs) w h = (h.0, are_copies ns cs w h.1)

image_copied : (copies : List NodeImage) (n image : ℕ) (w : Work) → AreCopies copies w → image_among copies n ≡ Some image → IsImage n image w
image_copied [] n image w h e = absurd (false≢true (ap is_some e))
image_copied (c ∷ cs) n image w h e = by_test (c.node == n) refl e (image_copied cs n image w h.1)
  where
    by_test : (b : Bool) → (c.node == n) ≡ b → (if b then Some c.image else image_among cs n) ≡ Some image → (image_among cs n ≡ Some image → IsImage n image w) → IsImage n image w
    by_test true t g later = subst (λ k. IsImage n k w) (ap (λ o. unwrap_or o image) g) (subst (λ k. IsImage k c.image w) (eqb-true c.node n t) h.0)
    by_test false t g later = later g

first_within : (n : ℕ) (copies : List NodeImage) (w : Work) → n < length w.objects → AreCopies copies w → first_image n copies < length w.objects
first_within n [] w l h = l
first_within n (c ∷ cs) w l h = (h.0).image

-- what holds anyway holds beside what holds of each
all_with : {A : Type 0} (Q : A → Type 0) (R : Type 0) → R → (xs : List A) → AllByRecursion Q xs → AllByRecursion (λ x. Q x × R) xs
all_with Q R r [] h = tt
all_with Q R r (x ∷ xs) h = ((h.0, r), all_with Q R r xs h.1)

-- ---- what stands for a target

-- an object of the heap in the table of another
abbrev pub StandsFor : PersistenceUnit → ℕ → ℕ → Work → Type 0
StandsFor m k t w = (k < length w.objects) × (t < length w.objects) × ((root_of m (object w t).class).table ≡ (root_of m (object w k).class).table)

stands_still : (m : PersistenceUnit) (k t : ℕ) (w v : Work) → More w v → StandsFor m k t w → StandsFor m k t v
stands_still m k t w v more h =
    let table = λ (class : ℕ). (root_of m class).table in
    (within_more w v k more h.0, within_more w v t more h.1, ap table (more.class t h.1) ∙ h.2 ∙ sym (ap table (more.class k h.0)))

-- where the one may stand in a relation the other may
leads_instead : (m : PersistenceUnit) (target k t : ℕ) (w : Work) → StandsFor m k t w → leads_to m w.objects target k ≡ true → leads_to m w.objects target t ≡ true
leads_instead m target k t w h lead =
    let table = (root_of m target).table in
    let a = and_parts (nat_lt k (length w.objects)) ((root_of m (object w k).class).table == table) lead in
    and_from (nat_lt t (length w.objects)) ((root_of m (object w t).class).table == table) (lt-ltb t (length w.objects) h.1) (subst (λ n. (n == table) ≡ true) (sym h.2) a.1)

all_lead_instead : (m : PersistenceUnit) (target : ℕ) (ks ts : List ℕ) (w : Work) → EachHas (StandsFor m) ks ts w → list_all (leads_to m w.objects target) ks ≡ true →
    list_all (leads_to m w.objects target) ts ≡ true
all_lead_instead m target [] [] w h lead = refl
all_lead_instead m target [] (t ∷ ts) w h lead = absurd h
all_lead_instead m target (k ∷ ks) [] w h lead = absurd h
all_lead_instead m target (k ∷ ks) (t ∷ ts) w h lead =
    let a = and_parts (leads_to m w.objects target k) (list_all (leads_to m w.objects target) ks) lead in
    and_from (leads_to m w.objects target t) (list_all (leads_to m w.objects target) ts) (leads_instead m target k t w h.0 a.0) (all_lead_instead m target ks ts w h.1 a.1)

-- ---- the values of a node

-- an object takes the values of one of its class
valued : (m : PersistenceUnit) (os : List LiveObject) (x y : LiveObject) → x.class ≡ y.class → IsLive m os y → IsSet m os x (record x { values = y.values })
valued m os x y c node =
    record {
      class = refl;
      life = refl;
      key = λ old. refl;
      live = λ alive live.
          record {
            class = live.class;
            key = live.key;
            version = live.version;
            values = subst (λ class. each_fits (λ (a : Attribute) v. fits a.kind v) (attributes_of m class) y.values ≡ true) (sym c) node.values;
            relations = live.relations;
            key_representable = live.key_representable;
            version_representable = live.version_representable;
            values_representable = node.values_representable;
            links_representable = live.links_representable;
          };
    }

module _ {world : World} {P : Work → Type 0} (orderly : IsOrderly world.model) (steps : Steps world P) where
  -- ---- first pass: the images

  fresh_goes : (n : ℕ) (w : Work) → P w → n < length w.objects → HoldsAfter (λ c v. P v × More w v × IsCopy c v) (fresh_image world n w)
  fresh_goes n w p l =
      let k = length w.objects in
      let x = object w n in
      let y = fresh_object world.model x in
      let v = made y w in
      let c : NodeImage = record { node = n; image = k; fresh = true } in
      let more = keeps_more w.objects y in
      let here : object v k ≡ y = get_or_push w.objects y no_object k refl in
      let within : k < length v.objects = let s = length-append w.objects (y ∷ []) in omega (arith, s) in
      let copy : IsImage n k v = record { node = within_more w v n more l; image = within; class = ap (λ (z : LiveObject). z.class) here ∙ sym (more.class n l) } in
      require_holds (λ c' u. P u × More w u × IsCopy c' u) (is_unset x.version) Cause.OptimisticLock w _ (λ unset.
      require_holds (λ c' u. P u × More w u × IsCopy c' u) (nat_lt k most_objects) Cause.Limit w _ (λ few.
      let q = steps.makes y w p (fresh_live world.model w.objects v.objects x ((steps.stands w p).objects n no_object l)) refl (ltb-true k most_objects few) in
      more_before P IsCopy w v more (after (become_managed world k v) (λ u. give c))
      (then_to IsCopy v (become_managed world k v) (λ u. give c) (steps.becomes k v q within (ap (λ (z : LiveObject). z.life) here))
      (λ u t r more'. (r, no_more t, copy_still c v t more' copy)))))

  -- an object that is there
  of_class_goes : (n k : ℕ) (w : Work) → P w → n < length w.objects → k < length w.objects →
      HoldsAfter (λ c v. P v × More w v × IsCopy c v) (of_class_of n k w)
  of_class_goes n k w p l j =
      require_holds (λ c v. P v × More w v × IsCopy c v) ((object w n).class == (object w k).class) (Cause.IllegalArgument Argument.Type) w _ (λ same.
      (p, no_more w, record { node = l; image = j; class = sym (eqb-true (object w n).class (object w k).class same) }))

  image_by_goes : (n : ℕ) (id : Identity) (k : Option ℕ) (s : Option Stored) (w : Work) → P w → n < length w.objects → instance world.model w id ≡ k → row_at w (Some id) ≡ s →
      HoldsAfter (λ c v. P v × More w v × IsCopy c v) (image_by world n id k s w)
  image_by_goes n id (Some k) s w p l i e =
      require_holds (λ c v. P v × More w v × IsCopy c v) (not (is_removed (state_of w k))) (Cause.IllegalArgument Argument.State) w _ (λ there.
      of_class_goes n k w p l (instance_leads world.model w id k (steps.stands w p).entries i).0)
  image_by_goes n id None (Some x) w p l i e =
      then_known (Leads world.model id) IsCopy w (load world id x w) _ (load_goes steps id x w p e (ap is_some i)) (λ k v q more leads.
      of_class_goes n k v q (within_more w v n more l) leads.0)
  image_by_goes n id None None w p l i e = fresh_goes n w p l

  named_goes : (n : ℕ) (o : Option Identity) (w : Work) → P w → n < length w.objects → HoldsAfter (λ c v. P v × More w v × IsCopy c v) (image_named world n o w)
  named_goes n None w p l = fresh_goes n w p l
  named_goes n (Some id) w p l = image_by_goes n id (instance world.model w id) (row_at w (Some id)) w p l refl refl

  elsewhere_goes : (n : ℕ) (w : Work) → P w → n < length w.objects → HoldsAfter (λ c v. P v × More w v × IsCopy c v) (image_elsewhere world n w)
  elsewhere_goes n w p l = named_goes n (identity_at world.model w n) w p l

  image_in_goes : (n : ℕ) (s : EntityState) (w : Work) → P w → n < length w.objects → HoldsAfter (λ c v. P v × More w v × IsCopy c v) (image_in world n s w)
  image_in_goes n EntityState.New w p l = elsewhere_goes n w p l
  image_in_goes n EntityState.Managed w p l = (p, no_more w, record { node = l; image = l; class = refl })
  image_in_goes n EntityState.Removed w p l = tt
  image_in_goes n EntityState.Detached w p l = elsewhere_goes n w p l

  images_go : (ns : List ℕ) (w : Work) → P w → AllByRecursion (λ n. n < length w.objects) ns → HoldsAfter (λ copies v. P v × More w v × EachHas (λ n c u. IsCopy c u) ns copies v) (collect (image_of_node world) ns w)
  images_go =
      collect_there P (λ n v. n < length v.objects) (λ n c v. IsCopy c v) (λ n w v more l. within_more w v n more l) (λ n c w v more h. copy_still c w v more h) (image_of_node world)
      (λ n w p l. image_in_goes n (state_of w n) w p l)

  -- ---- second pass: values and relations

  replaced_far_goes : (k : ℕ) (o : Option Identity) (w : Work) → P w → k < length w.objects → identity_at world.model w k ≡ o →
      HoldsAfter (λ t v. P v × More w v × StandsFor world.model k t v) (replaced_far world o w)
  replaced_far_goes k None w p l e = tt
  replaced_far_goes k (Some id) w p l e =
      let m = world.model in
      let r = Cause.IllegalState State.Reference in
      known_from P (Leads m id) (StandsFor m k) w (reach world r id w) (reach_goes steps r id w p) (λ t v more leads.
      let named : id.table ≡ (root_of m (object w k).class).table = ap (λ (i : Identity). i.table) (name_is m (object w k) (is_whole (object w k).key) id e) in
      let same = sym (ap (λ class. (root_of m class).table) (more.class k l)) in
      (within_more w v k more l, leads.0, eqb-true (root_of m (object v t).class).table id.table leads.1 ∙ named ∙ same))

  replaced_unless_goes : (k : ℕ) (held : Bool) (w : Work) → P w → k < length w.objects → HoldsAfter (λ t v. P v × More w v × StandsFor world.model k t v) (replaced_unless world k held w)
  replaced_unless_goes k true w p l = (p, no_more w, (l, l, refl))
  replaced_unless_goes k false w p l = replaced_far_goes k (identity_at world.model w k) w p l refl

  replaced_goes : (copies : List NodeImage) (k : ℕ) (w : Work) → P w → AreCopies copies w → k < length w.objects → HoldsAfter (λ t v. P v × More w v × StandsFor world.model k t v) (replaced world copies k w)
  replaced_goes copies k w p cs l = by_image (image_among copies k) refl
    where
      by_image : (o : Option ℕ) → image_among copies k ≡ o → HoldsAfter (λ t v. P v × More w v × StandsFor world.model k t v) (replaced_by world k o w)
      by_image None e = replaced_unless_goes k (is_held (state_of w k)) w p l
      by_image (Some t) e = let h = image_copied copies k t w cs e in (p, no_more w, (l, h.image, ap (λ class. (root_of world.model class).table) h.class))

  -- the base of an image takes what the view holds in the relation
  read_goes : (image r : ℕ) (h : Held) (w : Work) → P w → image < length w.objects → held_at (object w image) r ≡ h → HoldsAfter (λ u v. P v × More w v) (read_if_unread world image r h w)
  read_goes image r (Held.One link) w p l e = (p, no_more w)
  read_goes image r (Held.Many (Collection.Fetched ks)) w p l e = (p, no_more w)
  read_goes image r (Held.Many Collection.Unfetched) w p l e =
      let m = world.model in
      let stands = steps.stands w p in
      let x = object w image in
      let there = held_there m w.objects (relations_of m x.class) x.relations r (Held.Many Collection.Unfetched) (stands.objects image no_object l).relations e refl in
      (steps.reads image r (members_now m w image r) w p (members_now_fit orderly w stands.view image r there.0 there.1).rising, no_more w)

  -- what a node holds fits the relation of its image, which holds it in turn
  copy_held_goes : (copies : List NodeImage) (image r : ℕ) (h : Held) (w : Work) → P w → AreCopies copies w → image < length w.objects → HoldsWithin (length w.objects) h →
      ((relation : Relation) → IsAt world.model (object w image).class r relation → held_fits world.model w.objects relation h ≡ true) → HoldsAfter (λ u v. P v × More w v) (copy_held world copies image r h w)
  copy_held_goes copies image r (Held.One Link.None) w p cs l j fits = hold_goes orderly steps image r (Held.One Link.None) w p l refl fits
  copy_held_goes copies image r (Held.One (Link.Object k)) w p cs l j fits =
      let m = world.model in
      then_from (StandsFor m k) w (replaced world copies k w) _ (replaced_goes copies k w p cs j) (λ t v q more s.
      hold_goes orderly steps image r (Held.One (Link.Object t)) v q (within_more w v image more l) refl (λ relation at.
      let a = and_parts (is_to_one relation.side) (leads_to m w.objects relation.target k) (fits relation (at_before m image r relation w v more l at)) in
      and_from (is_to_one relation.side) (leads_to m v.objects relation.target t) a.0
      (leads_instead m relation.target k t v s (leads_kept m w.objects v.objects more relation.target k a.1))))
  copy_held_goes copies image r (Held.One (Link.Key id)) w p cs l j fits = (p, no_more w)
  copy_held_goes copies image r (Held.Many (Collection.Fetched ks)) w p cs l j fits =
      let m = world.model in
      then_from (EachHas (StandsFor m) ks) w (collect (replaced world copies) ks w) _
      (collect_there P (λ k v. (k < length v.objects) × AreCopies copies v) (StandsFor m) (λ k w' v more h. (within_more w' v k more h.0, copies_still copies w' v more h.1)) (stands_still m)
      (replaced world copies) (λ k v q h. replaced_goes copies k v q h.1 h.0) ks w p
      (all_with (λ k. k < length w.objects) (AreCopies copies w) cs ks (recursion_from_All (λ k. k < length w.objects) ks j))) (λ ts v q more s.
      let l' = within_more w v image more l in
      let parts = λ (relation : Relation) (at : IsAt m (object v image).class r relation).
      and_parts (not (is_to_one relation.side)) (list_all (leads_to m w.objects relation.target) ks) (fits relation (at_before m image r relation w v more l at)) in
      let stand : MayStand m image r ts v = λ relation at. all_lead_instead m relation.target ks ts v s (leads_later m relation.target ks w v more (parts relation at).1) in
      then_goes v (read_if_unread world image r (held_at (object v image) r) v) _ (read_goes image r (held_at (object v image) r) v q l' refl) (λ u t q' more'.
      held_again orderly steps image r ts t q' (within_more v t image more' l') (λ relation at. (parts relation (at_before m image r relation v t more' l' at)).0) (stand_later m image r ts v t more' l' stand)))
  copy_held_goes copies image r (Held.Many Collection.Unfetched) w p cs l j fits = (p, no_more w)

  copy_at_goes : (copies : List NodeImage) (c : NodeImage) (r : ℕ) (w : Work) → P w → IsCopy c w → AreCopies copies w → HoldsAfter (λ u v. P v × More w v) (copy_at world copies c r w)
  copy_at_goes copies c r w p h cs =
      let held = held_at (object w c.node) r in
      copy_held_goes copies c.image r held w p cs h.image (holds_at_place world w (steps.stands w p) c.node h.node r) (λ relation at.
      held_now_fits orderly steps c.node r held w p h.node refl relation (subst (λ class. IsAt world.model class r relation) h.class at))

  copy_relation_goes : (copies : List NodeImage) (c : NodeImage) (place : ℕ × Relation) (w : Work) → P w → IsCopy c w → AreCopies copies w →
      HoldsAfter (λ u v. P v × More w v) (copy_relation world copies c place w)
  copy_relation_goes copies c place w p h cs = by_test (takes c place.1)
    where
      by_test : (b : Bool) → HoldsAfter (λ u v. P v × More w v) ((if b then copy_at world copies c place.0 else done) w)
      by_test true = copy_at_goes copies c place.0 w p h cs
      by_test false = (p, no_more w)

  relations_go : (copies : List NodeImage) (c : NodeImage) (w : Work) → P w → IsCopy c w → AreCopies copies w → HoldsAfter (λ u v. P v × More w v) (copy_relations world copies c w)
  relations_go copies c w p h cs =
      let places = enumerate_from 0 (relations_of world.model (object w c.node).class) in
      each_goes P (λ place v. IsCopy c v × AreCopies copies v) (copy_relation world copies c)
      (λ place w' v more k. (copy_still c w' v more k.0, copies_still copies w' v more k.1))
      (λ place v q k. copy_relation_goes copies c place v q k.0 k.1) places w p (all_there (IsCopy c w × AreCopies copies w) (h, cs) places)

  to_other_goes : (copies : List NodeImage) (c : NodeImage) (w : Work) → P w → IsCopy c w → AreCopies copies w → HoldsAfter (λ u v. P v × More w v) (copy_to_other world copies c w)
  to_other_goes copies c w p h cs =
      let x = object w c.image in
      let y = object w c.node in
      let v = with_values_of c w in
      let set = valued world.model w.objects x y h.class ((steps.stands w p).objects c.node no_object h.node) in
      require_holds (λ u t. P t × More w t) (version_is y.version x.version) Cause.OptimisticLock w _ (λ current.
      then_goes {A = Unit {0}} w (Done tt v) _ (steps.sets c.image (record x { values = y.values }) w p h.image set, set_more c.image (record x { values = y.values }) w v h.image refl refl) (λ u t q more.
      relations_go copies c t q (copy_still c w t more h) (copies_still copies w t more cs)))

  copy_goes : (copies : List NodeImage) (c : NodeImage) (w : Work) → P w → IsCopy c w → AreCopies copies w → HoldsAfter (λ u v. P v × More w v) (copy_node world copies c w)
  copy_goes copies c w p h cs = by_test (c.node == c.image)
    where
      by_test : (b : Bool) → HoldsAfter (λ u v. P v × More w v) ((if b then copy_relations world copies c else copy_to_other world copies c) w)
      by_test true = relations_go copies c w p h cs
      by_test false = to_other_goes copies c w p h cs

  copies_go : (copies : List NodeImage) (w : Work) → P w → AreCopies copies w → HoldsAfter (λ u v. P v × More w v) (each (copy_node world copies) copies w)
  copies_go copies w p cs =
      each_goes P (λ c v. IsCopy c v × AreCopies copies v) (copy_node world copies) (λ c w' v more k. (copy_still c w' v more k.0, copies_still copies w' v more k.1))
      (λ c v q k. copy_goes copies c v q k.0 k.1) copies w p (all_with (λ c. IsCopy c w) (AreCopies copies w) cs copies cs)

  -- ---- third pass

  pre_persist_goes : (c : NodeImage) (w : Work) → P w → IsCopy c w → HoldsAfter (λ u v. P v × More w v) (pre_persist_fresh world c w)
  pre_persist_goes c w p h = by_test c.fresh
    where
      by_test : (b : Bool) → HoldsAfter (λ u v. P v × More w v) ((if b then callback world LifecycleEvent.PrePersist c.image else done) w)
      by_test true = steps.heard LifecycleEvent.PrePersist c.image w p h.image
      by_test false = (p, no_more w)

  -- ---- merge

  -- what holds goes on, and the answer is an object of the heap
  pub merge_goes : (n : ℕ) (w : Work) → P w → n < length w.objects → HoldsAfter (λ k v. P v × More w v × (k < length v.objects)) (merge world n w)
  merge_goes n w p l =
      let nodes = waves world.model Operation.Merge w n in
      let ns = live_nodes nodes in
      let Within = λ (k : ℕ) (v : Work). k < length v.objects in
      then_known (EachHas (λ k c v. IsCopy c v) ns) Within w (collect (image_of_node world) ns w) _ (images_go ns w p (live_within w nodes (waves_within steps Operation.Merge n w p l))) (λ copies v q more each_copied.
      let cs = are_copies ns copies v each_copied in
      then_to Within v (each (copy_node world copies) copies v) _ (copies_go copies v q cs) (λ u t r more'.
      let cs' = copies_still copies v t more' cs in
      then_to Within t (each (pre_persist_fresh world) copies t) _ (each_goes P IsCopy (pre_persist_fresh world) copy_still pre_persist_goes copies t r cs') (λ u' t' r' more''.
      (r', no_more t', first_within n copies t' (within_more t t' n more'' (within_more v t n more' (within_more w v n more l))) (copies_still copies t t' more'' cs')))))

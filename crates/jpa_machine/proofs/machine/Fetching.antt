-- The laws of get, add and take_out, and of what they read: each once, for whatever the steps keep of which they are made.
use Rattle.std.proofs.Common.{◌≡◌, ◌<◌, ℕ, Bool, true, false, List, [], ◌∷◌, ◌++◌, length, refl, ap, subst}
use Rattle.std.specs.Prelude.{Option, Some, None, is_some, not, ◌==◌, slice_get, if◌then◌else◌}
use Rattle.std.specs.List.{list_all}
use Rattle.std.specs.Option.{unwrap_or}
use Rattle.std.proofs.lemmas.Bool.{and_from, and_parts, false≢true, not_from_false}
use Rattle.std.proofs.lemmas.Option.{get_or_from_slice_get}
use Rattle.jpa_value.specs.declared.refusal.Cause.{Cause}
use Rattle.jpa_value.specs.declared.refusal.Argument.{Argument}
use Rattle.jpa_value.specs.declared.refusal.State.{State}
use Rattle.jpa_model.specs.declared.unit.Member.{Member}
use Rattle.jpa_model.specs.declared.unit.PersistenceUnit.{PersistenceUnit}
use Rattle.jpa_model.specs.declared.unit.Relation.{Relation}
use Rattle.jpa_model.specs.Chains.{is_to_one, member_of, no_relation, relation_at, relations_of, root_of}
use Rattle.jpa_behaviour.specs.Behaviour.{World}
use Rattle.jpa_stored.specs.objects.Sets.{is_identity_of}
use Rattle.jpa_work.specs.declared.heap.Handed.{Handed}
use Rattle.jpa_work.specs.declared.heap.Link.{Link}
use Rattle.jpa_work.specs.declared.heap.Collection.{Collection}
use Rattle.jpa_work.specs.declared.heap.Held.{Held}
use Rattle.jpa_work.specs.heap.Objects.{held_at, no_object, with_held}
use Rattle.jpa_work.specs.heap.Assign.{fits_link}
use Rattle.jpa_work.specs.context.Work.{Work, object, state_of}
use Rattle.jpa_cascade.specs.Waves.{members_now}
use Rattle.jpa_operations.specs.fetch.Load.{reach}
use Rattle.jpa_operations.specs.fetch.Members.{add, collect, collection_in, fetch, fetch_held, get, get_member, get_relation, is_held, read_for, read_named, resolve, resolve_link, take_out, with_read, with_relation, without_first}
use Rattle.jpa_machine.specs.machine.Consistent.{held_fits, held_representable, leads_to}
use Rattle.jpa_machine.specs.machine.Going.{HoldsAfter}
use Rattle.jpa_operations.specs.fetch.Orderly.{IsOrderly}
use Rattle.jpa_machine.proofs.machine.Facts.{list_all_weaker}
use Rattle.jpa_machine.proofs.machine.Going.{EachHas, More, collect_goes, no_more, require_holds, then_from, then_goes, then_known, within_more}
use Rattle.jpa_machine.proofs.machine.Kept.{leads_kept}
use Rattle.jpa_machine.proofs.machine.Laws.{Steps, reach_goes, set_more}
use Rattle.jpa_machine.proofs.machine.Members.{Leads, all_lead, held_there, leads_named, leads_still, members_now_fit}
use Rattle.jpa_machine.proofs.machine.Related.{fits_at}
use Rattle.jpa_machine.proofs.machine.Setting.{held_set, leads_kind}

-- ---- what stands in a relation of an object

-- the class has this relation at this place
abbrev pub IsAt : PersistenceUnit → ℕ → ℕ → Relation → Type 0
IsAt m class r relation = slice_get (relations_of m class) r ≡ Some relation

-- each of these may stand in the relation
abbrev pub MayStand : PersistenceUnit → ℕ → ℕ → List ℕ → Work → Type 0
MayStand m n r ks v = (relation : Relation) → IsAt m (object v n).class r relation → list_all (leads_to m v.objects relation.target) ks ≡ true

pub leads_later : (m : PersistenceUnit) (target : ℕ) (ks : List ℕ) (w v : Work) → More w v → list_all (leads_to m w.objects target) ks ≡ true → list_all (leads_to m v.objects target) ks ≡ true
leads_later m target ks w v more h = list_all_weaker (leads_to m w.objects target) (leads_to m v.objects target) (leads_kept m w.objects v.objects more target) ks h

-- the relation that stands there later stood there before
pub at_before : (m : PersistenceUnit) (n r : ℕ) (relation : Relation) (w v : Work) → More w v → n < length w.objects → IsAt m (object v n).class r relation → IsAt m (object w n).class r relation
at_before m n r relation w v more l at = subst (λ c. IsAt m c r relation) (more.class n l) at

pub stand_later : (m : PersistenceUnit) (n r : ℕ) (ks : List ℕ) (w v : Work) → More w v → n < length w.objects → MayStand m n r ks w → MayStand m n r ks v
stand_later m n r ks w v more l h = λ relation at. leads_later m relation.target ks w v more (h relation (at_before m n r relation w v more l at))

all_pushed : (p : ℕ → Bool) (ks : List ℕ) (k : ℕ) → list_all p ks ≡ true → p k ≡ true → list_all p (ks ++ k ∷ []) ≡ true
all_pushed p [] k h g = and_from (p k) true g refl
all_pushed p (j ∷ js) k h g = let a = and_parts (p j) (list_all p js) h in and_from (p j) (list_all p (js ++ k ∷ [])) a.0 (all_pushed p js k a.1 g)

all_without : (p : ℕ → Bool) (k : ℕ) (ks : List ℕ) → list_all p ks ≡ true → list_all p (without_first k ks) ≡ true
all_without p k [] h = refl
all_without p k (j ∷ js) h = let a = and_parts (p j) (list_all p js) h in by_test (j == k) a.0 a.1 (all_without p k js a.1)
  where
    by_test : (b : Bool) → p j ≡ true → list_all p js ≡ true → list_all p (without_first k js) ≡ true → list_all p (if b then js else j ∷ without_first k js) ≡ true
    by_test true h g rest = g
    by_test false h g rest = and_from (p j) (list_all p (without_first k js)) h rest

-- so may these and one more, and these but one
pub stand_with : (m : PersistenceUnit) (n r : ℕ) (ks : List ℕ) (k : ℕ) (v : Work) → MayStand m n r ks v → MayStand m n r (k ∷ []) v → MayStand m n r (ks ++ k ∷ []) v
stand_with m n r ks k v h own = λ relation at.
    let p = leads_to m v.objects relation.target in
    all_pushed p ks k (h relation at) (and_parts (p k) true (own relation at)).0

pub stand_without : (m : PersistenceUnit) (n r : ℕ) (ks : List ℕ) (k : ℕ) (v : Work) → MayStand m n r ks v → MayStand m n r (without_first k ks) v
stand_without m n r ks k v h = λ relation at. all_without (leads_to m v.objects relation.target) k ks (h relation at)

-- a collection is no to-one relation
many_in : (m : PersistenceUnit) (class : ℕ) (member : Option Member) (r : ℕ) → collection_in m class member ≡ Some r → is_to_one (relation_at m class r).side ≡ false
many_in m class None r e = absurd (false≢true (ap is_some e))
many_in m class (Some (Member.KeyPart i)) r e = absurd (false≢true (ap is_some e))
many_in m class (Some Member.Version) r e = absurd (false≢true (ap is_some e))
many_in m class (Some (Member.Attribute i)) r e = absurd (false≢true (ap is_some e))
many_in m class (Some (Member.Relation j)) r e = by_test (is_to_one (relation_at m class j).side) refl e
  where
    by_test : (b : Bool) → is_to_one (relation_at m class j).side ≡ b → (if b then None else Some j) ≡ Some r → is_to_one (relation_at m class r).side ≡ false
    by_test true t g = absurd (false≢true (ap is_some g))
    by_test false t g = subst (λ i. is_to_one (relation_at m class i).side ≡ false) (ap (λ o. unwrap_or o r) g) t

module _ {world : World} {P : Work → Type 0} (orderly : IsOrderly world.model) (steps : Steps world P) where
  -- a relation of an object holds something that fits it
  pub hold_goes : (n r : ℕ) (h : Held) (w : Work) → P w → n < length w.objects → held_representable h ≡ true →
      ((relation : Relation) → IsAt world.model (object w n).class r relation → held_fits world.model w.objects relation h ≡ true) → P (with_relation n r h w) × More w (with_relation n r h w)
  hold_goes n r h w p l rep fits =
      let y = with_held (object w n) r h in
      (steps.sets n y w p l (held_set (object w n) r h rep (λ alive. fits)), set_more n y w (with_relation n r h w) l refl refl)

  -- what an object holds fits its relation
  pub held_now_fits : (n r : ℕ) (h : Held) (w : Work) → P w → n < length w.objects → held_at (object w n) r ≡ h → (relation : Relation) → IsAt world.model (object w n).class r relation →
      held_fits world.model w.objects relation h ≡ true
  held_now_fits n r h w p l e relation at =
      subst (λ y. held_fits world.model w.objects relation y ≡ true) e
      (fits_at (held_fits world.model w.objects) (Held.One Link.None) (relations_of world.model (object w n).class) (object w n).relations r relation
      ((steps.stands w p).objects n no_object l).relations at)

  -- ---- a to-one relation

  resolve_link_goes : (n r : ℕ) (h : Held) (w : Work) → P w → n < length w.objects → held_at (object w n) r ≡ h → HoldsAfter (λ o v. P v × More w v) (resolve_link world n r h w)
  resolve_link_goes n r (Held.One Link.None) w p l e = (p, no_more w)
  resolve_link_goes n r (Held.One (Link.Object k)) w p l e = (p, no_more w)
  resolve_link_goes n r (Held.Many c) w p l e = (p, no_more w)
  resolve_link_goes n r (Held.One (Link.Key id)) w p l e =
      require_holds (λ o v. P v × More w v) (is_held (state_of w n)) (Cause.IllegalState State.Unfetched) w _ (λ held.
      then_from (λ k v. Leads world.model id k v) w (reach world Cause.EntityNotFound id w) _ (reach_goes steps Cause.EntityNotFound id w p) (λ k v q more leads.
      hold_goes n r (Held.One (Link.Object k)) v q (within_more w v n more l) refl (λ relation at.
      let a = and_parts (is_to_one relation.side) (is_identity_of (root_of world.model relation.target) id)
      (held_now_fits n r (Held.One (Link.Key id)) w p l e relation (at_before world.model n r relation w v more l at)) in
      and_from (is_to_one relation.side) (leads_to world.model v.objects relation.target k) a.0 (leads_named world.model relation.target id k v leads a.1))))

  pub resolve_goes : (n r : ℕ) (w : Work) → P w → n < length w.objects → HoldsAfter (λ o v. P v × More w v) (resolve world n r w)
  resolve_goes n r w p l = resolve_link_goes n r (held_at (object w n) r) w p l refl

  -- ---- a collection

  fetched_goes : (n r : ℕ) (ks : List ℕ) (w v : Work) → P w → n < length w.objects → held_at (object w n) r ≡ Held.Many Collection.Unfetched → P v → More w v →
      EachHas (Leads world.model) (members_now world.model w n r) ks v →
      let ids = members_now world.model w n r in
      let u = with_read n r ids (with_relation n r (Held.Many (Collection.Fetched ks)) v) in
      P u × More v u × MayStand world.model n r ks u
  fetched_goes n r ks w v p l e q more each =
      let m = world.model in
      let ids = members_now m w n r in
      let stands = steps.stands w p in
      let there = held_there m w.objects (relations_of m (object w n).class) (object w n).relations r (Held.Many Collection.Unfetched) (stands.objects n no_object l).relations e refl in
      let rising = (members_now_fit orderly w stands.view n r there.0 there.1).rising in
      let l' = within_more w v n more l in
      let lead : MayStand m n r ks v =
      λ relation at. all_lead m relation.target ids ks v each (members_now_fit orderly w stands.view n r relation (at_before m n r relation w v more l at)).of in
      let held = hold_goes n r (Held.Many (Collection.Fetched ks)) v q l' refl (λ relation at.
      let a = and_parts (not (is_to_one relation.side)) true (held_now_fits n r (Held.Many Collection.Unfetched) w p l e relation (at_before m n r relation w v more l at)) in
      and_from (not (is_to_one relation.side)) (list_all (leads_to m v.objects relation.target) ks) a.0 (lead relation at)) in
      let v' = with_relation n r (Held.Many (Collection.Fetched ks)) v in
      (steps.reads n r ids v' held.0 rising, held.1, stand_later m n r ks v v' held.1 l' lead)

  fetch_held_goes : (n r : ℕ) (h : Held) (w : Work) → P w → n < length w.objects → held_at (object w n) r ≡ h → HoldsAfter (λ ks v. P v × More w v × MayStand world.model n r ks v) (fetch_held world n r h w)
  fetch_held_goes n r (Held.Many (Collection.Fetched ks)) w p l e = (
    p,
    no_more w,
    λ relation at. (and_parts (not (is_to_one relation.side)) (list_all (leads_to world.model w.objects relation.target) ks) (held_now_fits n r (Held.Many (Collection.Fetched ks)) w p l e relation at)).1,
  )
  fetch_held_goes n r (Held.One link) w p l e = (p, no_more w, λ relation at. refl)
  fetch_held_goes n r (Held.Many Collection.Unfetched) w p l e =
      let ids = members_now world.model w n r in
      require_holds (λ ks v. P v × More w v × MayStand world.model n r ks v) (is_held (state_of w n)) (Cause.IllegalState State.Unfetched) w _ (λ held.
      then_known (EachHas (Leads world.model) ids) (MayStand world.model n r) w (collect (reach world Cause.EntityNotFound) ids w) _
      (collect_goes P (Leads world.model) (leads_still world.model) (reach world Cause.EntityNotFound) (reach_goes steps Cause.EntityNotFound) ids w p)
      (λ ks v q more each. fetched_goes n r ks w v p l e q more each))

  pub fetch_goes : (n r : ℕ) (w : Work) → P w → n < length w.objects → HoldsAfter (λ ks v. P v × More w v × MayStand world.model n r ks v) (fetch world n r w)
  fetch_goes n r w p l = fetch_held_goes n r (held_at (object w n) r) w p l refl

  -- ---- get

  relation_goes : (n r : ℕ) (b : Bool) (w : Work) → P w → n < length w.objects → HoldsAfter (λ g v. P v × More w v) (get_relation world n r b w)
  relation_goes n r true w p l = then_goes w (resolve world n r w) _ (resolve_goes n r w p l) (λ o v q more. (q, no_more v))
  relation_goes n r false w p l = then_from (MayStand world.model n r) w (fetch world n r w) _ (fetch_goes n r w p l) (λ ks v q more stand. (q, no_more v))

  member_goes : (n : ℕ) (member : Option Member) (w : Work) → P w → n < length w.objects → HoldsAfter (λ g v. P v × More w v) (get_member world n member w)
  member_goes n None w p l = tt
  member_goes n (Some (Member.KeyPart i)) w p l = (p, no_more w)
  member_goes n (Some Member.Version) w p l = (p, no_more w)
  member_goes n (Some (Member.Attribute i)) w p l = (p, no_more w)
  member_goes n (Some (Member.Relation r)) w p l = relation_goes n r (is_to_one (relation_at world.model (object w n).class r).side) w p l

  pub get_goes : (n : ℕ) (name : List ℕ) (w : Work) → P w → n < length w.objects → HoldsAfter (λ g v. P v × More w v) (get world n name w)
  get_goes n name w p l = member_goes n (member_of world.model (object w n).class name) w p l

  -- ---- add and take_out

  -- a collection of the object, what it holds, and another that may stand in it
  abbrev pub IsRead : ℕ → ℕ → ℕ × List ℕ → Work → Type 0
  IsRead n k c v = ((relation : Relation) → IsAt world.model (object v n).class c.0 relation → not (is_to_one relation.side) ≡ true) × MayStand world.model n c.0 c.1 v × MayStand world.model n c.0 (k ∷ []) v

  read_for_goes : (n k : ℕ) (o : Option ℕ) (w : Work) → P w → n < length w.objects → k < length w.objects →
      ((r : ℕ) → o ≡ Some r → is_to_one (relation_at world.model (object w n).class r).side ≡ false) → HoldsAfter (λ c v. P v × More w v × IsRead n k c v) (read_for world n k o w)
  read_for_goes n k None w p l j many = tt
  read_for_goes n k (Some r) w p l j many =
      let m = world.model in
      let class = (object w n).class in
      require_holds (λ c v. P v × More w v × IsRead n k c v) (fits_link m w.objects (relation_at m class r).target (Handed.Object k)) (Cause.IllegalArgument Argument.Type) w _ (λ fit.
      then_known (MayStand m n r) (IsRead n k) w (fetch world n r w) _ (fetch_goes n r w p l) (λ ks v q more stand.
      let same = λ (relation : Relation) (at : IsAt m (object v n).class r relation). get_or_from_slice_get (relations_of m class) r relation no_relation (at_before m n r relation w v more l at) in
      let side = λ (relation : Relation) (at : IsAt m (object v n).class r relation). not_from_false (is_to_one relation.side) (subst (λ (s : Relation). is_to_one s.side ≡ false) (same relation at) (many r refl)) in
      let own : MayStand m n r (k ∷ []) v = λ relation at.
      and_from (leads_to m v.objects relation.target k) true
      (leads_kept m w.objects v.objects more relation.target k
      (leads_kind orderly (steps.stands w p).objects class r relation (at_before m n r relation w v more l at) k j
      (subst (λ (s : Relation). fits_link m w.objects s.target (Handed.Object k) ≡ true) (same relation at) fit))) refl in
      (q, no_more v, (side, stand, own))))

  pub read_named_goes : (n : ℕ) (name : List ℕ) (k : ℕ) (w : Work) → P w → n < length w.objects → k < length w.objects → HoldsAfter (λ c v. P v × More w v × IsRead n k c v) (read_named world n name k w)
  read_named_goes n name k w p l j =
      let m = world.model in
      let class = (object w n).class in
      let member = member_of m class name in
      read_for_goes n k (collection_in m class member) w p l j (many_in m class member)

  pub held_again : (n r : ℕ) (ks : List ℕ) (v : Work) → P v → n < length v.objects → ((relation : Relation) → IsAt world.model (object v n).class r relation → not (is_to_one relation.side) ≡ true) →
      MayStand world.model n r ks v → P (with_relation n r (Held.Many (Collection.Fetched ks)) v) × More v (with_relation n r (Held.Many (Collection.Fetched ks)) v)
  held_again n r ks v q l side stand =
      hold_goes n r (Held.Many (Collection.Fetched ks)) v q l refl (λ relation at. and_from (not (is_to_one relation.side)) (list_all (leads_to world.model v.objects relation.target) ks) (side relation at) (stand relation at))

  pub add_goes : (n : ℕ) (name : List ℕ) (k : ℕ) (w : Work) → P w → n < length w.objects → k < length w.objects → HoldsAfter (λ u v. P v × More w v) (add world n name k w)
  add_goes n name k w p l j =
      then_from (IsRead n k) w (read_named world n name k w) _ (read_named_goes n name k w p l j) (λ c v q more h.
      held_again n c.0 (c.1 ++ k ∷ []) v q (within_more w v n more l) h.0 (stand_with world.model n c.0 c.1 k v h.1 h.2))

  pub take_out_goes : (n : ℕ) (name : List ℕ) (k : ℕ) (w : Work) → P w → n < length w.objects → k < length w.objects → HoldsAfter (λ b v. P v × More w v) (take_out world n name k w)
  take_out_goes n name k w p l j =
      then_from (IsRead n k) w (read_named world n name k w) _ (read_named_goes n name k w p l j) (λ c v q more h.
      held_again n c.0 (without_first k c.1) v q (within_more w v n more l) h.0 (stand_without world.model n c.0 c.1 k v h.1))

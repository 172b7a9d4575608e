-- What the view holds in a relation of a live object, and what leads to an object.
use Rattle.std.proofs.Common.{◌≡◌, ◌<◌, ℕ, zero, suc, Bool, true, false, List, [], ◌∷◌, length, refl, ap, sym, subst, ◌∙◌}
use Rattle.std.specs.Prelude.{nat_lt, not, Option, Some, None, is_some, ◌==◌, ◌&&◌, if◌then◌else◌, slice_get, slice_index_or}
use Rattle.std.specs.List.{All, AllByRecursion, find, list_all}
use Rattle.std.specs.Option.{unwrap_or}
use Rattle.std.proofs.lemmas.Bool.{and_from, and_parts, eq-eqb, eqb-true, false≢true, lt-ltb, ltb-true, true≢false}
use Rattle.std.proofs.lemmas.List.Elements.{All-from_recursion, All-weaker, recursion_from_All}
use Rattle.jpa_value.specs.declared.value.Identity.{Identity}
use Rattle.jpa_value.specs.Value.{fits}
use Rattle.jpa_model.specs.declared.unit.PersistenceUnit.{PersistenceUnit}
use Rattle.jpa_model.specs.declared.unit.Relation.{Relation}
use Rattle.jpa_model.specs.Chains.{attributes_of, is_held_by, is_to_one, relations_of, root_of}
use Rattle.jpa_behaviour.specs.Behaviour.{World}
use Rattle.jpa_stored.specs.declared.objects.stored.Stored.{Stored}
use Rattle.jpa_stored.specs.objects.Sets.{each_fits, is_identity_of, is_key_of, is_shaped, members, members_of, version_there}
use Rattle.jpa_rows.specs.rows.Cells.{CanBeHeld, holds_representable, names_representable}
use Rattle.jpa_work.specs.declared.heap.Link.{Link}
use Rattle.jpa_work.specs.declared.heap.Collection.{Collection}
use Rattle.jpa_work.specs.declared.heap.Held.{Held}
use Rattle.jpa_work.specs.declared.heap.LiveObject.{LiveObject}
use Rattle.jpa_work.specs.heap.Objects.{held_at, is_whole, no_object}
use Rattle.jpa_work.specs.declared.context.Entry.{Entry}
use Rattle.jpa_work.specs.context.Work.{Work, has_identity, identity_at, instance, object, object_in, row}
use Rattle.jpa_cascade.specs.There.{AreLinked, HoldsWithin}
use Rattle.jpa_cascade.specs.Waves.{members_now, members_under}
use Rattle.jpa_machine.specs.machine.Consistent.{IsLive, held_fits, leads_to, name_of}
use Rattle.jpa_operations.specs.fetch.Orderly.{IsOrderly}
use Rattle.jpa_machine.proofs.machine.Going.{EachHas, More, within_more}
use Rattle.jpa_machine.proofs.machine.Loaded.{row_holds, same_exact}
use Rattle.jpa_machine.proofs.machine.Related.{AreMembers, members_fit, no_members}

-- ---- what operations stand on

-- live objects, entries of objects of the heap, and a set that a store can hold
pub record IsStanding (world : World) (w : Work) : Type 0 where
  pub objects : All (IsLive world.model w.objects) w.objects
  pub entries : All (λ (e : Entry). e.object < length w.objects) w.context
  pub view : CanBeHeld world w.view w.numbers

-- ---- links stay in the heap

-- what stands where there is no relation
abbrev pub is_none : Held → Bool
is_none (Held.One Link.None) = true
is_none (Held.One (Link.Object k)) = false
is_none (Held.One (Link.Key id)) = false
is_none (Held.Many c) = false

holds_within : (m : PersistenceUnit) (os : List LiveObject) (r : Relation) (h : Held) → held_fits m os r h ≡ true → HoldsWithin (length os) h
holds_within m os r (Held.One Link.None) h = tt
holds_within m os r (Held.One (Link.Object k)) h =
    let a = and_parts (is_to_one r.side) (leads_to m os r.target k) h in
    ltb-true k (length os) (and_parts (nat_lt k (length os)) _ a.1).0
holds_within m os r (Held.One (Link.Key id)) h = tt
holds_within m os r (Held.Many Collection.Unfetched) h = tt
holds_within m os r (Held.Many (Collection.Fetched ks)) h =
    All-from_recursion (λ k. k < length os) ks (each ks (and_parts (not (is_to_one r.side)) (list_all (leads_to m os r.target) ks) h).1)
  where
    each : (js : List ℕ) → list_all (leads_to m os r.target) js ≡ true → AllByRecursion (λ k. k < length os) js
    each [] g = tt
    each (j ∷ js) g =
        let a = and_parts (leads_to m os r.target j) (list_all (leads_to m os r.target) js) g in
        (ltb-true j (length os) (and_parts (nat_lt j (length os)) _ a.0).0, each js a.1)

all_within : (m : PersistenceUnit) (os : List LiveObject) (rs : List Relation) (hs : List Held) → each_fits (held_fits m os) rs hs ≡ true → AllByRecursion (HoldsWithin (length os)) hs
all_within m os [] [] h = tt
all_within m os [] (x ∷ xs) h = absurd (false≢true h)
all_within m os (r ∷ rs) [] h = tt
all_within m os (r ∷ rs) (x ∷ xs) h = let a = and_parts (held_fits m os r x) (each_fits (held_fits m os) rs xs) h in (holds_within m os r x a.0, all_within m os rs xs a.1)

pub linked : {m : PersistenceUnit} (os : List LiveObject) → All (IsLive m os) os → AreLinked os
linked {m} os h =
    All-weaker (IsLive m os) (λ (x : LiveObject). All (HoldsWithin (length os)) x.relations)
    (λ x live. All-from_recursion (HoldsWithin (length os)) x.relations (all_within m os (relations_of m x.class) x.relations live.relations)) os h

pub holds_at_place : (world : World) (w : Work) → IsStanding world w → (n : ℕ) → n < length w.objects → (r : ℕ) → HoldsWithin (length w.objects) (held_at (object w n) r)
holds_at_place world w h n l r =
    let x = object w n in
    let live = h.objects n no_object l in
    in_list x.relations r (all_within world.model w.objects (relations_of world.model x.class) x.relations live.relations)
  where
    in_list : (hs : List Held) (i : ℕ) → AllByRecursion (HoldsWithin (length w.objects)) hs → HoldsWithin (length w.objects) (slice_index_or hs i (Held.One Link.None))
    in_list [] i k = tt
    in_list (y ∷ ys) zero k = k.0
    in_list (y ∷ ys) (suc i) k = in_list ys i k.1

-- where a collection is held there is a relation that holds it
pub held_there : (m : PersistenceUnit) (os : List LiveObject) (rs : List Relation) (hs : List Held) (r : ℕ) (h : Held) → each_fits (held_fits m os) rs hs ≡ true → slice_index_or hs r (Held.One Link.None) ≡ h →
    is_none h ≡ false → (relation : Relation) × (slice_get rs r ≡ Some relation) × (held_fits m os relation h ≡ true)
held_there m os [] [] r h fit e some = absurd (true≢false (ap is_none e ∙ some))
held_there m os [] (x ∷ xs) r h fit e some = absurd (false≢true fit)
held_there m os (q ∷ qs) [] r h fit e some = absurd (false≢true fit)
held_there m os (q ∷ qs) (x ∷ xs) zero h fit e some = (q, refl, subst (λ y. held_fits m os q y ≡ true) e (and_parts (held_fits m os q x) (each_fits (held_fits m os) qs xs) fit).0)
held_there m os (q ∷ qs) (x ∷ xs) (suc r) h fit e some = held_there m os qs xs r h (and_parts (held_fits m os q x) (each_fits (held_fits m os) qs xs) fit).1 e some

-- ---- an object that an identity leads to

-- an object of the heap, in the table of the identity
abbrev pub Leads : PersistenceUnit → Identity → ℕ → Work → Type 0
Leads m id k w = (k < length w.objects) × (((root_of m (object w k).class).table == id.table) ≡ true)

pub leads_still : (m : PersistenceUnit) (id : Identity) (k : ℕ) (w v : Work) → More w v → Leads m id k w → Leads m id k v
leads_still m id k w v more h = (within_more w v k more h.0, subst (λ c. ((root_of m c).table == id.table) ≡ true) (sym (more.class k h.0)) h.1)

named_table : (m : PersistenceUnit) (x : LiveObject) (id : Identity) (b : Bool) → has_identity (if b then Some (name_of m x) else None) id ≡ true → ((root_of m x.class).table == id.table) ≡ true
named_table m x id true h = eq-eqb (root_of m x.class).table id.table (ap (λ (i : Identity). i.table) (same_exact (name_of m x) id h))
named_table m x id false h = absurd (false≢true h)

found_named : (m : PersistenceUnit) (w : Work) (id : Identity) (es : List Entry) (k : ℕ) → AllByRecursion (λ (e : Entry). e.object < length w.objects) es →
    object_in (find (λ (e : Entry). has_identity (identity_at m w e.object) id) es) ≡ Some k → Leads m id k w
found_named m w id [] k h e = absurd (false≢true (ap is_some e))
found_named m w id (x ∷ xs) k h e = by_test (has_identity (identity_at m w x.object) id) refl e (found_named m w id xs k h.1)
  where
    by_test : (b : Bool) → has_identity (identity_at m w x.object) id ≡ b → object_in (if b then Some x else find (λ (y : Entry). has_identity (identity_at m w y.object) id) xs) ≡ Some k →
        (object_in (find (λ (y : Entry). has_identity (identity_at m w y.object) id) xs) ≡ Some k → Leads m id k w) → Leads m id k w
    by_test true t g later = subst (λ j. Leads m id j w) (ap (λ o. unwrap_or o k) g) (h.0, named_table m (object w x.object) id (is_whole (object w x.object).key) t)
    by_test false t g later = later g

pub instance_leads : (m : PersistenceUnit) (w : Work) (id : Identity) (k : ℕ) → All (λ (e : Entry). e.object < length w.objects) w.context → instance m w id ≡ Some k → Leads m id k w
instance_leads m w id k h e = found_named m w id w.context k (recursion_from_All (λ (x : Entry). x.object < length w.objects) w.context h) e

-- the object of a row stands in the table of the row's identity
pub row_table : (world : World) (id : Identity) (x : Stored) (w : Work) → IsStanding world w → row w id ≡ Some x → ((root_of world.model x.class).table == id.table) ≡ true
row_table world id x w h e =
    let m = world.model in
    let shaped = row_holds (λ (p : Identity × Stored). is_shaped m p.0 p.1) id x w.view (h.view).shaped e in
    let a = and_parts (nat_lt x.class (length m.entities)) _ shaped in
    let b = and_parts (is_identity_of (root_of m x.class) id) _ a.1 in
    let c = and_parts (id.table == (root_of m x.class).table) (is_key_of (root_of m x.class) id.key) b.0 in
    eq-eqb (root_of m x.class).table id.table (sym (eqb-true id.table (root_of m x.class).table c.0))

-- where the identity is of a relation's target, the object may stand in the relation
pub leads_named : (m : PersistenceUnit) (target : ℕ) (id : Identity) (k : ℕ) (w : Work) → Leads m id k w → is_identity_of (root_of m target) id ≡ true → leads_to m w.objects target k ≡ true
leads_named m target id k w h of =
    let a = and_parts (id.table == (root_of m target).table) (is_key_of (root_of m target) id.key) of in
    let t = (root_of m (object w k).class).table in
    and_from (nat_lt k (length w.objects)) _ (lt-ltb k (length w.objects) h.0)
    (eq-eqb t (root_of m target).table (eqb-true t id.table h.1 ∙ eqb-true id.table (root_of m target).table a.0))

pub all_lead : (m : PersistenceUnit) (target : ℕ) (ids : List Identity) (ks : List ℕ) (w : Work) → EachHas (Leads m) ids ks w → list_all (is_identity_of (root_of m target)) ids ≡ true →
    list_all (leads_to m w.objects target) ks ≡ true
all_lead m target [] [] w h of = refl
all_lead m target [] (k ∷ ks) w h of = absurd h
all_lead m target (id ∷ ids) [] w h of = absurd h
all_lead m target (id ∷ ids) (k ∷ ks) w h of =
    let a = and_parts (is_identity_of (root_of m target) id) (list_all (is_identity_of (root_of m target)) ids) of in
    and_from (leads_to m w.objects target k) (list_all (leads_to m w.objects target) ks) (leads_named m target id k w h.0 a.0) (all_lead m target ids ks w h.1 a.1)

-- ---- what the view holds in a relation of an object

module _ {world : World} (orderly : IsOrderly world.model) (w : Work) (h : CanBeHeld world w.view w.numbers) where
  pub members_now_fit : (n r : ℕ) (relation : Relation) → slice_get (relations_of world.model (object w n).class) r ≡ Some relation → AreMembers world.model relation.target (members_now world.model w n r)
  members_now_fit n r relation at = by_name (identity_at world.model w n)
    where
      by_test : (id : Identity) (x : Stored) (b : Bool) → is_held_by world.model (object w n).class r x.class ≡ b → row w id ≡ Some x →
          AreMembers world.model relation.target (if b then members world.model w.view id x r else [])
      by_test id x true t e =
          let m = world.model in
          let shaped = row_holds (λ (p : Identity × Stored). is_shaped m p.0 p.1) id x w.view h.shaped e in
          let a = and_parts (nat_lt x.class (length m.entities)) _ shaped in
          let b = and_parts (is_identity_of (root_of m x.class) id) _ a.1 in
          let c = and_parts (version_there (root_of m x.class).version x.version) _ b.1 in
          let d = and_parts (each_fits (λ at' v. fits at'.kind v) (attributes_of m x.class) x.values) _ c.1 in
          let rep = row_holds (λ (p : Identity × Stored). names_representable p.0 && holds_representable p.1) id x w.view h.representable e in
          members_fit orderly h x d.1 (and_parts (names_representable id) (holds_representable x) rep).1 id r relation
          (orderly.places (object w n).class r relation at x.class a.0 t)
      by_test id x false t e = no_members world.model relation.target

      by_row : (id : Identity) (o : Option Stored) → row w id ≡ o → AreMembers world.model relation.target (members_of world.model w.view (object w n).class id o r)
      by_row id None e = no_members world.model relation.target
      by_row id (Some x) e = by_test id x (is_held_by world.model (object w n).class r x.class) refl e

      by_name : (o : Option Identity) → AreMembers world.model relation.target (members_under world.model w (object w n).class o r)
      by_name None = no_members world.model relation.target
      by_name (Some id) = by_row id (row w id) refl

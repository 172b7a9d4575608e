-- What was not touched since the marks were made is as its base says still, where no object that is not new took another key.
use Rattle.std.proofs.Common.{◌≡◌, ◌∙◌, ℕ, zero, suc, ◌<◌, Bool, true, false, not, List, [], ◌∷◌, ◌++◌, map, length, get_or, refl, ap, arith}
use Rattle.std.specs.Prelude.{◌&&◌, nat_lt, Option, Some, None, if◌then◌else◌}
use Rattle.std.specs.List.{list_all, flat_map, enumerate_from}
use Rattle.std.proofs.lemmas.Bool.{and_parts, and_from, false≢true, ltb-true, lt-ltb}
use Rattle.jpa_model.specs.declared.unit.PersistenceUnit.{PersistenceUnit}
use Rattle.jpa_model.specs.declared.unit.Relation.{Relation}
use Rattle.jpa_model.specs.Chains.{relations_of, root_of}
use Rattle.jpa_work.specs.declared.heap.Collection.{Collection}
use Rattle.jpa_work.specs.declared.heap.Held.{Held}
use Rattle.jpa_work.specs.declared.heap.Link.{Link}
use Rattle.jpa_work.specs.declared.heap.LiveObject.{LiveObject}
use Rattle.jpa_work.specs.heap.Objects.{held_at, is_new, is_whole}
use Rattle.jpa_work.specs.declared.context.Base.{Base}
use Rattle.jpa_work.specs.declared.context.Entry.{Entry}
use Rattle.jpa_work.specs.context.Work.{Work, object, state_of, state_from, is_managed, identity_at}
use Rattle.jpa_operations.specs.fetch.Grown.{objects_held}
use Rattle.jpa_flush.specs.flush.Flush.{held_now, listed, members_held, rising, same_values}
use Rattle.jpa_flush.specs.flush.Plan.{same_members}
use Rattle.jpa_flush.specs.flush.Marked.{GoesOn, holds_named, is_base, is_calm, is_linked, is_named, is_unlocked, leads_along, may_lead}

module _ (m : PersistenceUnit) {w v : Work} (on : GoesOn w v) where
  not_new : (b : Bool) → not b ≡ true → b ≡ false
  not_new true h = absurd (false≢true h)
  not_new false h = refl

  -- the test, taken apart
  named_parts : (k : ℕ) → is_named w k ≡ true → (k < length w.objects) × (is_new (object w k).life ≡ false)
  named_parts k h =
      let p = and_parts (nat_lt k (length w.objects)) _ h in
      (ltb-true k (length w.objects) p.0, not_new (is_new (object w k).life) p.1)

  named_on : (k : ℕ) → is_named w k ≡ true → is_named v k ≡ true
  named_on k h =
      let p = named_parts k h in
      let l = p.0 in
      let c = on.count in
      and_from (nat_lt k (length v.objects)) _ (lt-ltb k (length v.objects) (omega (arith, l, c))) (ap not (on.names k p.0 p.1).old)

  all_on : (ks : List ℕ) → list_all (is_named w) ks ≡ true → list_all (is_named v) ks ≡ true
  all_on [] h = refl
  all_on (k ∷ ks) h =
      let p = and_parts (is_named w k) (list_all (is_named w) ks) h in
      and_from (is_named v k) (list_all (is_named v) ks) (named_on k p.0) (all_on ks p.1)

  held_on : (hs : List Held) → list_all (holds_named w) hs ≡ true → list_all (holds_named v) hs ≡ true
  held_on [] h = refl
  held_on (x ∷ hs) h =
      let p = and_parts (holds_named w x) (list_all (holds_named w) hs) h in
      and_from (holds_named v x) (list_all (holds_named v) hs) (all_on (objects_held x) p.0) (held_on hs p.1)

  -- ---- identities stay

  identity_on : (k : ℕ) → is_named w k ≡ true → identity_at m v k ≡ identity_at m w k
  identity_on k h =
      let p = named_parts k h in
      let s = on.names k p.0 p.1 in
      λ i. if is_whole (s.key i) then Some (record { table = (root_of m (s.class i)).table; key = s.key i }) else None

  listed_on : (ks : List ℕ) → list_all (is_named w) ks ≡ true → flat_map (λ k. listed (identity_at m v k)) ks ≡ flat_map (λ k. listed (identity_at m w k)) ks
  listed_on [] h = refl
  listed_on (k ∷ ks) h =
      let p = and_parts (is_named w k) (list_all (is_named w) ks) h in
      λ i. listed (identity_on k p.0 i) ++ listed_on ks p.1 i

  now_on : (x : Held) → holds_named w x ≡ true → held_now m v x ≡ held_now m w x
  now_on (Held.One Link.None) h = refl
  now_on (Held.One (Link.Object k)) h = ap (λ o. Some (listed o)) (identity_on k (and_parts (is_named w k) true h).0)
  now_on (Held.One (Link.Key id)) h = refl
  now_on (Held.Many (Collection.Fetched ks)) h = ap (λ ids. Some (rising ids)) (listed_on ks h)
  now_on (Held.Many Collection.Unfetched) h = refl

  members_on : (hs : List Held) → list_all (holds_named w) hs ≡ true → map (held_now m v) hs ≡ map (held_now m w) hs
  members_on [] h = refl
  members_on (x ∷ hs) h =
      let p = and_parts (holds_named w x) (list_all (holds_named w) hs) h in
      λ i. now_on x p.0 i ∷ members_on hs p.1 i

  -- ---- the object and its base stay

  base_on : (n : ℕ) (o : Option Base) → object v n ≡ object w n → list_all (holds_named w) (object w n).relations ≡ true → is_base m w n o ≡ true → is_base m v n o ≡ true
  base_on n None same held h = absurd (false≢true h)
  base_on n (Some b) same held h =
      let members : members_held m v n ≡ members_held m w n =
      ap (λ (x : LiveObject). map (held_now m v) x.relations) same ∙ members_on (object w n).relations held in
      (λ i. same_values (same i).values (b.stored).values && same_members b.members (members i)) ∙ h

  pub calm_on : (e : Entry) → object v e.object ≡ object w e.object → is_calm m w e ≡ true → is_calm m v e ≡ true
  calm_on e same h =
      let p = and_parts (is_managed (state_of w e.object)) _ h in
      let q = and_parts (is_unlocked e.lock) _ p.1 in
      let r = and_parts (is_base m w e.object e.base) _ q.1 in
      and_from (is_managed (state_of v e.object)) _ ((λ i. is_managed (state_from (on.manager i) (same i).life)) ∙ p.0)
      (and_from (is_unlocked e.lock) _ q.0
      (and_from (is_base m v e.object e.base) _ (base_on e.object e.base same r.1 r.0)
      (ap (λ (x : LiveObject). list_all (holds_named v) x.relations) same ∙ held_on (object w e.object).relations r.1)))

  -- ---- so do its links, where what it leads to may be led to still

  module _ (leads : (b : Bool) (k : ℕ) → is_named w k ≡ true → may_lead b (state_of w k) ≡ true → may_lead b (state_of v k) ≡ true) where
    leads_on : (b : Bool) (ks : List ℕ) → list_all (is_named w) ks ≡ true → list_all (λ k. may_lead b (state_of w k)) ks ≡ true → list_all (λ k. may_lead b (state_of v k)) ks ≡ true
    leads_on b [] named h = refl
    leads_on b (k ∷ ks) named h =
        let p = and_parts (is_named w k) (list_all (is_named w) ks) named in
        let q = and_parts (may_lead b (state_of w k)) (list_all (λ j. may_lead b (state_of w j)) ks) h in
        and_from (may_lead b (state_of v k)) _ (leads b k p.0 q.0) (leads_on b ks p.1 q.1)

    -- what is held at a place is named
    named_at : (hs : List Held) (r : ℕ) → list_all (holds_named w) hs ≡ true → list_all (is_named w) (objects_held (get_or hs r (Held.One Link.None))) ≡ true
    named_at [] r h = refl
    named_at (x ∷ hs) r h = by r (and_parts (holds_named w x) (list_all (holds_named w) hs) h).0 (λ i. named_at hs i (and_parts (holds_named w x) (list_all (holds_named w) hs) h).1)
      where
        by : (r : ℕ) → holds_named w x ≡ true → ((i : ℕ) → list_all (is_named w) (objects_held (get_or hs i (Held.One Link.None))) ≡ true) → list_all (is_named w) (objects_held (get_or (x ∷ hs) r (Held.One Link.None))) ≡ true
        by zero own rest = own
        by (suc i) own rest = rest i

    along_on : (n : ℕ) (p : ℕ × Relation) → object v n ≡ object w n → list_all (holds_named w) (object w n).relations ≡ true → leads_along w n p ≡ true → leads_along v n p ≡ true
    along_on n p same held h =
        ap (λ (x : LiveObject). list_all (λ k. may_lead ((p.1).cascade).persist (state_of v k)) (objects_held (held_at x p.0))) same
        ∙ leads_on ((p.1).cascade).persist (objects_held (held_at (object w n) p.0)) (named_at (object w n).relations p.0 held) h

    each_on : (n : ℕ) (ps : List (ℕ × Relation)) → object v n ≡ object w n → list_all (holds_named w) (object w n).relations ≡ true → list_all (leads_along w n) ps ≡ true → list_all (leads_along v n) ps ≡ true
    each_on n [] same held h = refl
    each_on n (p ∷ ps) same held h =
        let q = and_parts (leads_along w n p) (list_all (leads_along w n) ps) h in
        and_from (leads_along v n p) _ (along_on n p same held q.0) (each_on n ps same held q.1)

    pub linked_on : (n : ℕ) → object v n ≡ object w n → list_all (holds_named w) (object w n).relations ≡ true → is_linked m w n ≡ true → is_linked m v n ≡ true
    linked_on n same held h =
        ap (λ (x : LiveObject). list_all (leads_along v n) (enumerate_from 0 (relations_of m x.class))) same
        ∙ each_on n (enumerate_from 0 (relations_of m (object w n).class)) same held h

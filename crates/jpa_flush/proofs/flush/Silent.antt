-- A flush makes nothing of an object that is as its base says: it has no action and no orphan, its base remembers what it holds, and
-- it leads to nothing that is persisted or refused.
use Rattle.std.proofs.Common.{◌≡◌, ◌∙◌, ◌⊎◌, inl, inr, ℕ, ◌<◌, ◌≤◌, Bool, true, false, not, List, [], ◌∷◌, ◌++◌, length, get_or, refl, ap, sym, arith}
use Rattle.std.specs.Prelude.{◌||◌, Option, Some, None, if◌then◌else◌}
use Rattle.std.specs.List.{list_all, list_any, filter, flat_map, enumerate_from}
use Rattle.std.specs.Cmp.{eq_by_cmp_equiv}
use Rattle.std.proofs.lemmas.Bool.{and_parts, and_from, false≢true, cases_lt}
use Rattle.std.proofs.lemmas.List.{length-map, get_or-map, get_or_past}
use Rattle.jpa_value.specs.declared.value.Identity.{Identity}
use Rattle.jpa_value.specs.Value.{same_identity}
use Rattle.jpa_value.proofs.Orders.{identity_total}
use Rattle.jpa_model.specs.declared.unit.PersistenceUnit.{PersistenceUnit}
use Rattle.jpa_model.specs.declared.unit.Relation.{Relation}
use Rattle.jpa_model.specs.Chains.{relations_of}
use Rattle.jpa_work.specs.declared.heap.Held.{Held}
use Rattle.jpa_work.specs.declared.heap.Link.{Link}
use Rattle.jpa_work.specs.heap.Objects.{held_at}
use Rattle.jpa_work.specs.declared.context.Base.{Base}
use Rattle.jpa_work.specs.declared.context.Entry.{Entry}
use Rattle.jpa_work.specs.declared.context.EntityState.{EntityState}
use Rattle.jpa_work.specs.declared.context.Lock.{Lock}
use Rattle.jpa_work.specs.context.Work.{Work, object, state_of, is_managed, base_of}
use Rattle.jpa_operations.specs.fetch.Grown.{objects_held}
use Rattle.jpa_flush.specs.flush.Flush.{action_in, action_of, differs, gone_from, held_now, in_base, is_owner, is_storable, is_write, links_along, links_stored, members_held, orphans_along, orphans_of, remembered, replace_if, same_along, same_identities, same_if_read, same_values}
use Rattle.jpa_flush.specs.flush.Plan.{same_member, same_members}
use Rattle.jpa_flush.specs.flush.Marked.{is_base, is_calm, is_linked, is_unlocked, holds_named, leads_along, may_lead}
use Rattle.jpa_flush.proofs.flush.Remembered.{remembers_already, with_members}
use Rattle.jpa_flush.proofs.flush.Same.{members_are_one}

-- ---- lists of identities

itself : (id : Identity) → same_identity id id ≡ true
itself id = (eq_by_cmp_equiv identity_total).refl id

pub identities_same : (xs : List Identity) → same_identities xs xs ≡ true
identities_same [] = refl
identities_same (x ∷ xs) = and_from (same_identity x x) (same_identities xs xs) (itself x) (identities_same xs)

member_same : (o : Option (List Identity)) → same_member o o ≡ true
member_same None = refl
member_same (Some xs) = identities_same xs

members_same : (ms : List (Option (List Identity))) → same_members ms ms ≡ true
members_same [] = refl
members_same (o ∷ os) = and_from (same_member o o) (same_members os os) (member_same o) (members_same os)

pub later_or : (a b : Bool) → b ≡ true → (a || b) ≡ true
later_or true b h = refl
later_or false b h = h

first_or : (a b : Bool) → a ≡ true → (a || b) ≡ true
first_or true b h = refl
first_or false b h = absurd (false≢true h)

-- what stands in a list is not gone from it
filter_none : {X : Type 0} (p : X → Bool) (xs : List X) → list_all (λ x. not (p x)) xs ≡ true → filter p xs ≡ []
filter_none p [] h = refl
filter_none p (x ∷ xs) h =
    let q = and_parts (not (p x)) (list_all (λ y. not (p y)) xs) h in
    by (p x) q.0 (filter_none p xs q.1)
  where
    by : (b : Bool) → not b ≡ true → filter p xs ≡ [] → (if b then x ∷ filter p xs else filter p xs) ≡ []
    by true e k = absurd (false≢true e)
    by false e k = k

not_twice : (b : Bool) → b ≡ true → not (not b) ≡ true
not_twice true e = refl
not_twice false e = absurd (false≢true e)

all_stand : (ys xs : List Identity) → ((id : Identity) → list_any (same_identity id) xs ≡ true → list_any (same_identity id) ys ≡ true) → list_all (λ id. not (not (list_any (same_identity id) ys))) xs ≡ true
all_stand ys [] h = refl
all_stand ys (x ∷ xs) h =
    and_from _ _ (not_twice (list_any (same_identity x) ys) (h x (first_or (same_identity x x) (list_any (same_identity x) xs) (itself x))))
    (all_stand ys xs (λ id k. h id (later_or (same_identity id x) (list_any (same_identity id) xs) k)))

pub none_gone : (o : Option (List Identity)) → gone_from o o ≡ []
none_gone None = refl
none_gone (Some xs) = filter_none (λ id. not (list_any (same_identity id) xs)) xs (all_stand xs xs (λ id k. k))

still_read : (o : Option (List Identity)) → same_if_read o o ≡ true
still_read None = refl
still_read (Some xs) = identities_same xs

unread_same : (now : Option (List Identity)) → same_if_read None now ≡ true
unread_same now = refl

-- ---- what a base knows is what its object holds

module _ (m : PersistenceUnit) (w : Work) (n : ℕ) (b : Base) (members : b.members ≡ members_held m w n) where
  -- at each place, or the base knows nothing of it
  known_now : (r : ℕ) → (in_base (Some b) r ≡ held_now m w (held_at (object w n) r)) ⊎ (in_base (Some b) r ≡ None)
  known_now r = by (cases_lt r (length (object w n).relations))
    where
      by : (r < length (object w n).relations) ⊎ (length (object w n).relations ≤ r) → (in_base (Some b) r ≡ held_now m w (held_at (object w n) r)) ⊎ (in_base (Some b) r ≡ None)
      by (inl l) = inl (ap (λ (ms : List (Option (List Identity))). get_or ms r None) members ∙ get_or-map (held_now m w) (object w n).relations r (Held.One Link.None) None l)
      by (inr l) =
          inr (ap (λ (ms : List (Option (List Identity))). get_or ms r None) members
          ∙ get_or_past (members_held m w n) r None (let same = length-map (object w n).relations (held_now m w) in omega (arith, l, same)))

  along_same : (p : ℕ × Relation) → same_along m w n b p ≡ true
  along_same p = later_or (not (is_owner (p.1).side)) (same_if_read (in_base (Some b) p.0) (held_now m w (held_at (object w n) p.0))) (by (known_now p.0))
    where
      by : (in_base (Some b) p.0 ≡ held_now m w (held_at (object w n) p.0)) ⊎ (in_base (Some b) p.0 ≡ None) → same_if_read (in_base (Some b) p.0) (held_now m w (held_at (object w n) p.0)) ≡ true
      by (inl e) = ap (λ o. same_if_read o (held_now m w (held_at (object w n) p.0))) e ∙ still_read (held_now m w (held_at (object w n) p.0))
      by (inr e) = ap (λ o. same_if_read o (held_now m w (held_at (object w n) p.0))) e

  all_along : (ps : List (ℕ × Relation)) → list_all (same_along m w n b) ps ≡ true
  all_along [] = refl
  all_along (p ∷ ps) = and_from (same_along m w n b p) (list_all (same_along m w n b) ps) (along_same p) (all_along ps)

  pub differs_not : same_values (object w n).values (b.stored).values ≡ true → differs m w n b ≡ false
  differs_not h = ap not (and_from (same_values (object w n).values (b.stored).values) _ h (all_along (enumerate_from 0 (relations_of m (object w n).class))))

  gone_along : (r : ℕ) → gone_from (in_base (Some b) r) (held_now m w (held_at (object w n) r)) ≡ []
  gone_along r = by (known_now r)
    where
      by : (in_base (Some b) r ≡ held_now m w (held_at (object w n) r)) ⊎ (in_base (Some b) r ≡ None) → gone_from (in_base (Some b) r) (held_now m w (held_at (object w n) r)) ≡ []
      by (inl e) = ap (λ o. gone_from o (held_now m w (held_at (object w n) r))) e ∙ none_gone (held_now m w (held_at (object w n) r))
      by (inr e) = ap (λ o. gone_from o (held_now m w (held_at (object w n) r))) e

  pub orphans_none : base_of w n ≡ Some b → (ps : List (ℕ × Relation)) → flat_map (orphans_along m w n) ps ≡ []
  orphans_none own [] = refl
  orphans_none own (p ∷ ps) = by ((p.1).orphan_removal) (orphans_none own ps)
    where
      by : (c : Bool) → flat_map (orphans_along m w n) ps ≡ [] →
          (if c then gone_from (in_base (base_of w n) p.0) (held_now m w (held_at (object w n) p.0)) else []) ++ flat_map (orphans_along m w n) ps ≡ []
      by true k = ap (λ o. gone_from (in_base o p.0) (held_now m w (held_at (object w n) p.0)) ++ flat_map (orphans_along m w n) ps) own
          ∙ ap (λ ids. ids ++ flat_map (orphans_along m w n) ps) (gone_along p.0) ∙ k
      by false k = k

-- ---- the parts of the test

-- it has a base
pub record HasBase (m : PersistenceUnit) (w : Work) (e : Entry) : Type 0 where
  pub base : Base
  pub has : e.base ≡ Some base
  pub values : same_values (object w e.object).values (base.stored).values ≡ true
  pub members : base.members ≡ members_held m w e.object

has_base : (m : PersistenceUnit) (w : Work) (e : Entry) (o : Option Base) → e.base ≡ o → is_base m w e.object o ≡ true → HasBase m w e
has_base m w e None own h = absurd (false≢true h)
has_base m w e (Some b) own h =
    let p = and_parts (same_values (object w e.object).values (b.stored).values) (same_members b.members (members_held m w e.object)) h in
    record { base = b; has = own; values = p.0; members = members_are_one b.members (members_held m w e.object) p.1 }

pub record IsCalm (m : PersistenceUnit) (w : Work) (e : Entry) : Type 0 where
  pub managed : is_managed (state_of w e.object) ≡ true
  pub unlocked : is_unlocked e.lock ≡ true
  pub based : HasBase m w e
  pub named : list_all (holds_named w) (object w e.object).relations ≡ true

pub calm_parts : (m : PersistenceUnit) (w : Work) (e : Entry) → is_calm m w e ≡ true → IsCalm m w e
calm_parts m w e h =
    let p = and_parts (is_managed (state_of w e.object)) _ h in
    let q = and_parts (is_unlocked e.lock) _ p.1 in
    let r = and_parts (is_base m w e.object e.base) _ q.1 in
    record { managed = p.0; unlocked = q.0; based = has_base m w e e.base refl r.0; named = r.1 }

managed_state : (s : EntityState) → is_managed s ≡ true → s ≡ EntityState.Managed
managed_state EntityState.New h = absurd (false≢true h)
managed_state EntityState.Managed h = refl
managed_state EntityState.Removed h = absurd (false≢true h)
managed_state EntityState.Detached h = absurd (false≢true h)

-- ---- a flush makes nothing of it

unlocked_writes : (l : Lock) → is_unlocked l ≡ true → is_write l ≡ false
unlocked_writes Lock.Unlocked h = refl
unlocked_writes Lock.Read h = absurd (false≢true h)
unlocked_writes Lock.Write h = absurd (false≢true h)

pub calm_action : (m : PersistenceUnit) (w : Work) (e : Entry) → is_calm m w e ≡ true → action_of m w e ≡ None
calm_action m w e h =
    let c = calm_parts m w e h in
    let b = (c.based).base in
    let same = differs_not m w e.object b (c.based).members (c.based).values in
    (λ i. action_in m w e (managed_state (state_of w e.object) c.managed i) ((c.based).has i))
    ∙ ap (λ d. replace_if (d || is_write e.lock) b) same
    ∙ ap (λ l. replace_if l b) (unlocked_writes e.lock c.unlocked)

pub calm_remembered : (m : PersistenceUnit) (w : Work) (e : Entry) → is_calm m w e ≡ true → remembered m w e ≡ e
calm_remembered m w e h =
    let c = calm_parts m w e h in
    let b = (c.based).base in
    ap (λ t. if t then with_members (members_held m w e.object) e else e) c.managed
    ∙ sym (remembers_already e b (members_held m w e.object) (c.based).has (ap (λ ms. same_members b.members ms) (sym (c.based).members) ∙ members_same b.members))

-- its entry is the one of its object
pub calm_orphans : (m : PersistenceUnit) (w : Work) (e : Entry) → is_calm m w e ≡ true → base_of w e.object ≡ e.base → orphans_of m w e.object (state_of w e.object) ≡ []
calm_orphans m w e h own =
    let c = calm_parts m w e h in
    ap (orphans_of m w e.object) (managed_state (state_of w e.object) c.managed)
    ∙ orphans_none m w e.object (c.based).base (c.based).members (own ∙ (c.based).has) (enumerate_from 0 (relations_of m (object w e.object).class))

-- ---- it leads to nothing that is refused

storable_managed : (s : EntityState) → is_managed s ≡ true → is_storable s ≡ true
storable_managed EntityState.New h = absurd (false≢true h)
storable_managed EntityState.Managed h = refl
storable_managed EntityState.Removed h = absurd (false≢true h)
storable_managed EntityState.Detached h = absurd (false≢true h)

along_stored : (w : Work) (n : ℕ) (p : ℕ × Relation) → leads_along w n p ≡ true → links_along w n p ≡ true
along_stored w n p = by ((p.1).cascade).persist
  where
    by : (b : Bool) → list_all (λ k. may_lead b (state_of w k)) (objects_held (held_at (object w n) p.0)) ≡ true →
        (b || list_all (λ k. is_storable (state_of w k)) (objects_held (held_at (object w n) p.0))) ≡ true
    by true h = refl
    by false h = h

all_stored : (w : Work) (n : ℕ) (ps : List (ℕ × Relation)) → list_all (leads_along w n) ps ≡ true → list_all (links_along w n) ps ≡ true
all_stored w n [] h = refl
all_stored w n (p ∷ ps) h =
    let q = and_parts (leads_along w n p) (list_all (leads_along w n) ps) h in
    and_from (links_along w n p) (list_all (links_along w n) ps) (along_stored w n p q.0) (all_stored w n ps q.1)

pub linked_stored : (m : PersistenceUnit) (w : Work) (e : Entry) → is_linked m w e.object ≡ true → links_stored m w e ≡ true
linked_stored m w e h = later_or (not (is_managed (state_of w e.object))) _ (all_stored w e.object (enumerate_from 0 (relations_of m (object w e.object).class)) h)

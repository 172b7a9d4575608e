-- What an object holds in its relations as identities: those that a flush writes and remembers fit the relations.
use Rattle.std.proofs.Common.{◌≡◌, ◌<◌, ℕ, Bool, true, false, List, [], ◌∷◌, ◌++◌, length, map, refl, ap, subst, ◌∙◌}
use Rattle.std.specs.Prelude.{Some, None, nat_lt, not, ◌==◌, slice_get, if◌then◌else◌}
use Rattle.std.specs.List.{All, enumerate_from, flat_map, list_all}
use Rattle.std.specs.Cmp.{IsTotalOrder}
use Rattle.std.specs.FinMap.Entries.{by_order}
use Rattle.std.specs.Ordering.{is_lt, ordering_reverse}
use Rattle.std.specs.declared.cmp.Ordering.{Ordering}
use Rattle.std.specs.declared.cmp.Ordering.TheVariants.{Less, Equal, Greater}
use Rattle.std.proofs.lemmas.Bool.{and_from, and_parts, eq-eqb, false≢true, ltb-true}
use Rattle.jpa_value.specs.declared.value.Identity.{Identity}
use Rattle.jpa_value.specs.Value.{identity_cmp}
use Rattle.jpa_value.proofs.Orders.{identity_total}
use Rattle.jpa_model.specs.declared.unit.PersistenceUnit.{PersistenceUnit}
use Rattle.jpa_model.specs.declared.unit.Relation.{Relation}
use Rattle.jpa_model.specs.declared.unit.Root.{Root}
use Rattle.jpa_model.specs.declared.unit.Side.{Side}
use Rattle.jpa_model.specs.Chains.{is_to_one, relations_of, root_of}
use Rattle.jpa_behaviour.specs.Behaviour.{World}
use Rattle.jpa_stored.specs.objects.Sets.{each_fits, is_at_most_one, is_below, is_identity_of, is_key_of, is_rising, owns_as, owns_well}
use Rattle.jpa_rows.specs.rows.Cells.{names_representable}
use Rattle.jpa_work.specs.declared.heap.Link.{Link}
use Rattle.jpa_work.specs.declared.heap.Collection.{Collection}
use Rattle.jpa_work.specs.declared.heap.Held.{Held}
use Rattle.jpa_work.specs.heap.Objects.{held_at, is_whole, no_object}
use Rattle.jpa_work.specs.context.Work.{Work, identity_at, object}
use Rattle.jpa_cascade.specs.Waves.{members_now}
use Rattle.jpa_flush.specs.flush.Flush.{held_now, into_rising, is_owner, listed, members_held, owned_along, owned_or, rising}
use Rattle.jpa_machine.specs.machine.Consistent.{IsLive, held_fits, held_representable, known_fits, leads_to, name_of}
use Rattle.jpa_operations.specs.fetch.Orderly.{IsOrderly}
use Rattle.jpa_machine.proofs.machine.Members.{IsStanding, members_now_fit}
use Rattle.jpa_machine.proofs.machine.Persisted.{whole_key}
use Rattle.jpa_machine.proofs.machine.Related.{AreMembers, all_enumerated, fits_at, fits_enumerated, holds_at, no_members}

-- ---- rising, each once

module _ (p : Identity → Bool) where
  into_holds : (id : Identity) (xs : List Identity) → p id ≡ true → list_all p xs ≡ true → list_all p (into_rising id xs) ≡ true
  into_holds id [] h k = and_from (p id) true h refl
  into_holds id (x ∷ xs) h k = let a = and_parts (p x) (list_all p xs) k in by_cmp (identity_cmp id x) (into_holds id xs h a.1)
    where
      by_cmp : (o : Ordering) → list_all p (into_rising id xs) ≡ true → list_all p (by_order o (id ∷ x ∷ xs) (x ∷ xs) (x ∷ into_rising id xs)) ≡ true
      by_cmp Less rest = and_from (p id) (list_all p (x ∷ xs)) h k
      by_cmp Equal rest = k
      by_cmp Greater rest = and_from (p x) (list_all p (into_rising id xs)) (and_parts (p x) (list_all p xs) k).0 rest

  rising_holds : (xs : List Identity) → list_all p xs ≡ true → list_all p (rising xs) ≡ true
  rising_holds [] h = refl
  rising_holds (x ∷ xs) h = let a = and_parts (p x) (list_all p xs) h in into_holds x (rising xs) a.0 (rising_holds xs a.1)

less_back : (id x : Identity) → identity_cmp id x ≡ Greater → is_lt (identity_cmp x id) ≡ true
less_back id x e = ap is_lt (IsTotalOrder.antisymm identity_total x id ∙ ap ordering_reverse e)

below_into : (x id : Identity) (ys : List Identity) → is_lt (identity_cmp x id) ≡ true → is_below x ys ≡ true → is_below x (into_rising id ys) ≡ true
below_into x id [] h k = h
below_into x id (y ∷ ys) h k = by_cmp (identity_cmp id y)
  where
    by_cmp : (o : Ordering) → is_below x (by_order o (id ∷ y ∷ ys) (y ∷ ys) (y ∷ into_rising id ys)) ≡ true
    by_cmp Less = h
    by_cmp Equal = k
    by_cmp Greater = k

into_rises : (id : Identity) (xs : List Identity) → is_rising xs ≡ true → is_rising (into_rising id xs) ≡ true
into_rises id [] h = refl
into_rises id (x ∷ xs) h = let a = and_parts (is_below x xs) (is_rising xs) h in by_cmp (identity_cmp id x) refl a.0 (into_rises id xs a.1)
  where
    by_cmp : (o : Ordering) → identity_cmp id x ≡ o → is_below x xs ≡ true → is_rising (into_rising id xs) ≡ true → is_rising (by_order o (id ∷ x ∷ xs) (x ∷ xs) (x ∷ into_rising id xs)) ≡ true
    by_cmp Less e k rest = and_from (is_lt (identity_cmp id x)) (is_rising (x ∷ xs)) (ap is_lt e) h
    by_cmp Equal e k rest = h
    by_cmp Greater e k rest = and_from (is_below x (into_rising id xs)) (is_rising (into_rising id xs)) (below_into x id xs (less_back id x e) k) rest

rising_rises : (xs : List Identity) → is_rising (rising xs) ≡ true
rising_rises [] = refl
rising_rises (x ∷ xs) = into_rises x (rising xs) (rising_rises xs)

-- ---- what a relation holds now

-- identities of the target, at most one where it leads to one
record IsNow (m : PersistenceUnit) (relation : Relation) (ids : List Identity) : Type 0 where
  members : AreMembers m relation.target ids
  one : is_to_one relation.side ≡ true → is_at_most_one ids ≡ true

many : (b : Bool) → not b ≡ true → b ≡ true → ⊥
many true h e = absurd (false≢true h)
many false h e = absurd (false≢true e)

all_joined : (p : Identity → Bool) (xs ys : List Identity) → list_all p xs ≡ true → list_all p ys ≡ true → list_all p (xs ++ ys) ≡ true
all_joined p [] ys h k = k
all_joined p (x ∷ xs) ys h k = let a = and_parts (p x) (list_all p xs) h in and_from (p x) (list_all p (xs ++ ys)) a.0 (all_joined p xs ys a.1 k)

module _ (m : PersistenceUnit) (orderly : IsOrderly m) (w : Work) (alive : All (IsLive m w.objects) w.objects) (class r : ℕ) (relation : Relation)
    (at : slice_get (relations_of m class) r ≡ Some relation) where
  -- the identity of an object that may stand in the relation
  named_fit : (k : ℕ) → leads_to m w.objects relation.target k ≡ true → is_whole (object w k).key ≡ true →
      (is_identity_of (root_of m relation.target) (name_of m (object w k)) ≡ true) × (names_representable (name_of m (object w k)) ≡ true)
  named_fit k h whole =
      let y = object w k in
      let a = and_parts (nat_lt k (length w.objects)) _ h in
      let live = alive k no_object (ltb-true k (length w.objects) a.0) in
      let root = orderly.tables class r relation at y.class live.class a.1 in
      let own = and_from ((root_of m y.class).table == (root_of m y.class).table) (is_key_of (root_of m y.class) y.key) (eq-eqb (root_of m y.class).table (root_of m y.class).table refl) (whole_key (root_of m y.class).key y.key live.key whole) in
      (subst (λ (q : Root). is_identity_of q (name_of m y) ≡ true) root own, live.key_representable)

  listed_fit : (k : ℕ) → leads_to m w.objects relation.target k ≡ true →
      (list_all (is_identity_of (root_of m relation.target)) (listed (identity_at m w k)) ≡ true) × (list_all names_representable (listed (identity_at m w k)) ≡ true)
  listed_fit k h = by_test (is_whole (object w k).key) (named_fit k h)
    where
      by_test : (b : Bool) → (b ≡ true → (is_identity_of (root_of m relation.target) (name_of m (object w k)) ≡ true) × (names_representable (name_of m (object w k)) ≡ true)) →
          (list_all (is_identity_of (root_of m relation.target)) (listed (if b then Some (name_of m (object w k)) else None)) ≡ true)
          × (list_all names_representable (listed (if b then Some (name_of m (object w k)) else None)) ≡ true)
      by_test true f = (and_from _ true (f refl).0 refl, and_from (names_representable (name_of m (object w k))) true (f refl).1 refl)
      by_test false f = (refl, refl)

  all_listed : (ks : List ℕ) → list_all (leads_to m w.objects relation.target) ks ≡ true →
      (list_all (is_identity_of (root_of m relation.target)) (flat_map (λ k. listed (identity_at m w k)) ks) ≡ true)
      × (list_all names_representable (flat_map (λ k. listed (identity_at m w k)) ks) ≡ true)
  all_listed [] h = (refl, refl)
  all_listed (k ∷ ks) h =
      let a = and_parts (leads_to m w.objects relation.target k) (list_all (leads_to m w.objects relation.target) ks) h in
      let one = listed_fit k a.0 in
      let rest = all_listed ks a.1 in
      let ids = listed (identity_at m w k) in
      let others = flat_map (λ j. listed (identity_at m w j)) ks in (
        all_joined (is_identity_of (root_of m relation.target)) ids others one.0 rest.0,
        all_joined names_representable ids others one.1 rest.1,
      )

  one_listed : (k : ℕ) → is_at_most_one (listed (identity_at m w k)) ≡ true
  one_listed k = by_test (is_whole (object w k).key)
    where
      by_test : (b : Bool) → is_at_most_one (listed (if b then Some (name_of m (object w k)) else None)) ≡ true
      by_test true = refl
      by_test false = refl

  one_rising : (k : ℕ) → is_rising (listed (identity_at m w k)) ≡ true
  one_rising k = by_test (is_whole (object w k).key)
    where
      by_test : (b : Bool) → is_rising (listed (if b then Some (name_of m (object w k)) else None)) ≡ true
      by_test true = refl
      by_test false = refl

  -- what it holds, or these where it was not read
  now_fits : (h : Held) (kept : List Identity) → AreMembers m relation.target kept → held_fits m w.objects relation h ≡ true → held_representable h ≡ true →
      IsNow m relation (owned_or kept (held_now m w h))
  now_fits (Held.One Link.None) kept known fit rep = record { members = no_members m relation.target; one = λ e. refl }
  now_fits (Held.One (Link.Object k)) kept known fit rep =
      let a = and_parts (is_to_one relation.side) (leads_to m w.objects relation.target k) fit in
      let one = listed_fit k a.1 in
      record { members = record { of = one.0; named = one.1; rising = one_rising k }; one = λ e. one_listed k }
  now_fits (Held.One (Link.Key id)) kept known fit rep =
      let a = and_parts (is_to_one relation.side) (is_identity_of (root_of m relation.target) id) fit in
      record { members = record { of = and_from _ true a.1 refl; named = and_from (names_representable id) true rep refl; rising = refl }; one = λ e. refl }
  now_fits (Held.Many (Collection.Fetched ks)) kept known fit rep =
      let a = and_parts (not (is_to_one relation.side)) (list_all (leads_to m w.objects relation.target) ks) fit in
      let all = all_listed ks a.1 in
      let ids = flat_map (λ k. listed (identity_at m w k)) ks in
      record {
        members = record { of = rising_holds (is_identity_of (root_of m relation.target)) ids all.0; named = rising_holds names_representable ids all.1; rising = rising_rises ids };
        one = λ e. absurd (many (is_to_one relation.side) a.0 e);
      }
  now_fits (Held.Many Collection.Unfetched) kept known fit rep =
      record { members = known; one = λ e. absurd (many (is_to_one relation.side) (and_parts (not (is_to_one relation.side)) true fit).0 e) }

-- ---- what is written of an object's relations

owns_now : (side : Side) (ids : List Identity) → (is_to_one side ≡ true → is_at_most_one ids ≡ true) → is_rising ids ≡ true → owns_as side (if is_owner side then ids else []) ≡ true
owns_now (Side.ManyToOne c) ids one rise = one refl
owns_now (Side.OneToOne c) ids one rise = one refl
owns_now (Side.OneToOneInverse owner) ids one rise = refl
owns_now (Side.OneToMany owner) ids one rise = refl
owns_now (Side.ManyToMany table) ids one rise = rise
owns_now (Side.ManyToManyInverse owner) ids one rise = refl

where_owner : (p : Identity → Bool) (b : Bool) (ids : List Identity) → list_all p ids ≡ true → list_all p (if b then ids else []) ≡ true
where_owner p true ids h = h
where_owner p false ids h = refl

module _ {world : World} (orderly : IsOrderly world.model) (w : Work) (stands : IsStanding world w) (n : ℕ) (within : n < length w.objects) where
  now : (r : ℕ) (relation : Relation) → slice_get (relations_of world.model (object w n).class) r ≡ Some relation →
      IsNow world.model relation (owned_or (members_now world.model w n r) (held_now world.model w (held_at (object w n) r)))
  now r relation at =
      let x = object w n in
      let live = stands.objects n no_object within in
      now_fits world.model orderly w stands.objects x.class r relation at (held_at x r) (members_now world.model w n r) (members_now_fit orderly w stands.view n r relation at)
      (fits_at (held_fits world.model w.objects) (Held.One Link.None) (relations_of world.model x.class) x.relations r relation live.relations at)
      (holds_at held_representable (Held.One Link.None) refl x.relations r live.links_representable)

  pub owned_fit : each_fits (owns_well world.model) (relations_of world.model (object w n).class) (map (owned_along world.model w n) (enumerate_from 0 (relations_of world.model (object w n).class))) ≡ true
  owned_fit =
      fits_enumerated (owns_well world.model) (owned_along world.model w n) (relations_of world.model (object w n).class) (λ r relation at.
      let ids = owned_or (members_now world.model w n r) (held_now world.model w (held_at (object w n) r)) in
      let h = now r relation at in
      and_from (owns_as relation.side (if is_owner relation.side then ids else [])) _ (owns_now relation.side ids h.one (h.members).rising)
      (where_owner (is_identity_of (root_of world.model relation.target)) (is_owner relation.side) ids (h.members).of))

  pub owned_representable : list_all (list_all names_representable) (map (owned_along world.model w n) (enumerate_from 0 (relations_of world.model (object w n).class))) ≡ true
  owned_representable =
      all_enumerated (list_all names_representable) (owned_along world.model w n) (relations_of world.model (object w n).class) (λ r relation at.
      let ids = owned_or (members_now world.model w n r) (held_now world.model w (held_at (object w n) r)) in
      where_owner names_representable (is_owner relation.side) ids ((now r relation at).members).named)

-- ---- what a base remembers

known_now : (m : PersistenceUnit) (w : Work) (relation : Relation) (h : Held) → held_fits m w.objects relation h ≡ true → known_fits relation (held_now m w h) ≡ true
known_now m w relation (Held.One Link.None) fit = refl
known_now m w relation (Held.One (Link.Object k)) fit = by_test (is_whole (object w k).key)
  where
    by_test : (b : Bool) → is_rising (listed (if b then Some (name_of m (object w k)) else None)) ≡ true
    by_test true = refl
    by_test false = refl
known_now m w relation (Held.One (Link.Key id)) fit = refl
known_now m w relation (Held.Many (Collection.Fetched ks)) fit = rising_rises (flat_map (λ k. listed (identity_at m w k)) ks)
known_now m w relation (Held.Many Collection.Unfetched) fit = (and_parts (not (is_to_one relation.side)) true fit).0

all_known : (m : PersistenceUnit) (w : Work) (rs : List Relation) (hs : List Held) → each_fits (held_fits m w.objects) rs hs ≡ true → each_fits known_fits rs (map (held_now m w) hs) ≡ true
all_known m w [] [] h = refl
all_known m w [] (x ∷ xs) h = absurd (false≢true h)
all_known m w (r ∷ rs) [] h = absurd (false≢true h)
all_known m w (r ∷ rs) (x ∷ xs) h =
    let a = and_parts (held_fits m w.objects r x) (each_fits (held_fits m w.objects) rs xs) h in
    and_from (known_fits r (held_now m w x)) (each_fits known_fits rs (map (held_now m w) xs)) (known_now m w r x a.0) (all_known m w rs xs a.1)

pub remembered_known : (m : PersistenceUnit) (w : Work) (n : ℕ) → IsLive m w.objects (object w n) → each_fits known_fits (relations_of m (object w n).class) (members_held m w n) ≡ true
remembered_known m w n live = all_known m w (relations_of m (object w n).class) (object w n).relations live.relations

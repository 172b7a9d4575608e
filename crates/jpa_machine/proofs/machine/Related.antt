-- What a stored object holds in its relations, and what an object that is loaded from it holds: identities of the target's
-- root, of the program's values, rising where they are many.
use Rattle.std.proofs.Common.{◌≡◌, ℕ, zero, suc, ◌+◌, Bool, true, false, T, List, [], ◌∷◌, length, map, refl, ap, sym, subst, arith}
use Rattle.std.specs.Prelude.{if◌then◌else◌, ◌&&◌, not, Option, Some, None, is_some, slice_get, slice_index_or, nat_lt}
use Rattle.std.specs.List.{list_all, filter, enumerate_from, list_any}
use Rattle.std.specs.Ordering.{is_lt}
use Rattle.std.specs.FinMap.Entries.{is_sorted, below_all}
use Rattle.std.specs.Option.{unwrap_or}
use Rattle.std.proofs.lemmas.Option.{get_or_from_slice_get}
use Rattle.std.proofs.lemmas.Bool.{and_parts, and_from, false≢true}
use Rattle.jpa_value.specs.declared.value.Identity.{Identity}
use Rattle.jpa_value.specs.Value.{identity_cmp, is_representable, same_identity}
use Rattle.jpa_model.specs.declared.unit.PersistenceUnit.{PersistenceUnit}
use Rattle.jpa_model.specs.declared.unit.Relation.{Relation}
use Rattle.jpa_model.specs.declared.unit.Side.{Side}
use Rattle.jpa_model.specs.declared.unit.Root.{Root}
use Rattle.jpa_model.specs.Chains.{relations_of, root_of, is_kind_of, is_to_one, owner_of, no_relation}
use Rattle.jpa_behaviour.specs.Behaviour.{World}
use Rattle.jpa_stored.specs.declared.objects.stored.Stored.{Stored}
use Rattle.jpa_stored.specs.objects.Sets.{StoredSet, each_fits, owned_at, leading_to, members, members_by, is_identity_of, is_shaped, owns_as, owns_well, is_rising, is_below, is_at_most_one, is_empty}
use Rattle.jpa_rows.specs.rows.Cells.{CanBeHeld, names_representable, holds_representable, version_representable}
use Rattle.jpa_work.specs.declared.heap.LiveObject.{LiveObject}
use Rattle.jpa_operations.specs.fetch.Load.{unread, unread_link, known, held_loaded, base_loaded}
use Rattle.jpa_machine.specs.machine.Consistent.{held_fits, link_fits, held_representable, known_fits}
use Rattle.jpa_operations.specs.fetch.Orderly.{IsOrderly}

-- ---- lists

none_there : {A : Type 0} (i : ℕ) (x : A) → slice_get [] i ≡ Some x → ⊥
none_there i x e = absurd (false≢true (ap is_some e))

module _ {A B : Type 0} (f : A → B → Bool) (g : ℕ × A → B) where
  -- what is made of each with its place fits it
  fits_from : (k : ℕ) (xs : List A) → ((i : ℕ) (x : A) → slice_get xs i ≡ Some x → f x (g (k + i, x)) ≡ true) → each_fits f xs (map g (enumerate_from k xs)) ≡ true
  fits_from k [] h = refl
  fits_from k (x ∷ xs) h =
      and_from (f x (g (k, x))) (each_fits f xs (map g (enumerate_from (k + 1) xs)))
      (subst (λ n. f x (g (n, x)) ≡ true) (none_more k) (h 0 x refl))
      (fits_from (k + 1) xs (λ i y e. subst (λ n. f y (g (n, y)) ≡ true) (one_more k i) (h (suc i) y e)))
    where
      none_more : (k : ℕ) → k + 0 ≡ k
      none_more k = omega arith

      one_more : (k i : ℕ) → k + suc i ≡ (k + 1) + i
      one_more k i = omega arith

  pub fits_enumerated : (xs : List A) → ((i : ℕ) (x : A) → slice_get xs i ≡ Some x → f x (g (i, x)) ≡ true) → each_fits f xs (map g (enumerate_from 0 xs)) ≡ true
  fits_enumerated xs h = fits_from 0 xs (λ i x e. subst (λ n. f x (g (n, x)) ≡ true) (none_before i) (h i x e))
    where
      none_before : (i : ℕ) → i ≡ 0 + i
      none_before i = omega arith

-- what is made of each with its place
module _ {A B : Type 0} (p : B → Bool) (g : ℕ × A → B) where
  all_from : (k : ℕ) (xs : List A) → ((i : ℕ) (x : A) → slice_get xs i ≡ Some x → p (g (k + i, x)) ≡ true) → list_all p (map g (enumerate_from k xs)) ≡ true
  all_from k [] h = refl
  all_from k (x ∷ xs) h =
      and_from (p (g (k, x))) (list_all p (map g (enumerate_from (k + 1) xs)))
      (subst (λ n. p (g (n, x)) ≡ true) (none_more k) (h 0 x refl))
      (all_from (k + 1) xs (λ i y e. subst (λ n. p (g (n, y)) ≡ true) (one_more k i) (h (suc i) y e)))
    where
      none_more : (k : ℕ) → k + 0 ≡ k
      none_more k = omega arith

      one_more : (k i : ℕ) → k + suc i ≡ (k + 1) + i
      one_more k i = omega arith

  pub all_enumerated : (xs : List A) → ((i : ℕ) (x : A) → slice_get xs i ≡ Some x → p (g (i, x)) ≡ true) → list_all p (map g (enumerate_from 0 xs)) ≡ true
  all_enumerated xs h = all_from 0 xs (λ i x e. subst (λ n. p (g (n, x)) ≡ true) (none_before i) (h i x e))
    where
      none_before : (i : ℕ) → i ≡ 0 + i
      none_before i = omega arith

pub fits_at : {A B : Type 0} (f : A → B → Bool) (d : B) (xs : List A) (ys : List B) (i : ℕ) (x : A) → each_fits f xs ys ≡ true → slice_get xs i ≡ Some x → f x (slice_index_or ys i d) ≡ true
fits_at f d [] [] i x h e = absurd (none_there i x e)
fits_at f d [] (y ∷ ys) i x h e = absurd (false≢true h)
fits_at f d (x' ∷ xs) [] i x h e = absurd (false≢true h)
fits_at f d (x' ∷ xs) (y ∷ ys) zero x h e = subst (λ z. f z y ≡ true) (ap (λ o. unwrap_or o x) e) (and_parts (f x' y) (each_fits f xs ys) h).0
fits_at f d (x' ∷ xs) (y ∷ ys) (suc i) x h e = fits_at f d xs ys i x (and_parts (f x' y) (each_fits f xs ys) h).1 e

-- what all have one has, and so has what stands past the end
pub holds_at : {A : Type 0} (p : A → Bool) (d : A) → p d ≡ true → (xs : List A) (i : ℕ) → list_all p xs ≡ true → p (slice_index_or xs i d) ≡ true
holds_at p d k [] i h = k
holds_at p d k (x ∷ xs) zero h = (and_parts (p x) (list_all p xs) h).0
holds_at p d k (x ∷ xs) (suc i) h = holds_at p d k xs i (and_parts (p x) (list_all p xs) h).1

-- ---- the identities of those of a set that pass a test

abbrev Found : Type 0
Found = Identity × Stored

holds_true : (b : Bool) → T b → b ≡ true
holds_true true h = refl
holds_true false h = absurd h

first_holds : (a b : Bool) → T (a && b) → T a
first_holds true b h = tt
first_holds false b h = absurd h

second_holds : (a b : Bool) → T (a && b) → T b
second_holds true b h = h
second_holds false b h = absurd h

module _ (t : Found → Bool) where
  abbrev names : StoredSet → List Identity
  names s = map (λ (e : Found). e.0) (filter t s)

  names_have : (q : Found → Bool) (p : Identity → Bool) → ((e : Found) → q e ≡ true → t e ≡ true → p e.0 ≡ true) → (s : StoredSet) → list_all q s ≡ true → list_all p (names s) ≡ true
  names_have q p k [] h = refl
  names_have q p k (e ∷ es) h = let a = and_parts (q e) (list_all q es) h in by_test (t e) refl a.0 (names_have q p k es a.1)
    where
      by_test : (b : Bool) → t e ≡ b → q e ≡ true → list_all p (names es) ≡ true → list_all p (map (λ (d : Found). d.0) (if b then e ∷ filter t es else filter t es)) ≡ true
      by_test true g h rest = and_from (p e.0) (list_all p (names es)) (k e h g) rest
      by_test false g h rest = rest

  below_names : (id : Identity) (s : StoredSet) → T (below_all identity_cmp id s) → is_below id (names s) ≡ true
  below_names id [] low = refl
  below_names id (e ∷ es) low = by_test (t e) (below_names id es (second_holds (is_lt (identity_cmp id e.0)) _ low))
    where
      by_test : (b : Bool) → is_below id (names es) ≡ true → is_below id (map (λ (d : Found). d.0) (if b then e ∷ filter t es else filter t es)) ≡ true
      by_test true rest = holds_true (is_lt (identity_cmp id e.0)) (first_holds (is_lt (identity_cmp id e.0)) _ low)
      by_test false rest = rest

  names_rise : (s : StoredSet) → T (is_sorted identity_cmp s) → is_rising (names s) ≡ true
  names_rise [] rise = refl
  names_rise (e ∷ es) rise = by_test (t e) (names_rise es (second_holds (below_all identity_cmp e.0 es) _ rise))
    where
      by_test : (b : Bool) → is_rising (names es) ≡ true → is_rising (map (λ (d : Found). d.0) (if b then e ∷ filter t es else filter t es)) ≡ true
      by_test true rest = and_from (is_below e.0 (names es)) (is_rising (names es)) (below_names e.0 es (first_holds (below_all identity_cmp e.0 es) _ rise)) rest
      by_test false rest = rest

-- ---- the members of a relation

pub one_rises : (ids : List Identity) → is_at_most_one ids ≡ true → is_rising ids ≡ true
one_rises [] h = refl
one_rises (x ∷ []) h = refl
one_rises (x ∷ y ∷ ys) h = absurd (false≢true h)

none_rises : (ids : List Identity) → is_empty ids ≡ true → is_rising ids ≡ true
none_rises [] h = refl
none_rises (x ∷ xs) h = absurd (false≢true h)

-- what a relation owns rises
pub owned_rises : (side : Side) (ids : List Identity) → owns_as side ids ≡ true → is_rising ids ≡ true
owned_rises (Side.ManyToOne c) ids h = one_rises ids h
owned_rises (Side.OneToOne c) ids h = one_rises ids h
owned_rises (Side.OneToOneInverse owner) ids h = none_rises ids h
owned_rises (Side.OneToMany owner) ids h = none_rises ids h
owned_rises (Side.ManyToMany table) ids h = h
owned_rises (Side.ManyToManyInverse owner) ids h = none_rises ids h

-- what is known of the identities in a relation that leads to a class
pub record AreMembers (m : PersistenceUnit) (target : ℕ) (ids : List Identity) : Type 0 where
  pub of : list_all (is_identity_of (root_of m target)) ids ≡ true
  pub named : list_all names_representable ids ≡ true
  pub rising : is_rising ids ≡ true

pub no_members : (m : PersistenceUnit) (target : ℕ) → AreMembers m target []
no_members m target = record { of = refl; named = refl; rising = refl }

module _ {world : World} (orderly : IsOrderly world.model) {s : StoredSet} {ns : List ℕ} (held : CanBeHeld world s ns) where
  leading_members : (class r : ℕ) (relation : Relation) → slice_get (relations_of world.model class) r ≡ Some relation → (owner : ℕ) (id : Identity) →
      AreMembers world.model relation.target (leading_to world.model s relation.target owner id)
  leading_members class r relation at owner id =
      let m = world.model in
      let leads : Found → Bool = λ (e : Found). is_kind_of m (e.1).class relation.target && list_any (same_identity id) (owned_at e.1 owner) in
      record {
        of = names_have leads (λ (e : Found). is_shaped m e.0 e.1) (is_identity_of (root_of m relation.target))
            (λ e shaped t.
            let c = and_parts (nat_lt (e.1).class (length m.entities)) _ shaped in
            let i = and_parts (is_identity_of (root_of m (e.1).class) e.0) _ c.1 in
            subst (λ (root : Root). is_identity_of root e.0 ≡ true) (orderly.kinds class r relation at (e.1).class c.0 (and_parts (is_kind_of m (e.1).class relation.target) _ t).0) i.0)
            s held.shaped;
        named = names_have leads (λ (e : Found). names_representable e.0 && holds_representable e.1) names_representable
            (λ e rep t. (and_parts (names_representable e.0) (holds_representable e.1) rep).0) s held.representable;
        rising = names_rise leads s held.rising;
      }

  -- an object of this shape, whose values are the program's
  module _ (x : Stored) (owns : each_fits (owns_well world.model) (relations_of world.model x.class) x.owned ≡ true) (rep : holds_representable x ≡ true) where
    owned_members : (r : ℕ) (relation : Relation) → slice_get (relations_of world.model x.class) r ≡ Some relation → AreMembers world.model relation.target (owned_at x r)
    owned_members r relation at =
        let m = world.model in
        let own = fits_at (owns_well m) [] (relations_of m x.class) x.owned r relation owns at in
        let a = and_parts (owns_as relation.side (owned_at x r)) _ own in
        let b = and_parts (version_representable x.version) _ rep in
        let c = and_parts (list_all is_representable x.values) _ b.1 in
        record { of = a.1; named = holds_at (list_all names_representable) [] refl x.owned r c.1; rising = owned_rises relation.side (owned_at x r) a.0 }

    pub members_fit : (id : Identity) (r : ℕ) (relation : Relation) → slice_get (relations_of world.model x.class) r ≡ Some relation → AreMembers world.model relation.target (members world.model s id x r)
    members_fit id r relation at =
        subst (λ (q : Relation). AreMembers world.model relation.target (members_by world.model s id x r q.target (owner_of q.side)))
        (sym (get_or_from_slice_get (relations_of world.model x.class) r relation no_relation at)) (by_owner (owner_of relation.side))
      where
        by_owner : (o : Option ℕ) → AreMembers world.model relation.target (members_by world.model s id x r relation.target o)
        by_owner None = owned_members r relation at
        by_owner (Some owner) = leading_members x.class r relation at owner id

    -- ---- an object that is loaded

    pub loaded_fits : (os : List LiveObject) (id : Identity) → each_fits (held_fits world.model os) (relations_of world.model x.class) (held_loaded world.model s id x) ≡ true
    loaded_fits os id =
        fits_enumerated (held_fits world.model os) _ (relations_of world.model x.class)
        (λ r relation at. by_side relation (members world.model s id x r) (is_to_one relation.side) refl (members_fit id r relation at))
      where
        link_of : (target : ℕ) (ids : List Identity) → list_all (is_identity_of (root_of world.model target)) ids ≡ true → link_fits world.model os target (unread_link ids) ≡ true
        link_of target [] h = refl
        link_of target (i ∷ is) h = (and_parts (is_identity_of (root_of world.model target) i) (list_all (is_identity_of (root_of world.model target)) is) h).0

        by_side : (relation : Relation) (ids : List Identity) (b : Bool) → is_to_one relation.side ≡ b → AreMembers world.model relation.target ids → held_fits world.model os relation (unread b ids) ≡ true
        by_side relation ids true e h = and_from (is_to_one relation.side) _ e (link_of relation.target ids h.of)
        by_side relation ids false e h = and_from (not (is_to_one relation.side)) true (ap not e) refl

    pub loaded_representable : (id : Identity) → list_all held_representable (held_loaded world.model s id x) ≡ true
    loaded_representable id =
        all_enumerated held_representable _ (relations_of world.model x.class)
        (λ r relation at. by_side relation (members world.model s id x r) (is_to_one relation.side) (members_fit id r relation at).named)
      where
        by_side : (relation : Relation) (ids : List Identity) (b : Bool) → list_all names_representable ids ≡ true → held_representable (unread b ids) ≡ true
        by_side relation [] true h = refl
        by_side relation (i ∷ is) true h = (and_parts (names_representable i) (list_all names_representable is) h).0
        by_side relation ids false h = refl

    pub loaded_known : (id : Identity) → each_fits known_fits (relations_of world.model x.class) (base_loaded world.model s id x).members ≡ true
    loaded_known id =
        fits_enumerated known_fits _ (relations_of world.model x.class)
        (λ r relation at. by_side relation (members world.model s id x r) (is_to_one relation.side) refl (members_fit id r relation at).rising)
      where
        by_side : (relation : Relation) (ids : List Identity) (b : Bool) → is_to_one relation.side ≡ b → is_rising ids ≡ true → known_fits relation (known b ids) ≡ true
        by_side relation ids true e h = h
        by_side relation ids false e h = ap not e

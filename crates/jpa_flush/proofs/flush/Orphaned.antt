-- Orphans: what a relation holds now stands in rising order, so that a search finds what is among it, and entries of the front
-- are gone through place by place.
use Rattle.std.proofs.Common.{◌≡◌, ◌<◌, ◌≤◌, ◌+◌, ℕ, zero, suc, true, false, List, [], ◌∷◌, length, refl, ap, sym, subst, ◌∙◌, arith, get_or, drop, Option, Some, None, Result, Ok, Err, Bor, inl, inr}
use Rattle.std.specs.Prelude.{is_ok, is_some, slice_get}
use Rattle.std.specs.declared.cmp.Ordering.{Ordering}
use Rattle.std.specs.declared.cmp.Ordering.TheVariants.{Less, Equal, Greater}
use Rattle.std.specs.Ordering.{is_eq, is_lt, ordering_index, ordering_reverse}
use Rattle.std.specs.Option.{option_copied}
use Rattle.std.specs.Slice.{IsItemAt}
use Rattle.std.specs.List.{list_any, flat_map}
use Rattle.std.specs.List.Sorted.{IsSearchInRange, IsBinarySearchResult, IsNonDecreasingBy}
use Rattle.std.specs.FinMap.Entries.{by_order}
use Rattle.std.proofs.lemmas.Bool.{and_parts, and_from, cases_lt, false≢true}
use Rattle.std.proofs.lemmas.List.{at_drop_more}
use Rattle.std.proofs.lemmas.List.Folds.{list_any_at, list_any_none}
use Rattle.std.proofs.lemmas.Option.{slice_get-get_or, slice_get_past}
use Rattle.jpa_value.specs.declared.value.Identity.{Identity}
use Rattle.jpa_value.specs.declared.refusal.Cause.{Cause}
use Rattle.jpa_value.specs.Value.{identity_cmp, same_identity}
use Rattle.jpa_value.proofs.Orders.{identity_total}
use Rattle.jpa_protocol.specs.declared.event.Told.{Told}
use Rattle.jpa_model.specs.declared.unit.PersistenceUnit.{PersistenceUnit}
use Rattle.jpa_behaviour.specs.Behaviour.{World}
use Rattle.jpa_stored.specs.declared.objects.stored.Stored.{Stored}
use Rattle.jpa_stored.specs.objects.Sets.{is_below, is_rising}
use Rattle.jpa_stored.proofs.objects.Entries.{no_higher}
use Rattle.jpa_work.specs.declared.heap.Link.{Link}
use Rattle.jpa_work.specs.declared.heap.Collection.{Collection}
use Rattle.jpa_work.specs.declared.heap.Held.{Held}
use Rattle.jpa_work.specs.declared.context.Entry.{Entry}
use Rattle.jpa_work.specs.declared.context.EntityState.{EntityState}
use Rattle.jpa_work.specs.context.Steps.{Op, Done, after, each, IsRefusedAs, Meets}
use Rattle.jpa_work.specs.context.Work.{Work, identity_at, instance, row, state_of}
use Rattle.jpa_operations.specs.fetch.Load.{load}
use Rattle.jpa_operations.specs.ops.States.{remove}
use Rattle.jpa_operations.proofs.ops.Front.{IsOnward, front_object, instance_within, loaded_goes, remove_onward}
use Rattle.jpa_operations.proofs.ops.Going.{HoldsAfter, after_holds}
use Rattle.jpa_flush.proofs.flush.Rounds.{refused_after}
use Rattle.jpa_flush.specs.flush.Flush.{held_now, into_rising, listed, orphans_of, remove_instance, remove_orphan, remove_orphan_in, remove_orphans_of, rising}

-- an entry that is lent is the one at its place
pub lent : (es : List Entry) (i : ℕ) (r : Option (Bor Entry)) → IsItemAt es i r → option_copied r ≡ slice_get es i
lent es i None h = sym (slice_get_past es i h.3)
lent es i (Some x) h = sym (slice_get-get_or es i x.now (h.3).0 ∙ ap Some (sym ((h.3).1 x.now)))

-- ---- what a relation holds now stands in rising order

less : (o : Ordering) → is_lt o ≡ true → o ≡ Less
less Less h = refl
less Equal h = absurd (false≢true h)
less Greater h = absurd (false≢true h)

above : (a b : Identity) → identity_cmp a b ≡ Greater → identity_cmp b a ≡ Less
above a b e = identity_total.antisymm b a ∙ ap ordering_reverse e

below_into : (x id : Identity) (xs : List Identity) → identity_cmp x id ≡ Less → is_below x xs ≡ true → is_below x (into_rising id xs) ≡ true
below_into x id [] l h = ap is_lt l
below_into x id (y ∷ ys) l h = by (identity_cmp id y)
  where
    by : (o : Ordering) → is_below x (by_order o (id ∷ y ∷ ys) (y ∷ ys) (y ∷ into_rising id ys)) ≡ true
    by Less = ap is_lt l
    by Equal = h
    by Greater = h

into_rises : (id : Identity) (xs : List Identity) → is_rising xs ≡ true → is_rising (into_rising id xs) ≡ true
into_rises id [] h = refl
into_rises id (x ∷ xs) h = by (identity_cmp id x) refl (into_rises id xs (and_parts (is_below x xs) (is_rising xs) h).1)
  where
    by : (o : Ordering) → identity_cmp id x ≡ o → is_rising (into_rising id xs) ≡ true → is_rising (by_order o (id ∷ x ∷ xs) (x ∷ xs) (x ∷ into_rising id xs)) ≡ true
    by Less e k = and_from (is_lt (identity_cmp id x)) (is_rising (x ∷ xs)) (ap is_lt e) h
    by Equal e k = h
    by Greater e k = and_from (is_below x (into_rising id xs)) (is_rising (into_rising id xs)) (below_into x id xs (above id x e) (and_parts (is_below x xs) (is_rising xs) h).0) k

rising_rises : (ids : List Identity) → is_rising (rising ids) ≡ true
rising_rises [] = refl
rising_rises (id ∷ ids) = into_rises id (rising ids) (rising_rises ids)

listed_rises : (o : Option Identity) → is_rising (listed o) ≡ true
listed_rises None = refl
listed_rises (Some id) = refl

abbrev IfRead : Option (List Identity) → Type 0
IfRead None = Unit {0}
IfRead (Some ids) = is_rising ids ≡ true

held_read : (m : PersistenceUnit) (w : Work) (held : Held) → IfRead (held_now m w held)
held_read m w (Held.One Link.None) = refl
held_read m w (Held.One (Link.Object k)) = listed_rises (identity_at m w k)
held_read m w (Held.One (Link.Key id)) = refl
held_read m w (Held.Many (Collection.Fetched ks)) = rising_rises (flat_map (λ k. listed (identity_at m w k)) ks)
held_read m w (Held.Many Collection.Unfetched) = tt

pub held_rises : (m : PersistenceUnit) (w : Work) (held : Held) (ids : List Identity) → Some ids ≡ held_now m w held → is_rising ids ≡ true
held_rises m w held ids e = subst IfRead (sym e) (held_read m w held)

-- ---- a search in rising order

first_below : (x : Identity) (xs : List Identity) → is_rising (x ∷ xs) ≡ true → (j : ℕ) (d : Identity) → j < length xs → identity_cmp x (get_or xs j d) ≡ Less
first_below x [] h j d l = absurd (omega (arith, l))
first_below x (y ∷ ys) h zero d l = less (identity_cmp x y) (and_parts (is_lt (identity_cmp x y)) (is_rising (y ∷ ys)) h).0
first_below x (y ∷ ys) h (suc j) d l =
    let p = and_parts (is_lt (identity_cmp x y)) (is_rising (y ∷ ys)) h in
    identity_total.trans x y (get_or ys j d) (less (identity_cmp x y) p.0) (first_below y ys p.1 j d (omega (arith, l)))

rises_at : (xs : List Identity) → is_rising xs ≡ true → (i j : ℕ) (d : Identity) → i < j → j < length xs → identity_cmp (get_or xs i d) (get_or xs j d) ≡ Less
rises_at [] h i j d l m = absurd (omega (arith, m))
rises_at (x ∷ xs) h i zero d l m = absurd (omega (arith, l))
rises_at (x ∷ xs) h zero (suc j) d l m = first_below x xs h j d (omega (arith, m))
rises_at (x ∷ xs) h (suc i) (suc j) d l m = rises_at xs (and_parts (is_below x xs) (is_rising xs) h).1 i j d (omega (arith, l)) (omega (arith, m))

same_place : (i j : ℕ) → i ≤ j → j ≤ i → i ≡ j
same_place i j h g = omega arith

falls_nowhere : (xs : List Identity) (id : Identity) → is_rising xs ≡ true → IsNonDecreasingBy (λ x. ordering_index (identity_cmp x id)) xs
falls_nowhere xs id h i j d l m = elim (cases_lt i j) [
  | inl less ↦ no_higher identity_total (get_or xs i d) (get_or xs j d) id _ (rises_at xs h i j d less m) refl
  | inr more ↦ subst (λ n. ordering_index (identity_cmp (get_or xs i d) id) ≤ ordering_index (identity_cmp (get_or xs n d) id)) (same_place i j l more) (omega arith)
]

-- an identity that ties is the same from both sides
tied : (a b : Identity) → identity_cmp a b ≡ Equal → same_identity b a ≡ true
tied a b e = ap is_eq (identity_total.antisymm b a ∙ ap ordering_reverse e)

apart_less : (a b : Identity) → identity_cmp a b ≡ Less → same_identity b a ≡ false
apart_less a b e = ap is_eq (identity_total.antisymm b a ∙ ap ordering_reverse e)

apart_greater : (a b : Identity) → identity_cmp a b ≡ Greater → same_identity b a ≡ false
apart_greater a b e = ap is_eq (identity_total.antisymm b a ∙ ap ordering_reverse e)

pub is_searched : (xs : List Identity) (id : Identity) (r : Result ℕ ℕ) → is_rising xs ≡ true → IsSearchInRange r (length xs) → IsBinarySearchResult (λ x. identity_cmp x id) xs r →
    is_ok r ≡ list_any (same_identity id) xs
is_searched xs id (Ok at) h l found = sym (list_any_at (same_identity id) xs at id l (tied (get_or xs at id) id (found id)))
is_searched xs id (Err at) h l found =
    let parted = found (falls_nowhere xs id h) in
    sym (list_any_none (same_identity id) xs (λ j d k. elim (cases_lt j at) [
      | inl less ↦ apart_less (get_or xs j d) id (parted.0 j d (omega arith) less)
      | inr more ↦ apart_greater (get_or xs j d) id (parted.1 j d more k)
    ]))

-- ---- one orphan after another

module _ (world : World) (u : Work) where
  abbrev Goes : Work → Type 0
  Goes w = IsOnward world.model u w

  instance_goes : (k : ℕ) (s : EntityState) (w : Work) → k < length w.objects → Goes w → HoldsAfter Goes (remove_instance world k s w)
  instance_goes k EntityState.Managed w l h = remove_onward world u k w l h
  instance_goes k EntityState.New w l h = h
  instance_goes k EntityState.Removed w l h = h
  instance_goes k EntityState.Detached w l h = h

  orphan_in_goes : (id : Identity) (o : Option ℕ) (x : Option Stored) (w : Work) → instance world.model w id ≡ o → row w id ≡ x → Goes w → HoldsAfter Goes (remove_orphan_in world id o x w)
  orphan_in_goes id (Some k) x w e r h = instance_goes k (state_of w k) w (instance_within world u id k w h e) h
  orphan_in_goes id None (Some x) w e r h = loaded_goes world u (λ k. remove world k) (λ k v l g. remove_onward world u k v l g) id x w r (ap is_some e) h
  orphan_in_goes id None None w e r h = h

  pub orphan_goes : (id : Identity) (w : Work) → Goes w → HoldsAfter Goes (remove_orphan world id w)
  orphan_goes id w h = orphan_in_goes id (instance world.model w id) (row w id) w refl refl h

  pub orphans_go : (ids : List Identity) (w : Work) → Goes w → HoldsAfter Goes (each (remove_orphan world) ids w)
  orphans_go [] w h = h
  orphans_go (id ∷ ids) w h = after_holds Goes Goes (remove_orphan world id w) (λ _. each (remove_orphan world) ids) (orphan_goes id w h) (λ a v g. orphans_go ids v g)

-- an orphan with a row and no instance is loaded, then removed
pub removes_loaded : (world : World) (id : Identity) (x y : Stored) (n : ℕ) (w v new : Work) (r : Result (Unit {0}) Cause) → instance world.model w id ≡ None → row w id ≡ Some y → x ≡ y → load world id x w ≡ Done n v →
    Meets r new (remove world n v) → Meets r new (remove_orphan world id w)
removes_loaded world id x y n w v new r none stored same done h =
    subst (Meets r new)
    (sym (ap (λ o. remove_orphan_in world id o (row w id) w) none
    ∙ ap (λ s. remove_orphan_in world id None s w) stored
    ∙ ap (λ z. after (load world id z w) (λ k. remove world k)) (sym same)
    ∙ ap (λ o. after o (λ k. remove world k)) done)) h

-- or loading it is refused
pub removes_refused : (world : World) (id : Identity) (x y : Stored) (w new : Work) (r : Cause) → instance world.model w id ≡ None → row w id ≡ Some y → x ≡ y →
    IsRefusedAs r new.events (load world id x w) → IsRefusedAs r new.events (remove_orphan world id w)
removes_refused world id x y w new r none stored same h =
    subst (IsRefusedAs r new.events)
    (sym (ap (λ o. remove_orphan_in world id o (row w id) w) none
    ∙ ap (λ s. remove_orphan_in world id None s w) stored
    ∙ ap (λ z. after (load world id z w) (λ k. remove world k)) (sym same)))
    (refused_after r new.events (load world id x w) (λ k. remove world k) h)

-- ---- one entry after another

-- an object's orphans
abbrev pub removed_of : World → ℕ → Op (Unit {0})
removed_of world n w = each (remove_orphan world) (orphans_of world.model w n (state_of w n)) w

module _ (world : World) (u w : Work) (i : ℕ) (e : Entry) (h : IsOnward world.model u w) (l : i < length u.context) (is : e ≡ get_or w.context i e) where
  turn : each (remove_orphans_of world) (drop i u.context) w ≡ after (removed_of world e.object w) (λ _. each (remove_orphans_of world) (drop (i + 1) u.context))
  turn =
      at_drop_more (λ es. each (remove_orphans_of world) es w) u.context i e l
      ∙ ap (λ n. after (removed_of world n w) (λ _. each (remove_orphans_of world) (drop (i + 1) u.context))) (front_object u w i e h.front l is)

  pub turn_done : (w' : Work) → removed_of world e.object w ≡ Done tt w' → each (remove_orphans_of world) (drop (i + 1) u.context) w' ≡ each (remove_orphans_of world) (drop i u.context) w
  turn_done w' done = sym (turn ∙ ap (λ o. after o (λ _. each (remove_orphans_of world) (drop (i + 1) u.context))) done)

  pub turn_refused : (r : Cause) (events : List Told) → IsRefusedAs r events (removed_of world e.object w) → IsRefusedAs r events (each (remove_orphans_of world) (drop i u.context) w)
  turn_refused r events g =
      subst (IsRefusedAs r events) (sym turn) (refused_after r events (removed_of world e.object w) (λ _. each (remove_orphans_of world) (drop (i + 1) u.context)) g)

-- What is to stand under the identities that a transaction changed is what it sees there: put into the committed set it makes the
-- set that is seen.
use Rattle.std.specs.Prelude.{◌≡◌, Bool, true, false, cond, not, ◌&&◌, ◌||◌, T, List, [], ◌∷◌, Option, Some, None}
use Rattle.std.proofs.Common.{refl, sym, ap, subst, ◌∙◌}
use Rattle.std.specs.List.{list_any, AllByRecursion}
use Rattle.std.specs.FinMap.{is_sorted}
use Rattle.std.specs.Ordering.{is_eq, is_lt}
use Rattle.jpa_value.specs.declared.value.Identity.{Identity}
use Rattle.jpa_value.specs.Value.{identity_cmp, same_identity}
use Rattle.jpa_behaviour.specs.Behaviour.{World}
use Rattle.jpa_stored.specs.declared.objects.stored.Stored.{Stored}
use Rattle.jpa_stored.specs.objects.Sets.{StoredSet, stored_at, all_distinct, is_below, is_rising}
use Rattle.jpa_open.specs.Opened.{Opened, AreAllChanged}
use Rattle.jpa_object_rows.specs.meaning.View.{AreStorable}
use Rattle.jpa_rows.proofs.laws.Facts.{and_first, and_second, is_less}
use Rattle.jpa_rows.proofs.laws.Maps.{same_key, found_put, dropped_rises, found_dropped, put_rises, same_answers}
use Rattle.jpa_object_rows.proofs.meaning.Bytes.Orders.{identities}
use Rattle.jpa_object_rows.proofs.meaning.Bytes.SetLaws.{is_without}
use Rattle.jpa_object_rows.specs.store.Written.{entries_of, is_storable_if_any, with_or_without, set_after}
use Rattle.jpa_object_rows.proofs.store.Replaced.{old_storable}
use Rattle.jpa_object_rows.proofs.store.Written.{Entry, other_left}

-- ---- each can be stored

one_storable : (world : World) (seen : StoredSet) (id : Identity) → AreStorable world seen → (o : Option Stored) → stored_at seen id ≡ o → is_storable_if_any world id o ≡ true
one_storable world seen id h None at = refl
one_storable world seen id h (Some x) at = old_storable world seen id x h at

pub seen_storable : (world : World) (seen : StoredSet) (ids : List Identity) → AreStorable world seen → AllByRecursion (λ (e : Entry). is_storable_if_any world e.0 e.1 ≡ true) (entries_of seen ids)
seen_storable world seen [] h = tt
seen_storable world seen (id ∷ ids) h = (one_storable world seen id h (stored_at seen id) refl, seen_storable world seen ids h)

-- ---- identities that rise are distinct

below_next : (x y : Identity) (ids : List Identity) → is_below x (y ∷ ids) ≡ true → is_below y ids ≡ true → is_below x ids ≡ true
below_next x y [] h g = refl
below_next x y (z ∷ ids) h g =
    ap is_lt (identities.total.trans x y z (is_less (identity_cmp x y) (subst T (sym h) tt)) (is_less (identity_cmp y z) (subst T (sym g) tt)))

none_same : (id : Identity) (ids : List Identity) (set : StoredSet) → is_below id ids ≡ true → is_rising ids ≡ true → list_any (λ (b : Entry). same_identity id b.0) (entries_of set ids) ≡ false
none_same id [] set h g = refl
none_same id (x ∷ ids) set h g =
    (λ i. is_eq (is_less (identity_cmp id x) (subst T (sym h) tt) i) || list_any (λ (b : Entry). same_identity id b.0) (entries_of set ids))
    ∙ none_same id ids set (below_next id x ids h (and_first (is_below x ids) _ g)) (and_second (is_below x ids) _ g)

pub rising_distinct : (ids : List Identity) (set : StoredSet) → is_rising ids ≡ true → all_distinct (λ (a : Entry) (b : Entry). same_identity a.0 b.0) (entries_of set ids) ≡ true
rising_distinct [] set h = refl
rising_distinct (id ∷ ids) set h =
    let later = and_second (is_below id ids) _ h in
    λ i. not (none_same id ids set (and_first (is_below id ids) _ h) later i) && rising_distinct ids set later i

-- ---- the set that comes

with_rises : (id : Identity) (x : Option Stored) (set : StoredSet) → T (is_sorted identity_cmp set) → T (is_sorted identity_cmp (with_or_without id x set))
with_rises id None set h = subst (λ (s : StoredSet). T (is_sorted identity_cmp s)) (is_without id set) (dropped_rises identities id set h)
with_rises id (Some x) set h = put_rises identities id x set h

after_rises : (es : List Entry) (set : StoredSet) → T (is_sorted identity_cmp set) → T (is_sorted identity_cmp (set_after es set))
after_rises [] set h = h
after_rises (e ∷ es) set h = after_rises es (with_or_without e.0 e.1 set) (with_rises e.0 e.1 set h)

own_found : (id : Identity) (x : Option Stored) (set : StoredSet) → stored_at (with_or_without id x set) id ≡ x
own_found id None set = ap (λ s. stored_at s id) (sym (is_without id set)) ∙ found_dropped identities id set
own_found id (Some x) set = found_put identities id x set

module _ (seen : StoredSet) (q : Identity) where
  -- one identity brought to what is seen
  one_found : (id : Identity) (set : StoredSet) (b : Bool) → same_identity q id ≡ b → stored_at (with_or_without id (stored_at seen id) set) q ≡ cond b (stored_at seen q) (stored_at set q)
  one_found id set true same =
      let is = same_key identities q id same in
      ap (stored_at (with_or_without id (stored_at seen id) set)) is ∙ own_found id (stored_at seen id) set ∙ ap (stored_at seen) (sym is)
  one_found id set false apart = other_left q id (stored_at seen id) set apart

  either : (a b : Bool) (x y : Option Stored) → cond b x (cond a x y) ≡ cond (a || b) x y
  either true true x y = refl
  either true false x y = refl
  either false b x y = refl

  found_after : (ids : List Identity) (set : StoredSet) → stored_at (set_after (entries_of seen ids) set) q ≡ cond (list_any (same_identity q) ids) (stored_at seen q) (stored_at set q)
  found_after [] set = refl
  found_after (id ∷ ids) set =
      found_after ids (with_or_without id (stored_at seen id) set)
      ∙ ap (cond (list_any (same_identity q) ids) (stored_at seen q)) (one_found id set (same_identity q id) refl)
      ∙ either (same_identity q id) (list_any (same_identity q) ids) (stored_at seen q) (stored_at set q)

  changed_or_same : (b : Bool) (there : Option Stored) → (b ≡ false → stored_at seen q ≡ there) → cond b (stored_at seen q) there ≡ stored_at seen q
  changed_or_same true there h = refl
  changed_or_same false there h = sym (h refl)

pub after_is_seen : (view : Opened) (ids : List Identity) → T (is_sorted identity_cmp view.committed) → T (is_sorted identity_cmp view.seen) → AreAllChanged view ids
    → set_after (entries_of view.seen ids) view.committed ≡ view.seen
after_is_seen view ids h g all =
    same_answers identities (set_after (entries_of view.seen ids) view.committed) view.seen (after_rises (entries_of view.seen ids) view.committed h) g
    (λ q. found_after view.seen q ids view.committed ∙ changed_or_same view.seen q (list_any (same_identity q) ids) (stored_at view.committed q) (all q))

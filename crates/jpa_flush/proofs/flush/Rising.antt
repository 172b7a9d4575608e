-- Identities in rising order: where one stands or would stand, and how those that are put in come to those of the definition.
use Rattle.std.specs.Prelude.{◌≡◌, ◌<◌, ◌≤◌, ℕ, zero, suc, Bool, true, false, ◌&&◌, ◌||◌, T, List, [], ◌∷◌, map, length, is_some, slice_set, Option, Some, None, Result, Ok, Err, IfOk, IfErr}
use Rattle.std.proofs.Common.{refl, sym, ap, subst, ◌∙◌, get_or, drop, arith, inl, inr}
use Rattle.std.specs.declared.cmp.Ordering.{Ordering}
use Rattle.std.specs.declared.cmp.Ordering.TheVariants.{Less, Equal, Greater}
use Rattle.std.specs.Ordering.{is_lt, ordering_index}
use Rattle.std.specs.List.{list_any, flat_map, insert}
use Rattle.std.specs.List.Sorted.{IsSearchInRange, IsBinarySearchResult, IsNonDecreasingBy}
use Rattle.std.specs.FinMap.Entries.{by_order, put, find, below_all, is_sorted, is_sorted-put, same_entries}
use Rattle.std.proofs.lemmas.Bool.{cases_lt, and_parts}
use Rattle.std.proofs.lemmas.List.{set-get_or, at_drop_all}
use Rattle.jpa_value.specs.declared.value.Identity.{Identity}
use Rattle.jpa_value.specs.Value.{identity_cmp, same_identity}
use Rattle.jpa_value.proofs.Orders.{identity_total, identity_exact}
use Rattle.jpa_stored.specs.objects.Places.{IsAt, IsGap}
use Rattle.jpa_stored.specs.objects.Sets.{is_rising}
use Rattle.jpa_stored.proofs.objects.Entries.{put_at, put_gap, less, rising_at, no_higher}
use Rattle.jpa_open.proofs.Gathered.{has, put_one, listed_rises}
use Rattle.jpa_flush.specs.flush.Flush.{into_rising, rising}

-- ---- as entries that have nothing but their keys

abbrev names : List (Identity × Unit {0}) → List Identity
names es = map (λ (e : Identity × Unit {0}). e.0) es

abbrev tags : List Identity → List (Identity × Unit {0})
tags ids = map (λ (id : Identity). (id, tt)) ids

named_tags : (ids : List Identity) → names (tags ids) ≡ ids
named_tags [] = refl
named_tags (id ∷ ids) = ap (λ xs. id ∷ xs) (named_tags ids)

tag_at : (ids : List Identity) (i : ℕ) (d : Identity × Unit {0}) → get_or (tags ids) i d ≡ (get_or ids i d.0, tt)
tag_at [] i d = refl
tag_at (id ∷ ids) zero d = refl
tag_at (id ∷ ids) (suc i) d = tag_at ids i d

tag_count : (ids : List Identity) → length (tags ids) ≡ length ids
tag_count [] = refl
tag_count (id ∷ ids) = ap suc (tag_count ids)

named_insert : (ids : List Identity) (i : ℕ) (id : Identity) → names (insert (tags ids) i (id, tt)) ≡ insert ids i id
named_insert [] zero id = refl
named_insert [] (suc i) id = refl
named_insert (x ∷ xs) zero id = ap (λ ids. id ∷ x ∷ ids) (named_tags xs)
named_insert (x ∷ xs) (suc i) id = ap (λ ids. x ∷ ids) (named_insert xs i id)

-- ---- in order

t_from : (b : Bool) → b ≡ true → T b
t_from true e = tt
t_from false e = absurd cc

t_to : (b : Bool) → T b → b ≡ true
t_to true h = refl
t_to false h = absurd h

t_both : (a b : Bool) → T a → T b → T (a && b)
t_both true b h g = g
t_both false b h g = absurd h

below_too : (x y : Identity) (es : List (Identity × Unit {0})) → identity_cmp x y ≡ Less → T (below_all identity_cmp y es) → T (below_all identity_cmp x es)
below_too x y [] l h = tt
below_too x y (e ∷ es) l h =
    let p = and_parts (is_lt (identity_cmp y e.0)) (below_all identity_cmp y es) (t_to (is_lt (identity_cmp y e.0) && below_all identity_cmp y es) h) in
    t_both (is_lt (identity_cmp x e.0)) (below_all identity_cmp x es)
    (subst (λ r. T (is_lt r)) (sym (identity_total.trans x y e.0 l (less (identity_cmp y e.0) (t_from (is_lt (identity_cmp y e.0)) p.0)))) tt)
    (below_too x y es l (t_from (below_all identity_cmp y es) p.1))

sorted_tags : (ids : List Identity) → is_rising ids ≡ true → T (is_sorted identity_cmp (tags ids))
sorted_tags [] h = tt
sorted_tags (x ∷ []) h = tt
sorted_tags (x ∷ y ∷ ys) h =
    let p = and_parts (is_lt (identity_cmp x y)) (is_rising (y ∷ ys)) h in
    let rest = sorted_tags (y ∷ ys) p.1 in
    let q = and_parts (below_all identity_cmp y (tags ys)) (is_sorted identity_cmp (tags ys)) (t_to (below_all identity_cmp y (tags ys) && is_sorted identity_cmp (tags ys)) rest) in
    t_both (is_lt (identity_cmp x y) && below_all identity_cmp x (tags ys)) (is_sorted identity_cmp (tags (y ∷ ys)))
    (t_both (is_lt (identity_cmp x y)) (below_all identity_cmp x (tags ys)) (t_from (is_lt (identity_cmp x y)) p.0)
    (below_too x y (tags ys) (less (identity_cmp x y) (t_from (is_lt (identity_cmp x y)) p.0)) (t_from (below_all identity_cmp y (tags ys)) q.0)))
    rest

put_rises : (id : Identity) (es : List (Identity × Unit {0})) → names (put identity_cmp id tt es) ≡ into_rising id (names es)
put_rises id [] = refl
put_rises id (e ∷ es) = by (identity_cmp id e.0) (put_rises id es)
  where
    by : (r : Ordering) → names (put identity_cmp id tt es) ≡ into_rising id (names es) →
        names (by_order r ((id, tt) ∷ e ∷ es) ((e.0, tt) ∷ es) (e ∷ put identity_cmp id tt es)) ≡ by_order r (id ∷ e.0 ∷ names es) (e.0 ∷ names es) (e.0 ∷ into_rising id (names es))
    by Less h = refl
    by Equal h = refl
    by Greater h = ap (λ ids. e.0 ∷ ids) h

put_tags : (id : Identity) (ids : List Identity) → names (put identity_cmp id tt (tags ids)) ≡ into_rising id ids
put_tags id ids = put_rises id (tags ids) ∙ ap (into_rising id) (named_tags ids)

-- one more keeps the order
pub rises_still : (id : Identity) (ids : List Identity) → is_rising ids ≡ true → is_rising (into_rising id ids) ≡ true
rises_still id ids h =
    ap is_rising (sym (put_tags id ids)) ∙ listed_rises (put identity_cmp id tt (tags ids)) (is_sorted-put identity_cmp identity_total id tt (tags ids) (sorted_tags ids h))

-- ---- where one stands, or would stand

module _ (ids : List Identity) (id : Identity) (rising_now : is_rising ids ≡ true) where
  sorted : T (is_sorted identity_cmp (tags ids))
  sorted = sorted_tags ids rising_now

  there : (i : ℕ) → IsAt identity_cmp (tags ids) id i → into_rising id ids ≡ ids
  there i at' =
      let d : Identity × Unit {0} = (id, tt) in
      let kept : put identity_cmp id tt (tags ids) ≡ tags ids =
      put_at identity_total identity_exact (tags ids) id tt i sorted at'
      ∙ ap (λ k. slice_set (tags ids) i (k, tt)) (sym (identity_exact (get_or (tags ids) i d).0 id (at'.tied d)))
      ∙ set-get_or (tags ids) i d in
      sym (put_tags id ids) ∙ ap (λ es. names es) kept ∙ named_tags ids

  rises : IsNonDecreasingBy (λ x. ordering_index (identity_cmp x id)) ids
  rises i j d h l = elim (cases_lt i j) [
    | inl before ↦ no_higher identity_total (get_or ids i d) (get_or ids j d) id _
        ((λ k. identity_cmp (sym (tag_at ids i (d, tt)) k).0 (sym (tag_at ids j (d, tt)) k).0) ∙ rising_at identity_total (tags ids) i j (d, tt) sorted before (subst (λ n. j < n) (sym (tag_count ids)) l)) refl
    | inr after ↦ subst (λ n. ordering_index (identity_cmp (get_or ids i d) id) ≤ ordering_index (identity_cmp (get_or ids n d) id)) (same_place i j h after) (omega arith)
  ]
    where
      same_place : (i j : ℕ) → i ≤ j → j ≤ i → i ≡ j
      same_place i j h g = omega arith

  pub searched : (r : Result ℕ ℕ) → IsSearchInRange r (length ids) → IsBinarySearchResult (λ x. identity_cmp x id) ids r →
      record { found : IfOk r (λ (i : ℕ). into_rising id ids ≡ ids); absent : IfErr r (λ (i : ℕ). (i ≤ length ids) × (into_rising id ids ≡ insert ids i id)) }
  searched (Ok i) h equal = record {
    found = there i (record { within = subst (λ n. i < n) (sym (tag_count ids)) h; tied = λ d. ap (λ (e : Identity × Unit {0}). identity_cmp e.0 id) (tag_at ids i d) ∙ equal d.0 });
    absent = tt;
  }
  searched (Err i) h parted = record {
    found = tt;
    absent =
        let gap : IsGap identity_cmp (tags ids) id i = record {
          within = subst (λ n. i ≤ n) (sym (tag_count ids)) h;
          below = λ j d l. ap (λ (e : Identity × Unit {0}). identity_cmp e.0 id) (tag_at ids j d) ∙ (parted rises).0 j d.0 (omega arith) l;
          above = λ j d l m. ap (λ (e : Identity × Unit {0}). identity_cmp e.0 id) (tag_at ids j d) ∙ (parted rises).1 j d.0 l (subst (λ n. j < n) (tag_count ids) m);
        } in
        (h, sym (put_tags id ids) ∙ ap (λ es. names es) (put_gap identity_total (tags ids) id tt i gap) ∙ named_insert ids i id);
  }

-- ---- one after the other

abbrev pub noted : List Identity → List Identity → List Identity
noted [] ids = ids
noted (id ∷ more) ids = noted more (into_rising id ids)

abbrev put_all : List Identity → List (Identity × Unit {0}) → List (Identity × Unit {0})
put_all [] es = es
put_all (id ∷ more) es = put_all more (put identity_cmp id tt es)

named_all : (more : List Identity) (es : List (Identity × Unit {0})) → names (put_all more es) ≡ noted more (names es)
named_all [] es = refl
named_all (id ∷ more) es = named_all more (put identity_cmp id tt es) ∙ ap (noted more) (put_rises id es)

-- the definition begins at the last
abbrev put_last : List Identity → List (Identity × Unit {0})
put_last [] = []
put_last (id ∷ ids) = put identity_cmp id tt (put_last ids)

named_last : (ids : List Identity) → names (put_last ids) ≡ rising ids
named_last [] = refl
named_last (id ∷ ids) = put_rises id (put_last ids) ∙ ap (into_rising id) (named_last ids)

last_sorted : (ids : List Identity) → T (is_sorted identity_cmp (put_last ids))
last_sorted [] = tt
last_sorted (id ∷ ids) = is_sorted-put identity_cmp identity_total id tt (put_last ids) (last_sorted ids)

last_has : (ids : List Identity) (q : Identity) → has (put_last ids) q ≡ list_any (same_identity q) ids
last_has [] q = refl
last_has (id ∷ ids) q = put_one (put_last ids) id q ∙ ap (λ b. same_identity q id || b) (last_has ids q)

all_sorted : (ids : List Identity) (es : List (Identity × Unit {0})) → T (is_sorted identity_cmp es) → T (is_sorted identity_cmp (put_all ids es))
all_sorted [] es h = h
all_sorted (id ∷ ids) es h = all_sorted ids (put identity_cmp id tt es) (is_sorted-put identity_cmp identity_total id tt es h)

all_has : (ids : List Identity) (es : List (Identity × Unit {0})) (q : Identity) → has (put_all ids es) q ≡ (list_any (same_identity q) ids || has es q)
all_has [] es q = refl
all_has (id ∷ ids) es q =
    all_has ids (put identity_cmp id tt es) q
    ∙ ap (λ b. list_any (same_identity q) ids || b) (put_one es id q)
    ∙ turned (list_any (same_identity q) ids) (same_identity q id) (has es q)
  where
    turned : (a b c : Bool) → (a || (b || c)) ≡ ((b || a) || c)
    turned true true c = refl
    turned true false c = refl
    turned false true c = refl
    turned false false c = refl

or_nothing : (b : Bool) → (b || false) ≡ b
or_nothing true = refl
or_nothing false = refl

same_unit : (a b : Option (Unit {0})) → is_some a ≡ is_some b → a ≡ b
same_unit None None e = refl
same_unit (Some u) (Some v) e = refl
same_unit None (Some v) e = absurd cc
same_unit (Some u) None e = absurd cc

-- both are in order and have the same
same_put : (ids : List Identity) → put_all ids [] ≡ put_last ids
same_put ids =
    same_entries identity_cmp identity_total identity_exact (put_all ids []) (put_last ids) (all_sorted ids [] tt) (last_sorted ids)
    (λ q. same_unit (find identity_cmp q (put_all ids [])) (find identity_cmp q (put_last ids)) (all_has ids [] q ∙ or_nothing (list_any (same_identity q) ids) ∙ sym (last_has ids q)))

all_noted : (ids : List Identity) → noted ids [] ≡ rising ids
all_noted ids = sym (named_all ids []) ∙ ap (λ es. names es) (same_put ids) ∙ named_last ids

-- when all are put in
pub all_risen : {X : Type 0} (f : X → List Identity) (xs : List X) (i : ℕ) (ids : List Identity) → length xs ≤ i → noted (flat_map f (drop i xs)) ids ≡ noted (flat_map f xs) [] → ids ≡ rising (flat_map f xs)
all_risen f xs i ids past rest = sym (at_drop_all (λ ys. noted (flat_map f ys) ids) xs i past) ∙ rest ∙ all_noted (flat_map f xs)

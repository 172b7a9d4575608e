-- Objects that are looked up under candidates, among which are all that pass, are those of the set that pass.
use Rattle.std.specs.Prelude.{◌≡◌, ℕ, ◌<◌, Bool, true, false, cond, ◌&&◌, ◌||◌, T, List, [], ◌∷◌, ◌++◌, map, filter, length, Option, Some, None}
use Rattle.std.specs.Borrow.{Bor}
use Rattle.std.proofs.Common.{refl, sym, ap, subst, ◌∙◌, arith, inl, inr, Ordering, Less, Equal, Greater}
use Rattle.std.specs.List.{list_any, AllByRecursion, dedup, dedup_from}
use Rattle.std.specs.List.Sorted.{IsStrictlySortedBy}
use Rattle.std.specs.Ordering.{is_eq, is_lt, eq_by_cmp}
use Rattle.std.specs.Cmp.{IsTotalOrder, on_total, tied_itself}
use Rattle.std.specs.FinMap.Entries.{below_all, is_sorted, same_entries}
use Rattle.std.proofs.lemmas.Bool.{cases_lt, false≢true}
use Rattle.std.proofs.lemmas.List.Folds.{list_any-append}
use Rattle.jpa_value.specs.declared.value.Identity.{Identity}
use Rattle.jpa_value.specs.Value.{identity_cmp, same_identity}
use Rattle.jpa_value.proofs.Orders.{identity_total, identity_exact}
use Rattle.jpa_model.specs.declared.unit.PersistenceUnit.{PersistenceUnit}
use Rattle.jpa_model.specs.Chains.{is_kind_of}
use Rattle.jpa_stored.specs.declared.objects.stored.Stored.{Stored}
use Rattle.jpa_stored.specs.objects.Sets.{StoredSet, stored_at}
use Rattle.jpa_stored.proofs.objects.Bridge.{own_kind}
use Rattle.jpa_stored.proofs.objects.Entries.{t_first, t_second, less}
use Rattle.jpa_open.specs.Opened.{lent_ids}
use Rattle.jpa_open.specs.Valued.{passing, passing_under, AreAllThat, ids_passing, lent_cmp}
use Rattle.jpa_open.proofs.Subclasses.{above_other}

-- ---- tests

equal : (o : Ordering) → is_eq o ≡ true → o ≡ Equal
equal Less e = absurd cc
equal Equal e = refl
equal Greater e = absurd cc

both : (a b : Bool) → T a → T b → T (a && b)
both true b h g = g
both false b h g = absurd h

either : (a b : Bool) → b ≡ true → (a || b) ≡ true
either true b e = refl
either false b e = e

nothing_found : (x : Stored) → None ≡ Some x → ⊥
nothing_found x e = absurd cc

is_less : (o : Ordering) → o ≡ Less → T (is_lt o)
is_less o e = subst (λ r. T (is_lt r)) (sym e) tt

-- ---- identities in rising order, each once

pub lent_total : IsTotalOrder lent_cmp
lent_total = on_total (λ (b : Bor Identity). b.now) identity_total

module _ {X : Type 0} (E : X → X → Bool) (t : X → Bool) (agree : (x k : X) → E x k ≡ true → t x ≡ t k) where
  any_from : (xs : List X) (k : X) → list_any t (dedup_from E k xs) ≡ (t k || list_any t xs)
  any_from [] k = refl
  any_from (x ∷ xs) k = by_test (E x k) refl (any_from xs k) (any_from xs x)
    where
      absorbed : (a b c : Bool) → a ≡ b → (b || c) ≡ (b || (a || c))
      absorbed a true c e = refl
      absorbed a false c e = sym (ap (λ z. z || c) e)

      by_test : (b : Bool) → E x k ≡ b → list_any t (dedup_from E k xs) ≡ (t k || list_any t xs) → list_any t (dedup_from E x xs) ≡ (t x || list_any t xs) →
          list_any t (cond b (dedup_from E k xs) (k ∷ dedup_from E x xs)) ≡ (t k || (t x || list_any t xs))
      by_test true e one two = one ∙ absorbed (t x) (t k) (list_any t xs) (agree x k e)
      by_test false e one two = ap (λ z. t k || z) two

  -- a test passes among what is left where it passes among all
  pub any_dedup : (xs : List X) → list_any t (dedup E xs) ≡ list_any t xs
  any_dedup [] = refl
  any_dedup (x ∷ xs) = any_from xs x

pub any_lent : (q : Identity) (bs : List (Bor Identity)) → list_any (same_identity q) (lent_ids bs) ≡ list_any (λ (b : Bor Identity). same_identity q b.now) bs
any_lent q [] = refl
any_lent q (b ∷ bs) = ap (λ z. same_identity q b.now || z) (any_lent q bs)

-- identities that are the same are the same as another alike
pub same_alike : (q a b : Identity) → same_identity a b ≡ true → same_identity q a ≡ same_identity q b
same_alike q a b e = ap (same_identity q) (identity_exact a b (equal (identity_cmp a b) e))

-- ---- what stands under candidates and passes

abbrev nothing : Option Stored
nothing = None

both_none : (b : Bool) → cond b nothing nothing ≡ nothing
both_none true = refl
both_none false = refl

module _ (p : Identity × Stored → Bool) where
  -- what is found among those that pass
  abbrev kept_at : Identity → Option Stored → Option Stored
  kept_at q None = None
  kept_at q (Some x) = cond (p (q, x)) (Some x) None

  -- ---- those of a set that pass

  below_filter : (x : Identity) (s : StoredSet) → T (below_all identity_cmp x s) → T (below_all identity_cmp x (filter p s))
  below_filter x [] h = tt
  below_filter x (e ∷ es) h =
      let rest = below_filter x es (t_second (is_lt (identity_cmp x e.0)) _ h) in
      elim (p e) as (λ b. T (below_all identity_cmp x (cond b (e ∷ filter p es) (filter p es)))) [
        | true ↦ both (is_lt (identity_cmp x e.0)) _ (t_first (is_lt (identity_cmp x e.0)) _ h) rest
        | false ↦ rest
      ]

  filter_rises : (s : StoredSet) → T (is_sorted identity_cmp s) → T (is_sorted identity_cmp (filter p s))
  filter_rises [] h = tt
  filter_rises (e ∷ es) h =
      let rest = filter_rises es (t_second (below_all identity_cmp e.0 es) _ h) in
      elim (p e) as (λ b. T (is_sorted identity_cmp (cond b (e ∷ filter p es) (filter p es)))) [
        | true ↦ both _ _ (below_filter e.0 es (t_first (below_all identity_cmp e.0 es) _ h)) rest
        | false ↦ rest
      ]

  none_above : (x q : Identity) (es : StoredSet) → identity_cmp q x ≡ Equal → T (below_all identity_cmp x es) → stored_at es q ≡ None
  none_above x q [] e h = refl
  none_above x q (d ∷ es) e h =
      ap (λ r. cond (is_eq r) (Some d.1) (stored_at es q)) (identity_total.congr q x d.0 e ∙ less (identity_cmp x d.0) (t_first (is_lt (identity_cmp x d.0)) _ h))
      ∙ none_above x q es e (t_second (is_lt (identity_cmp x d.0)) _ h)

  found_first : (q : Identity) (e : Identity × Stored) (es : StoredSet) → T (below_all identity_cmp e.0 es) → stored_at (filter p es) q ≡ kept_at q (stored_at es q) →
      (b c : Bool) → eq_by_cmp identity_cmp q e.0 ≡ b → p e ≡ c → stored_at (cond c (e ∷ filter p es) (filter p es)) q ≡ kept_at q (cond b (Some e.1) (stored_at es q))
  found_first q e es above rest true true same passes =
      ap (λ b. cond b (Some e.1) (stored_at (filter p es) q)) same
      ∙ sym (ap (λ b. cond b (Some e.1) None) (ap (λ i. p (i, e.1)) (identity_exact q e.0 (equal (identity_cmp q e.0) same)) ∙ passes))
  found_first q e es above rest true false same fails =
      rest ∙ ap (kept_at q) (none_above e.0 q es (equal (identity_cmp q e.0) same) above)
      ∙ sym (ap (λ b. cond b (Some e.1) None) (ap (λ i. p (i, e.1)) (identity_exact q e.0 (equal (identity_cmp q e.0) same)) ∙ fails))
  found_first q e es above rest false true other passes = ap (λ b. cond b (Some e.1) (stored_at (filter p es) q)) other ∙ rest
  found_first q e es above rest false false other fails = rest

  found_passing : (q : Identity) (s : StoredSet) → T (is_sorted identity_cmp s) → stored_at (filter p s) q ≡ kept_at q (stored_at s q)
  found_passing q [] h = refl
  found_passing q (e ∷ es) h =
      found_first q e es (t_first (below_all identity_cmp e.0 es) _ h) (found_passing q es (t_second (below_all identity_cmp e.0 es) _ h)) (eq_by_cmp identity_cmp q e.0) (p e) refl refl

  -- ---- those under candidates

  module _ (s : StoredSet) where
    abbrev under : List Identity → StoredSet
    under ids = passing_under p s ids

    abbrev Is : List Identity → Identity → Option Stored → Type 0
    Is ids q o = stored_at (under ids) q ≡ cond (list_any (same_identity q) ids) (kept_at q o) None

    -- what stands under another one does not matter
    skipped : (q id : Identity) (o : Option Stored) (rest : StoredSet) → same_identity q id ≡ false → stored_at (passing p id o ++ rest) q ≡ stored_at rest q
    skipped q id None rest e = refl
    skipped q id (Some x) rest e = by_test (p (id, x))
      where
        by_test : (c : Bool) → stored_at (cond c ((id, x) ∷ []) [] ++ rest) q ≡ stored_at rest q
        by_test true = ap (λ b. cond b (Some x) (stored_at rest q)) e
        by_test false = refl

    at_itself : (q : Identity) (o : Option Stored) (rest : StoredSet) (b : Bool) → stored_at rest q ≡ cond b (kept_at q o) None → stored_at (passing p q o ++ rest) q ≡ kept_at q o
    at_itself q None rest b h = h ∙ both_none b
    at_itself q (Some x) rest b h = by_test (p (q, x)) refl
      where
        by_test : (c : Bool) → p (q, x) ≡ c → stored_at (cond c ((q, x) ∷ []) [] ++ rest) q ≡ cond c (Some x) None
        by_test true e = ap (λ r. cond (is_eq r) (Some x) (stored_at rest q)) (tied_itself identity_total q)
        by_test false e = h ∙ ap (λ c. cond b (cond c (Some x) None) None) e ∙ both_none b

    found_under : (q : Identity) (ids : List Identity) → Is ids q (stored_at s q)
    found_under q [] = refl
    found_under q (id ∷ ids) = by_first (same_identity q id) refl (found_under q ids)
      where
        by_first : (b : Bool) → same_identity q id ≡ b → Is ids q (stored_at s q) → stored_at (passing p id (stored_at s id) ++ under ids) q ≡ cond (b || list_any (same_identity q) ids) (kept_at q (stored_at s q)) None
        by_first true e rest =
            ap (λ i. stored_at (passing p i (stored_at s i) ++ under ids) q) (sym (identity_exact q id (equal (identity_cmp q id) e)))
            ∙ at_itself q (stored_at s q) (under ids) (list_any (same_identity q) ids) rest
        by_first false e rest = skipped q id (stored_at s id) (under ids) e ∙ rest

    below_under : (b : Bor Identity) (bs : List (Bor Identity)) → AllByRecursion (λ (y : Bor Identity). lent_cmp b y ≡ Less) bs → T (below_all identity_cmp b.now (under (lent_ids bs)))
    below_under b [] h = tt
    below_under b (y ∷ bs) h = by_row (below_under b bs h.1) (stored_at s y.now)
      where
        by_row : T (below_all identity_cmp b.now (under (lent_ids bs))) → (o : Option Stored) → T (below_all identity_cmp b.now (passing p y.now o ++ under (lent_ids bs)))
        by_row rest None = rest
        by_row rest (Some x) = by_test (p (y.now, x))
          where
            by_test : (c : Bool) → T (below_all identity_cmp b.now (cond c ((y.now, x) ∷ []) [] ++ under (lent_ids bs)))
            by_test true = both (is_lt (identity_cmp b.now y.now)) _ (is_less (identity_cmp b.now y.now) h.0) rest
            by_test false = rest

    under_rises : (bs : List (Bor Identity)) → IsStrictlySortedBy lent_cmp bs → T (is_sorted identity_cmp (under (lent_ids bs)))
    unfolding IsStrictlySortedBy
    under_rises [] h = tt
    under_rises (b ∷ bs) h = by_row (under_rises bs h.1) (stored_at s b.now)
      where
        by_row : T (is_sorted identity_cmp (under (lent_ids bs))) → (o : Option Stored) → T (is_sorted identity_cmp (passing p b.now o ++ under (lent_ids bs)))
        by_row rest None = rest
        by_row rest (Some x) = by_test (p (b.now, x))
          where
            by_test : (c : Bool) → T (is_sorted identity_cmp (cond c ((b.now, x) ∷ []) [] ++ under (lent_ids bs)))
            by_test true = both (below_all identity_cmp b.now (under (lent_ids bs))) _ (below_under b bs h.0) rest
            by_test false = rest

    -- where all that pass are among the candidates, these give all of them, in the set's order
    pub all_passing : (bs : List (Bor Identity)) → T (is_sorted identity_cmp s) → IsStrictlySortedBy lent_cmp bs → AreAllThat p s (lent_ids bs) → under (lent_ids bs) ≡ filter p s
    all_passing bs rising sorted all =
        same_entries identity_cmp identity_total identity_exact (under (lent_ids bs)) (filter p s) (under_rises bs sorted) (filter_rises s rising)
        (λ q. found_under q (lent_ids bs) ∙ by_row q (stored_at s q) refl ∙ sym (found_passing q s rising))
      where
        by_row : (q : Identity) (o : Option Stored) → stored_at s q ≡ o → cond (list_any (same_identity q) (lent_ids bs)) (kept_at q o) None ≡ kept_at q o
        by_row q None e = both_none (list_any (same_identity q) (lent_ids bs))
        by_row q (Some x) e = by_test (p (q, x)) refl
          where
            by_test : (c : Bool) → p (q, x) ≡ c → cond (list_any (same_identity q) (lent_ids bs)) (cond c (Some x) None) None ≡ cond c (Some x) None
            by_test true t = ap (λ b. cond b (Some x) None) (all q x e t)
            by_test false t = both_none (list_any (same_identity q) (lent_ids bs))

-- ---- that all are among the candidates

-- a class of the kind of one of the metamodel is one of it
pub kind_inside : (m : PersistenceUnit) (class c : ℕ) → class < length m.entities → is_kind_of m c class ≡ true → c < length m.entities
kind_inside m class c h kind = elim (cases_lt c (length m.entities)) [
  | inl under ↦ under
  | inr more ↦ absurd (false≢true (sym (above_other c class (omega arith)) ∙ own_kind m c class (omega arith) ∙ kind))
]

module _ (l : Identity × Stored → Bool) where
  pub lying_there : (s : StoredSet) (id : Identity) (x : Stored) → stored_at s id ≡ Some x → l (id, x) ≡ true → list_any (same_identity id) (ids_passing l s) ≡ true
  lying_there [] id x e h = absurd (nothing_found x e)
  lying_there (d ∷ s) id x e h = by_first (eq_by_cmp identity_cmp id d.0) refl (lying_there s id x) e
    where
      Among : Bool → Type 0
      Among c = list_any (same_identity id) (map (λ (e : Identity × Stored). e.0) (cond c (d ∷ filter l s) (filter l s))) ≡ true

      some_is : (y : Stored) → Some y ≡ Some x → y ≡ x
      some_is y e = cc

      later : (c : Bool) → list_any (same_identity id) (ids_passing l s) ≡ true → Among c
      later true k = either (same_identity id d.0) (list_any (same_identity id) (ids_passing l s)) k
      later false k = k

      by_first : (b : Bool) → eq_by_cmp identity_cmp id d.0 ≡ b → (stored_at s id ≡ Some x → l (id, x) ≡ true → list_any (same_identity id) (ids_passing l s) ≡ true) → cond b (Some d.1) (stored_at s id) ≡ Some x → Among (l d)
      by_first true same rest e =
          let id_is = identity_exact id d.0 (equal (identity_cmp id d.0) same) in
          let passes : l d ≡ true = sym (λ i. l (id_is i, sym (some_is d.1 e) i)) ∙ h in
          subst Among (sym passes) (ap (λ b. b || list_any (same_identity id) (ids_passing l s)) same)
      by_first false other rest e = later (l d) (rest e h)

pub kept_left : (q : Identity) (a b c : List Identity) → c ≡ a ++ b → list_any (same_identity q) a ≡ true → list_any (same_identity q) c ≡ true
kept_left q a b c e h = ap (list_any (same_identity q)) e ∙ list_any-append (same_identity q) a b ∙ ap (λ t. t || list_any (same_identity q) b) h

pub kept_right : (q : Identity) (a b c : List Identity) → c ≡ a ++ b → list_any (same_identity q) b ≡ true → list_any (same_identity q) c ≡ true
kept_right q a b c e h = ap (list_any (same_identity q)) e ∙ list_any-append (same_identity q) a b ∙ either (list_any (same_identity q) a) (list_any (same_identity q) b) h

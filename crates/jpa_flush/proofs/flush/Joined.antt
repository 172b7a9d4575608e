-- The new set: to take out what is replaced or dropped and then to join what is written, is to put and to take out one after
-- another, where no identity comes twice.
use Rattle.std.proofs.Common.{◌≡◌, ◌∙◌, Bool, true, false, List, [], ◌∷◌, map, refl, ap, sym, T, Equal, Less, Greater, Ordering}
use Rattle.std.specs.Prelude.{cond, not, ◌||◌, Option, Some, None, is_some}
use Rattle.std.specs.List.{list_any, list_all}
use Rattle.std.proofs.lemmas.Bool.{and_parts, or_parts, not-true, false≢true}
use Rattle.std.specs.Ordering.{is_eq}
use Rattle.std.specs.FinMap.Entries.{is_sorted, find-put, is_sorted-put, is_sorted-where_key, same_entries}
use Rattle.jpa_value.specs.declared.value.Identity.{Identity}
use Rattle.jpa_value.specs.Value.{identity_cmp, same_identity}
use Rattle.jpa_value.proofs.Orders.{identity_total, identity_exact}
use Rattle.jpa_stored.specs.declared.objects.stored.Stored.{Stored}
use Rattle.jpa_stored.specs.objects.Sets.{StoredSet, stored_at, with_stored, without, all_distinct}
use Rattle.jpa_open.proofs.Layers.{found_without, kept_if}

-- what is written under an identity, if anything, and whether a row is replaced or dropped
abbrev pub Write : Type 0
Write = Identity × Option Stored × Bool

abbrev pub put_if : Identity → Option Stored → StoredSet → StoredSet
put_if id None s = s
put_if id (Some x) s = with_stored id x s

-- what the definition makes
abbrev pub joined : List Write → StoredSet → StoredSet
joined [] s = s
joined (w ∷ ws) s = joined ws (put_if w.0 w.1 s)

abbrev pub replaced : List Write → List Identity
replaced [] = []
replaced (w ∷ ws) = cond w.2 (w.0 ∷ replaced ws) (replaced ws)

-- what code does
abbrev pub put_or_take : Identity → Option Stored → StoredSet → StoredSet
put_or_take id None s = without (id ∷ []) s
put_or_take id (Some x) s = with_stored id x s

abbrev pub applied : List Write → StoredSet → StoredSet
applied [] s = s
applied (w ∷ ws) s = applied ws (put_or_take w.0 w.1 s)

abbrev pub names : List Write → List Identity
names ws = map (λ (w : Write). w.0) ws

-- ---- what is found of an identity

abbrev if_put : Bool → Option Stored → Option Stored → Option Stored
if_put b None o = o
if_put b (Some x) o = cond b (Some x) o

abbrev if_done : Bool → Option Stored → Option Stored → Option Stored
if_done b None o = cond b None o
if_done b (Some x) o = cond b (Some x) o

abbrev last_put : Identity → List Write → Option Stored → Option Stored
last_put q [] o = o
last_put q (w ∷ ws) o = last_put q ws (if_put (same_identity q w.0) w.1 o)

abbrev last_done : Identity → List Write → Option Stored → Option Stored
last_done q [] o = o
last_done q (w ∷ ws) o = last_done q ws (if_done (same_identity q w.0) w.1 o)

put_found : (q id : Identity) (x : Option Stored) (s : StoredSet) → stored_at (put_if id x s) q ≡ if_put (same_identity q id) x (stored_at s q)
put_found q id None s = refl
put_found q id (Some x) s = find-put identity_cmp identity_total q id x s

done_found : (q id : Identity) (x : Option Stored) (s : StoredSet) → stored_at (put_or_take id x s) q ≡ if_done (same_identity q id) x (stored_at s q)
done_found q id None s = found_without q (id ∷ []) s ∙ by_test (same_identity q id) (stored_at s q)
  where
    by_test : (b : Bool) (o : Option Stored) → kept_if (b || false) o ≡ cond b None o
    by_test true o = refl
    by_test false o = refl
done_found q id (Some x) s = find-put identity_cmp identity_total q id x s

joined_found : (q : Identity) (ws : List Write) (s : StoredSet) → stored_at (joined ws s) q ≡ last_put q ws (stored_at s q)
joined_found q [] s = refl
joined_found q (w ∷ ws) s = joined_found q ws (put_if w.0 w.1 s) ∙ ap (last_put q ws) (put_found q w.0 w.1 s)

pub applied_found : (q : Identity) (ws : List Write) (s : StoredSet) → stored_at (applied ws s) q ≡ last_done q ws (stored_at s q)
applied_found q [] s = refl
applied_found q (w ∷ ws) s = applied_found q ws (put_or_take w.0 w.1 s) ∙ ap (last_done q ws) (done_found q w.0 w.1 s)

-- ---- an identity that no write names

abbrev pub named : Identity → List Write → Bool
named q ws = list_any (same_identity q) (names ws)

none_put : (x o : Option Stored) → if_put false x o ≡ o
none_put None o = refl
none_put (Some x) o = refl

none_done : (x o : Option Stored) → if_done false x o ≡ o
none_done None o = refl
none_done (Some x) o = refl

unnamed_put : (q : Identity) (ws : List Write) (o : Option Stored) → named q ws ≡ false → last_put q ws o ≡ o
unnamed_put q [] o h = refl
unnamed_put q (w ∷ ws) o h =
    let p = or_parts (same_identity q w.0) (named q ws) h in
    ap (λ b. last_put q ws (if_put b w.1 o)) p.0 ∙ ap (last_put q ws) (none_put w.1 o) ∙ unnamed_put q ws o p.1

pub unnamed_done : (q : Identity) (ws : List Write) (o : Option Stored) → named q ws ≡ false → last_done q ws o ≡ o
unnamed_done q [] o h = refl
unnamed_done q (w ∷ ws) o h =
    let p = or_parts (same_identity q w.0) (named q ws) h in
    ap (λ b. last_done q ws (if_done b w.1 o)) p.0 ∙ ap (last_done q ws) (none_done w.1 o) ∙ unnamed_done q ws o p.1

-- ---- each identity has the same in both

-- what is not written is dropped
abbrev pub drops_rest : List Write → Bool
drops_rest ws = list_all (λ (w : Write). is_some w.1 || w.2) ws

abbrev pub AreApart : List Write → Type 0
AreApart ws = all_distinct same_identity (names ws) ≡ true

equal : (o : Ordering) → is_eq o ≡ true → o ≡ Equal
equal Less e = absurd (false≢true e)
equal Equal e = refl
equal Greater e = absurd (false≢true e)

other : (q : Identity) (w : Write) (ws : List Write) → same_identity q w.0 ≡ true → not (named w.0 ws) ≡ true → named q ws ≡ false
other q w ws e h = ap (λ i. named i ws) (identity_exact q w.0 (equal (identity_cmp q w.0) e)) ∙ not-true (named w.0 ws) h

skip : (q : Identity) (id : Identity) (c : Bool) (ids : List Identity) → same_identity q id ≡ false → list_any (same_identity q) (cond c (id ∷ ids) ids) ≡ list_any (same_identity q) ids
skip q id true ids e = ap (λ b. b || list_any (same_identity q) ids) e
skip q id false ids e = refl

by_test : (q : Identity) (w : Write) (ws : List Write) (o : Option Stored) (b : Bool) → same_identity q w.0 ≡ b → (x : Option Stored) (c : Bool) → (is_some x || c) ≡ true → not (named w.0 ws) ≡ true →
    last_put q ws (kept_if (list_any (same_identity q) (replaced ws)) o) ≡ last_done q ws o →
    last_put q ws (if_put (same_identity q w.0) x (kept_if (list_any (same_identity q) (cond c (w.0 ∷ replaced ws) (replaced ws))) o)) ≡ last_done q ws (if_done (same_identity q w.0) x o)
by_test q w ws o true e (Some x) c t n rest =
    ap (λ b. last_put q ws (cond b (Some x) (kept_if (list_any (same_identity q) (cond c (w.0 ∷ replaced ws) (replaced ws))) o))) e ∙ unnamed_put q ws (Some x) (other q w ws e n)
    ∙ sym (ap (λ b. last_done q ws (cond b (Some x) o)) e ∙ unnamed_done q ws (Some x) (other q w ws e n))
by_test q w ws o true e None true t n rest =
    ap (λ b. last_put q ws (kept_if (b || list_any (same_identity q) (replaced ws)) o)) e ∙ unnamed_put q ws None (other q w ws e n)
    ∙ sym (ap (λ b. last_done q ws (cond b None o)) e ∙ unnamed_done q ws None (other q w ws e n))
by_test q w ws o true e None false t n rest = absurd (false≢true t)
by_test q w ws o false e (Some x) c t n rest =
    ap (λ b. last_put q ws (cond b (Some x) (kept_if (list_any (same_identity q) (cond c (w.0 ∷ replaced ws) (replaced ws))) o))) e
    ∙ ap (λ b. last_put q ws (kept_if b o)) (skip q w.0 c (replaced ws) e) ∙ rest ∙ sym (ap (λ b. last_done q ws (cond b (Some x) o)) e)
by_test q w ws o false e None c t n rest =
    ap (λ b. last_put q ws (kept_if b o)) (skip q w.0 c (replaced ws) e) ∙ rest ∙ sym (ap (λ b. last_done q ws (cond b None o)) e)

alike : (q : Identity) (ws : List Write) (o : Option Stored) → AreApart ws → drops_rest ws ≡ true → last_put q ws (kept_if (list_any (same_identity q) (replaced ws)) o) ≡ last_done q ws o
alike q [] o d r = refl
alike q (w ∷ ws) o d r =
    let p = and_parts (not (named w.0 ws)) (all_distinct same_identity (names ws)) d in
    let t = and_parts (is_some w.1 || w.2) (drops_rest ws) r in
    by_test q w ws o (same_identity q w.0) refl w.1 w.2 t.0 p.0 (alike q ws o p.1 t.1)

-- ---- so both are one set

if_put_rises : (id : Identity) (x : Option Stored) (s : StoredSet) → T (is_sorted identity_cmp s) → T (is_sorted identity_cmp (put_if id x s))
if_put_rises id None s h = h
if_put_rises id (Some x) s h = is_sorted-put identity_cmp identity_total id x s h

joined_rises : (ws : List Write) (s : StoredSet) → T (is_sorted identity_cmp s) → T (is_sorted identity_cmp (joined ws s))
joined_rises [] s h = h
joined_rises (w ∷ ws) s h = joined_rises ws (put_if w.0 w.1 s) (if_put_rises w.0 w.1 s h)

put_or_take_rises : (id : Identity) (x : Option Stored) (s : StoredSet) → T (is_sorted identity_cmp s) → T (is_sorted identity_cmp (put_or_take id x s))
put_or_take_rises id None s h = is_sorted-where_key identity_cmp (λ i. not (list_any (same_identity i) (id ∷ []))) s h
put_or_take_rises id (Some x) s h = is_sorted-put identity_cmp identity_total id x s h

pub applied_rises : (ws : List Write) (s : StoredSet) → T (is_sorted identity_cmp s) → T (is_sorted identity_cmp (applied ws s))
applied_rises [] s h = h
applied_rises (w ∷ ws) s h = applied_rises ws (put_or_take w.0 w.1 s) (put_or_take_rises w.0 w.1 s h)

pub same_set : (ws : List Write) (s : StoredSet) → T (is_sorted identity_cmp s) → AreApart ws → drops_rest ws ≡ true → joined ws (without (replaced ws) s) ≡ applied ws s
same_set ws s h d r =
    same_entries identity_cmp identity_total identity_exact (joined ws (without (replaced ws) s)) (applied ws s)
    (joined_rises ws (without (replaced ws) s) (is_sorted-where_key identity_cmp (λ id. not (list_any (same_identity id) (replaced ws))) s h)) (applied_rises ws s h)
    (λ q. joined_found q ws (without (replaced ws) s) ∙ ap (last_put q ws) (found_without q (replaced ws) s) ∙ alike q ws (stored_at s q) d r ∙ sym (applied_found q ws s))

-- Objects put into a set, one after another.
use Rattle.std.specs.Prelude.{◌≡◌, ◌+◌, ◌<◌, Bool, true, false, cond, ◌&&◌, T, List, [], ◌∷◌, ◌++◌, Option, Some, None}
use Rattle.std.proofs.Common.{refl, sym, ap, ◌∙◌}
use Rattle.std.specs.declared.cmp.Ordering.{Ordering}
use Rattle.std.specs.declared.cmp.Ordering.TheVariants.{Less, Equal, Greater}
use Rattle.std.specs.Ordering.{is_lt, is_eq, eq_by_cmp}
use Rattle.std.specs.Cmp.{tied_itself}
use Rattle.std.specs.FinMap.Entries.{is_sorted, below_all, find-put, is_sorted-put, same_entries}
use Rattle.jpa_value.specs.declared.value.Identity.{Identity}
use Rattle.jpa_value.specs.Value.{identity_cmp}
use Rattle.jpa_value.proofs.Orders.{identity_total, identity_exact}
use Rattle.jpa_stored.specs.declared.objects.stored.Stored.{Stored}
use Rattle.jpa_stored.specs.objects.Sets.{StoredSet, stored_at, with_stored, put_all}
use Rattle.jpa_stored.proofs.objects.Entries.{t_first, t_second, less}

-- what stands there, and else what stands below
abbrev pub over : Option Stored → Option Stored → Option Stored
over None below = below
over (Some x) below = Some x

over_none : (o : Option Stored) → o ≡ over o None
over_none None = refl
over_none (Some x) = refl

pub put_last : (es : List (Identity × Stored)) (e : Identity × Stored) (s : StoredSet) → put_all (es ++ e ∷ []) s ≡ with_stored e.0 e.1 (put_all es s)
put_last [] e s = refl
put_last (d ∷ es) e s = put_last es e (with_stored d.0 d.1 s)

pub rises : (es : List (Identity × Stored)) (s : StoredSet) → T (is_sorted identity_cmp s) → T (is_sorted identity_cmp (put_all es s))
rises [] s h = h
rises (e ∷ es) s h = rises es (with_stored e.0 e.1 s) (is_sorted-put identity_cmp identity_total e.0 e.1 s h)

-- ---- what is found among entries in rising order

pub rest_sorted : (e : Identity × Stored) (es : StoredSet) → T (is_sorted identity_cmp (e ∷ es)) → T (is_sorted identity_cmp es)
rest_sorted e es h = t_second (below_all identity_cmp e.0 es) _ h

pub first_found : (e : Identity × Stored) (es : StoredSet) → stored_at (e ∷ es) e.0 ≡ Some e.1
first_found e es = ap (λ r. cond (is_eq r) (Some e.1) (stored_at es e.0)) (tied_itself identity_total e.0)

-- what is below all others is none of them
none_above : (x q : Identity) (es : StoredSet) → identity_cmp q x ≡ Equal → T (below_all identity_cmp x es) → stored_at es q ≡ None
none_above x q [] e h = refl
none_above x q (d ∷ es) e h =
    ap (λ r. cond (is_eq r) (Some d.1) (stored_at es q)) (identity_total.congr q x d.0 e ∙ less (identity_cmp x d.0) (t_first (is_lt (identity_cmp x d.0)) _ h))
    ∙ none_above x q es e (t_second (is_lt (identity_cmp x d.0)) _ h)

equal : (r : Ordering) → is_eq r ≡ true → r ≡ Equal
equal Less p = absurd cc
equal Equal p = refl
equal Greater p = absurd cc

not_found : (x : Stored) → None ≡ Some x → ⊥
not_found x e = absurd cc

-- what is found behind the first is found
pub later : (e : Identity × Stored) (es : StoredSet) → T (is_sorted identity_cmp (e ∷ es)) → (q : Identity) (x : Stored) → stored_at es q ≡ Some x → stored_at (e ∷ es) q ≡ Some x
later e es sorted q x found = by_first (eq_by_cmp identity_cmp q e.0) refl
  where
    by_first : (b : Bool) → eq_by_cmp identity_cmp q e.0 ≡ b → cond b (Some e.1) (stored_at es q) ≡ Some x
    by_first true same = absurd (not_found x (sym (none_above e.0 q es (equal (identity_cmp q e.0) same) (t_first (below_all identity_cmp e.0 es) _ sorted)) ∙ found))
    by_first false other = found

-- what was put is found, and else what stood there
pub found : (q : Identity) (es s : StoredSet) → T (is_sorted identity_cmp es) → stored_at (put_all es s) q ≡ over (stored_at es q) (stored_at s q)
found q [] s sorted = refl
found q (e ∷ es) s sorted =
    found q es (with_stored e.0 e.1 s) (rest_sorted e es sorted)
    ∙ ap (over (stored_at es q)) (find-put identity_cmp identity_total q e.0 e.1 s)
    ∙ by_first (eq_by_cmp identity_cmp q e.0) refl
  where
    by_first : (b : Bool) → eq_by_cmp identity_cmp q e.0 ≡ b → over (stored_at es q) (cond b (Some e.1) (stored_at s q)) ≡ over (cond b (Some e.1) (stored_at es q)) (stored_at s q)
    by_first true same = ap (λ o. over o (Some e.1)) (none_above e.0 q es (equal (identity_cmp q e.0) same) (t_first (below_all identity_cmp e.0 es) _ sorted))
    by_first false other = refl

over_put : (b : Bool) (x : Stored) (o p : Option Stored) → over (cond b (Some x) o) p ≡ cond b (Some x) (over o p)
over_put true x o p = refl
over_put false x o p = refl

-- one object more over a set: put among those that were written
pub put_more : (id : Identity) (x : Stored) (es s : StoredSet) → T (is_sorted identity_cmp es) → T (is_sorted identity_cmp s) →
    put_all (with_stored id x es) s ≡ with_stored id x (put_all es s)
put_more id x es s sorted rising =
    let more = is_sorted-put identity_cmp identity_total id x es sorted in
    same_entries identity_cmp identity_total identity_exact (put_all (with_stored id x es) s) (with_stored id x (put_all es s))
    (rises (with_stored id x es) s rising)
    (is_sorted-put identity_cmp identity_total id x (put_all es s) (rises es s rising))
    (λ q. found q (with_stored id x es) s more
    ∙ ap (λ o. over o (stored_at s q)) (find-put identity_cmp identity_total q id x es)
    ∙ over_put (eq_by_cmp identity_cmp q id) x (stored_at es q) (stored_at s q)
    ∙ ap (cond (eq_by_cmp identity_cmp q id) (Some x)) (sym (found q es s sorted))
    ∙ sym (find-put identity_cmp identity_total q id x (put_all es s)))

-- ---- the look-ups of one identity

pub in_written : (q : Identity) (x : Stored) (es s : StoredSet) → T (is_sorted identity_cmp es) → stored_at es q ≡ Some x → Some x ≡ stored_at (put_all es s) q
in_written q x es s sorted e = sym (found q es s sorted ∙ ap (λ o. over o (stored_at s q)) e)

pub in_committed : (q : Identity) (es s : StoredSet) → T (is_sorted identity_cmp es) → stored_at es q ≡ None → stored_at s q ≡ stored_at (put_all es s) q
in_committed q es s sorted e = sym (found q es s sorted ∙ ap (λ o. over o (stored_at s q)) e)

-- What holds of each object that is found in a set holds of all of them, and back; also of a set that was changed in places.
use Rattle.std.specs.Prelude.{◌≡◌, Bool, true, false, cond, T, List, [], ◌∷◌, Option, Some, is_some}
use Rattle.std.specs.List.{list_all}
use Rattle.std.proofs.Common.{refl, sym, ap, subst, ◌∙◌}
use Rattle.std.proofs.lemmas.Bool.{and_parts, and_from, false≢true}
use Rattle.std.specs.Option.{unwrap_or}
use Rattle.std.specs.declared.cmp.Ordering.{Ordering}
use Rattle.std.specs.declared.cmp.Ordering.TheVariants.{Less, Equal, Greater}
use Rattle.std.specs.Ordering.{is_eq, is_lt}
use Rattle.std.specs.FinMap.Entries.{is_sorted, below_all, find}
use Rattle.jpa_value.specs.declared.value.Identity.{Identity}
use Rattle.jpa_value.specs.Value.{identity_cmp, same_identity}
use Rattle.jpa_value.proofs.Orders.{identity_exact}
use Rattle.jpa_stored.specs.declared.objects.stored.Stored.{Stored}
use Rattle.jpa_stored.specs.objects.Sets.{StoredSet, stored_at}
use Rattle.jpa_stored.proofs.objects.Puts.{rest_sorted, first_found, later}
use Rattle.jpa_stored.proofs.objects.Entries.{t_first, t_second, less}

-- ---- what holds of each object that is found holds of all, and back

pub holds_all : (p : Identity × Stored → Bool) (s : StoredSet) → T (is_sorted identity_cmp s) → ((q : Identity) (x : Stored) → stored_at s q ≡ Some x → p (q, x) ≡ true) → list_all p s ≡ true
holds_all p [] h k = refl
holds_all p (e ∷ es) h k = and_from (p e) (list_all p es) (k e.0 e.1 (first_found e es)) (holds_all p es (rest_sorted e es h) (λ q x f. k q x (later e es h q x f)))

pub equal : (o : Ordering) → is_eq o ≡ true → o ≡ Equal
equal Less e = absurd (false≢true e)
equal Equal e = refl
equal Greater e = absurd (false≢true e)

at_first : (p : Identity × Stored → Bool) (q : Identity) (x : Stored) (e : Identity × Stored) (o : Option Stored) (b : Bool) → is_eq (identity_cmp q e.0) ≡ b → (o ≡ Some x → p (q, x) ≡ true) → p e ≡ true →
    cond b (Some e.1) o ≡ Some x → p (q, x) ≡ true
at_first p q x e o true t k h g = subst (λ i. p (i, x) ≡ true) (sym (identity_exact q e.0 (equal (identity_cmp q e.0) t))) (subst (λ y. p (e.0, y) ≡ true) (ap (λ o'. unwrap_or o' x) g) h)
at_first p q x e o false t k h g = k g

pub holds_found : (p : Identity × Stored → Bool) (s : StoredSet) → list_all p s ≡ true → (q : Identity) (x : Stored) → stored_at s q ≡ Some x → p (q, x) ≡ true
holds_found p [] h q x e = absurd (false≢true (ap is_some e))
holds_found p (y ∷ ys) h q x e = let a = and_parts (p y) (list_all p ys) h in at_first p q x y (find identity_cmp q ys) (is_eq (identity_cmp q y.0)) refl (holds_found p ys a.1 q x) a.0 e

pub list_all_both : {A : Type 0} (f g h : A → Bool) → ((x : A) → f x ≡ true → g x ≡ true → h x ≡ true) → (xs : List A) → list_all f xs ≡ true → list_all g xs ≡ true → list_all h xs ≡ true
list_all_both f g h k [] a b = refl
list_all_both f g h k (x ∷ xs) a b =
    let p = and_parts (f x) (list_all f xs) a in
    let q = and_parts (g x) (list_all g xs) b in
    and_from (h x) (list_all h xs) (k x p.0 q.0) (list_all_both f g h k xs p.1 q.1)

-- ---- a set in which only some identities have something else than before

module _ (old new : StoredSet) (changed : Identity → Bool) (rising : T (is_sorted identity_cmp new)) (same : (q : Identity) → changed q ≡ false → stored_at new q ≡ stored_at old q) where
  pub by_change : {A : Type 0} (b : Bool) → (b ≡ true → A) → (b ≡ false → A) → A
  by_change true f g = f refl
  by_change false f g = g refl

  -- a test of each object by itself
  pub each_passes : (p : Identity × Stored → Bool) → list_all p old ≡ true → ((q : Identity) (x : Stored) → changed q ≡ true → stored_at new q ≡ Some x → p (q, x) ≡ true) → list_all p new ≡ true
  each_passes p h k = holds_all p new rising (λ q x e. by_change (changed q) (λ c. k q x c e) (λ c. holds_found p old h q x (sym (same q c) ∙ e)))

-- what is found above an identity is another
above_first : (k q : Identity) (x : Stored) (e : Identity × Stored) (o : Option Stored) (b : Bool) → is_eq (identity_cmp q e.0) ≡ b → identity_cmp k e.0 ≡ Less → (o ≡ Some x → same_identity k q ≡ false) → cond b (Some e.1) o ≡ Some x → same_identity k q ≡ false
above_first k q x e o true t l rest g = ap (λ i. is_eq (identity_cmp k i)) (identity_exact q e.0 (equal (identity_cmp q e.0) t)) ∙ ap is_eq l
above_first k q x e o false t l rest g = rest g

pub above : (k q : Identity) (x : Stored) (es : StoredSet) → T (below_all identity_cmp k es) → stored_at es q ≡ Some x → same_identity k q ≡ false
above k q x [] below g = absurd (false≢true (ap is_some g))
above k q x (e ∷ es) below g =
    above_first k q x e (find identity_cmp q es) (is_eq (identity_cmp q e.0)) refl (less (identity_cmp k e.0) (t_first (is_lt (identity_cmp k e.0)) _ below)) (above k q x es (t_second (is_lt (identity_cmp k e.0)) _ below)) g

-- What holds of each object of some sets holds of each object of what changes make of them.
use Rattle.std.specs.Prelude.{◌≡◌, Bool, true, false, cond, T, List, [], Option, Some, None, unwrap_or}
use Rattle.std.proofs.Common.{refl, sym, ap, subst, ◌∙◌}
use Rattle.std.specs.declared.cmp.Ordering.{Ordering}
use Rattle.std.specs.declared.cmp.Ordering.TheVariants.{Less, Equal, Greater}
use Rattle.std.specs.Ordering.{is_eq, eq_by_cmp}
use Rattle.std.specs.FinMap.Entries.{is_sorted, find-put}
use Rattle.jpa_value.specs.declared.value.Identity.{Identity}
use Rattle.jpa_value.specs.Value.{identity_cmp}
use Rattle.jpa_value.proofs.Orders.{identity_total, identity_exact}
use Rattle.jpa_stored.specs.declared.objects.stored.Stored.{Stored}
use Rattle.jpa_stored.specs.objects.Sets.{StoredSet, stored_at, with_stored, without}
use Rattle.jpa_stored.proofs.objects.Puts as puts
use Rattle.jpa_open.specs.Holding.{HoldsOf}
use Rattle.jpa_open.specs.Layers.{Layer, over}
use Rattle.jpa_open.specs.Opened.{layer}
use Rattle.jpa_open.proofs.Layers.{dropped, kept_if, found_over, found_without}

nothing_found : (x : Stored) → None ≡ Some x → ⊥
nothing_found x e = absurd cc

-- what the manager at work sees
abbrev pub seen_set : List (Identity × Stored) → List (Identity × Unit {0}) → List (Identity × Stored) → List (Identity × Unit {0}) → List (Identity × Stored) → List (Identity × Unit {0}) → StoredSet → StoredSet
seen_set fresh gone written dropped back absent committed = over (layer fresh gone) (over (layer written dropped) (over (layer back absent) committed))

module _ (P : Identity → Stored → Type 0) where
  pub have_none : HoldsOf P []
  have_none owner x e = absurd (nothing_found x e)

  pub have_over : (l : Layer) (s : StoredSet) → T (is_sorted identity_cmp l.puts) → HoldsOf P l.puts → HoldsOf P s → HoldsOf P (over l s)
  have_over l s sorted a b owner x found = by_puts (stored_at l.puts owner) refl (dropped l.drops owner) (sym (found_over owner l s sorted) ∙ found)
    where
      by_puts : (o : Option Stored) → stored_at l.puts owner ≡ o → (d : Bool) → puts.over o (kept_if d (stored_at s owner)) ≡ Some x → P owner x
      by_puts (Some y) e d h = a owner x (e ∙ h)
      by_puts None e true h = absurd (nothing_found x h)
      by_puts None e false h = b owner x h

  pub have_with : (id : Identity) (x : Stored) (s : StoredSet) → P id x → HoldsOf P s → HoldsOf P (with_stored id x s)
  have_with id x s a b owner y found = by_first (eq_by_cmp identity_cmp owner id) refl (sym (find-put identity_cmp identity_total owner id x s) ∙ found)
    where
      equal : (o : Ordering) → is_eq o ≡ true → o ≡ Equal
      equal Less e = absurd cc
      equal Equal e = refl
      equal Greater e = absurd cc

      by_first : (t : Bool) → eq_by_cmp identity_cmp owner id ≡ t → cond t (Some x) (stored_at s owner) ≡ Some y → P owner y
      by_first true same h =
          subst (λ (z : Stored). P owner z) (ap (λ (o : Option Stored). unwrap_or o x) h)
          (subst (λ (i : Identity). P i x) (sym (identity_exact owner id (equal (identity_cmp owner id) same))) a)
      by_first false other h = b owner y h

  pub have_without : (ids : List Identity) (s : StoredSet) → HoldsOf P s → HoldsOf P (without ids s)
  have_without ids s b owner x found = by_test (dropped ids owner) (sym (found_without owner ids s) ∙ found)
    where
      by_test : (d : Bool) → kept_if d (stored_at s owner) ≡ Some x → P owner x
      by_test true h = absurd (nothing_found x h)
      by_test false h = b owner x h

  -- of each object that the manager at work sees, where it does of each that is committed and of each in the layers
  pub have_committed : (fresh : List (Identity × Stored)) (gone : List (Identity × Unit {0})) (written : List (Identity × Stored)) (dropped : List (Identity × Unit {0})) (back : List (Identity × Stored)) (absent : List (Identity × Unit {0})) (committed : StoredSet) →
      T (is_sorted identity_cmp fresh) → T (is_sorted identity_cmp written) → T (is_sorted identity_cmp back) →
      HoldsOf P fresh → HoldsOf P written → HoldsOf P back → HoldsOf P committed → HoldsOf P (seen_set fresh gone written dropped back absent committed)
  have_committed fresh gone written dropped back absent committed a b c f w k d =
      have_over (layer fresh gone) (over (layer written dropped) (over (layer back absent) committed)) a f
      (have_over (layer written dropped) (over (layer back absent) committed) b w (have_over (layer back absent) committed c k d))

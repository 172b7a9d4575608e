-- What holds of whatever a row is read as holds of each entry.
use Rattle.std.specs.Prelude.{◌≡◌, List, [], ◌∷◌, Option, Some, None}
use Rattle.std.proofs.Common.{refl, subst, Less, Equal, Greater}
use Rattle.std.specs.List.{AllByRecursion}
use Rattle.std.specs.FinMap.{put}
use Rattle.std.specs.FinMap.Entries.{by_order}
use Rattle.std.specs.declared.cmp.Ordering.{Ordering}
use Rattle.jpa_rows.specs.laws.Orders.{IsLinearOrder}
use Rattle.jpa_rows.specs.laws.Entries.{entry_if, put_if, entries_of}

abbrev pub Each : {K X : Type 0} → (K → X → Type 0) → List (K × X) → Type 0
Each P = AllByRecursion (λ e. P e.0 e.1)

module _ {K X : Type 0} {by : K → K → Ordering} (order : IsLinearOrder by) (P : K → X → Type 0) where
  pub each_put : (k : K) (x : X) (es : List (K × X)) → P k x → Each P es → Each P (put by k x es)
  each_put k x [] p h = (p, tt)
  each_put k x (e ∷ es) p h =
      elim (by k e.0) as (λ o. by k e.0 ≡ o → Each P (by_order o ((k, x) ∷ e ∷ es) ((e.0, x) ∷ es) (e ∷ put by k x es))) [
        | Less ↦ λ q. (p, h)
        | Equal ↦ λ q. (subst (λ z. P z x) (order.exact k e.0 q) p, h.1)
        | Greater ↦ λ q. (h.0, each_put k x es p h.1)
      ] refl

  each_if : (o : Option X) (k : K) (es : List (K × X)) → ((x : X) → o ≡ Some x → P k x) → Each P es → Each P (put_if by k o es)
  each_if None k es p h = h
  each_if (Some x) k es p h = each_put k x es (p x refl) h

  module _ {R C : Type 0} (key_at : R → Option K) (value : K → C → Option X) (given : (r : R) (k : K) (c : C) (x : X) → key_at r ≡ Some k → value k c ≡ Some x → P k x) where
    each_at : (r : R) (o : Option K) (c : C) (es : List (K × X)) → key_at r ≡ o → Each P es → Each P (entry_if by o (λ k. value k c) es)
    each_at r None c es at h = h
    each_at r (Some k) c es at h = each_if (value k c) k es (λ x e. given r k c x at e) h

    pub each_read : (rows : List (R × C)) → Each P (entries_of by key_at value rows)
    each_read [] = tt
    each_read (row ∷ rows) = each_at row.0 (key_at row.0) row.1 _ refl (each_read rows)

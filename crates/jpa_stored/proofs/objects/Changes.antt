-- What a change of the entries at the place of an identity makes of the set.
use Rattle.std.specs.Prelude.{◌≡◌, ℕ, Bool, true, false, not, ◌||◌, T, [], ◌∷◌, is_some}
use Rattle.std.proofs.Common.{refl, sym, ap, subst, ◌∙◌, set}
use Rattle.std.specs.List.{insert, remove}
use Rattle.std.specs.Ordering.{is_eq}
use Rattle.std.specs.FinMap.Entries.{is_sorted, is_sorted-put, is_sorted-where_key}
use Rattle.jpa_value.specs.declared.value.Identity.{Identity}
use Rattle.jpa_value.specs.Value.{identity_cmp, same_identity}
use Rattle.jpa_value.proofs.Orders.{identity_total, identity_exact}
use Rattle.jpa_stored.specs.declared.objects.stored.Stored.{Stored}
use Rattle.jpa_stored.specs.objects.Sets.{StoredSet, stored_at, with_stored, without}
use Rattle.jpa_stored.specs.objects.Places.{IsAt, IsGap}
use Rattle.jpa_stored.proofs.objects.Entries.{find_at, find_gap, put_at, put_gap, without_at, without_gap}

pub or_false : (b : Bool) → b || false ≡ b
or_false true = refl
or_false false = refl

other : (id x : Identity) → not (same_identity x id || false) ≡ not (is_eq (identity_cmp x id))
other id x = ap not (or_false (same_identity x id))

module _ (es : StoredSet) (sorted : T (is_sorted identity_cmp es)) (id : Identity) (at : ℕ) where
  pub replaced : (x : Stored) (entry : Identity × Stored) → IsAt identity_cmp es id at → entry ≡ (id, x) → set es at entry ≡ with_stored id x es
  replaced x entry found e = ap (set es at) e ∙ sym (put_at identity_total identity_exact es id x at sorted found)

  pub inserted : (x : Stored) (entry : Identity × Stored) → IsGap identity_cmp es id at → entry ≡ (id, x) → insert es at entry ≡ with_stored id x es
  inserted x entry gap e = ap (insert es at) e ∙ sym (put_gap identity_total es id x at gap)

  pub rises_with : (x : Stored) (new : StoredSet) → new ≡ with_stored id x es → T (is_sorted identity_cmp new)
  rises_with x new e = subst (λ s. T (is_sorted identity_cmp s)) (sym e) (is_sorted-put identity_cmp identity_total id x es sorted)

  pub removed : IsAt identity_cmp es id at → remove es at ≡ without (id ∷ []) es
  removed found = sym (without_at identity_total id _ (other id) es at sorted found)

  pub was_there : (d : Identity × Stored) → IsAt identity_cmp es id at → true ≡ is_some (stored_at es id)
  was_there d found = ap is_some (sym (find_at identity_total es id at d sorted found))

  pub rises_without : (new : StoredSet) → new ≡ without (id ∷ []) es → T (is_sorted identity_cmp new)
  rises_without new e = subst (λ s. T (is_sorted identity_cmp s)) (sym e) (is_sorted-where_key identity_cmp _ es sorted)

  pub none_removed : IsGap identity_cmp es id at → es ≡ without (id ∷ []) es
  none_removed gap = sym (without_gap identity_total id _ (other id) es at gap)

  pub was_not : IsGap identity_cmp es id at → false ≡ is_some (stored_at es id)
  was_not gap = ap is_some (sym (find_gap identity_total es id at gap))

-- Entries read off rows: what stands under a key.
use Rattle.std.specs.Prelude.{◌≡◌, Bool, true, false, cond, T, List, [], ◌∷◌, Option, Some, None}
use Rattle.std.proofs.Common.{refl, sym, ap, subst, ◌∙◌}
use Rattle.std.specs.FinMap.{find, is_sorted}
use Rattle.std.specs.FinMap.Entries.{below_all, find-put}
use Rattle.std.specs.Ordering.{eq_by_cmp}
use Rattle.std.specs.declared.cmp.Ordering.{Ordering}
use Rattle.jpa_rows.specs.laws.Entries.{read_by, entry_if, entries_of, Spells, IsSpelledBy}
use Rattle.jpa_rows.proofs.laws.Facts.{value_in, some_none, true_false, first_holds, second_holds, by_cases}
use Rattle.jpa_rows.proofs.laws.Maps.{absent_below, same_key, ties_itself, put_rises}

module _ {K R : Type 0} {by_key : K → K → Ordering} {by_row : R → R → Ordering} {key_at : R → Option K} {row_of : K → R}
    (spells : Spells by_key by_row key_at row_of) where
  -- ---- ids tie as keys do

  -- q is spelled, and r spells k: they tie exactly where the keys do
  pub ties : (q k : K) (r : R) → IsSpelledBy key_at row_of q → key_at r ≡ Some k → eq_by_cmp by_row (row_of q) r ≡ eq_by_cmp by_key q k
  ties q k r spelled at =
      by_cases _ _
      (λ e. subst (λ x. eq_by_cmp by_key q x ≡ true) (value_in q k (sym spelled ∙ ap key_at (same_key spells.rows (row_of q) r e) ∙ at)) (ties_itself spells.keys q))
      (λ e. subst (λ x. eq_by_cmp by_row (row_of q) x ≡ true) (ap row_of (same_key spells.keys q k e) ∙ spells.only r k at) (ties_itself spells.rows (row_of q)))

  -- a row that spells no key ties with no key's row
  pub ties_not : (q : K) (r : R) → IsSpelledBy key_at row_of q → key_at r ≡ None → eq_by_cmp by_row (row_of q) r ≡ false
  ties_not q r spelled at =
      elim (eq_by_cmp by_row (row_of q) r) as (λ b. eq_by_cmp by_row (row_of q) r ≡ b → b ≡ false) [
        | true ↦ λ e. absurd (some_none q (sym spelled ∙ ap key_at (same_key spells.rows (row_of q) r e) ∙ at))
        | false ↦ λ e. refl
      ] refl

  -- whether a key is spelled
  pub decided : {A : Type 0} (q : K) → (IsSpelledBy key_at row_of q → A) → ((IsSpelledBy key_at row_of q → ⊥) → A) → A
  decided {A} q yes_then no_then = by_at (key_at (row_of q)) refl
    where
      by_at : (o : Option K) → key_at (row_of q) ≡ o → A
      by_at None e = no_then (λ s. some_none q (sym s ∙ e))
      by_at (Some k) e =
          elim (eq_by_cmp by_key q k) as (λ b. eq_by_cmp by_key q k ≡ b → A) [
            | true ↦ λ t. yes_then (e ∙ ap Some (sym (same_key spells.keys q k t)))
            | false ↦ λ t. no_then (λ s. true_false (sym (ties_itself spells.keys q) ∙ ap (eq_by_cmp by_key q) (value_in q k (sym s ∙ e)) ∙ t))
          ] refl

  module _ {C X : Type 0} (value : K → C → Option X) where
    -- ---- the entries rise

    rising_if : (o : Option X) (k : K) (es : List (K × X)) → T (is_sorted by_key es) → T (is_sorted by_key (entry_if by_key (Some k) (λ _. o) es))
    rising_if None k es h = h
    rising_if (Some x) k es h = put_rises spells.keys k x es h

    rising_at : (o : Option K) (c : C) (es : List (K × X)) → T (is_sorted by_key es) → T (is_sorted by_key (entry_if by_key o (λ k. value k c) es))
    rising_at None c es h = h
    rising_at (Some k) c es h = rising_if (value k c) k es h

    pub entries_rise : (rows : List (R × C)) → T (is_sorted by_key (entries_of by_key key_at value rows))
    entries_rise [] = tt
    entries_rise (row ∷ rows) = rising_at (key_at row.0) row.1 _ (entries_rise rows)

    -- ---- what stands under a key

    found_if : (o : Option X) (q k : K) (es : List (K × X)) (b : Bool) → eq_by_cmp by_key q k ≡ b → (b ≡ true → find by_key q es ≡ None)
        → find by_key q (entry_if by_key (Some k) (λ _. o) es) ≡ cond b o (find by_key q es)
    found_if None q k es true e below = below refl
    found_if None q k es false e below = refl
    found_if (Some x) q k es b e below = find-put by_key spells.keys.total q k x es ∙ ap (λ t. cond t (Some x) (find by_key q es)) e

    found_at : (o : Option K) (q : K) (r : R) (c : C) (rows : List (R × C)) (es : List (K × X)) → key_at r ≡ o → IsSpelledBy key_at row_of q
        → T (below_all by_row r rows) → find by_key q es ≡ read_by (value q) (find by_row (row_of q) rows)
        → find by_key q (entry_if by_key o (λ k. value k c) es) ≡ read_by (value q) (cond (eq_by_cmp by_row (row_of q) r) (Some c) (find by_row (row_of q) rows))
    found_at None q r c rows es at spelled below rest =
        rest ∙ ap (λ b. read_by (value q) (cond b (Some c) (find by_row (row_of q) rows))) (sym (ties_not q r spelled at))
    found_at (Some k) q r c rows es at spelled below rest =
        elim (eq_by_cmp by_key q k) as (λ b. eq_by_cmp by_key q k ≡ b → find by_key q (entry_if by_key (Some k) (λ k. value k c) es) ≡ read_by (value q) (cond b (Some c) (find by_row (row_of q) rows))) [
          | true ↦ λ e.
              let row : row_of q ≡ r = ap row_of (same_key spells.keys q k e) ∙ spells.only r k at in
              found_if (value k c) q k es true e (λ _. rest ∙ ap (read_by (value q)) (ap (λ x. find by_row x rows) row ∙ absent_below by_row r rows below))
              ∙ ap (λ x. value x c) (sym (same_key spells.keys q k e))
          | false ↦ λ e. found_if (value k c) q k es false e (λ x. absurd (true_false (sym x))) ∙ rest
        ] refl
        ∙ ap (λ b. read_by (value q) (cond b (Some c) (find by_row (row_of q) rows))) (sym (ties q k r spelled at))

    -- one row is read, and no other
    pub found : (q : K) → IsSpelledBy key_at row_of q → (rows : List (R × C)) → T (is_sorted by_row rows)
        → find by_key q (entries_of by_key key_at value rows) ≡ read_by (value q) (find by_row (row_of q) rows)
    found q spelled [] h = refl
    found q spelled (row ∷ rows) h = found_at (key_at row.0) q row.0 row.1 rows _ refl spelled (first_holds _ _ h) (found q spelled rows (second_holds _ _ h))

    -- a key that is not spelled has no entry
    absent_at : (o : Option K) (q : K) (r : R) (c : C) (es : List (K × X)) → key_at r ≡ o → (IsSpelledBy key_at row_of q → ⊥) → find by_key q es ≡ None
        → find by_key q (entry_if by_key o (λ k. value k c) es) ≡ None
    absent_at None q r c es at not_spelled rest = rest
    absent_at (Some k) q r c es at not_spelled rest =
        elim (eq_by_cmp by_key q k) as (λ b. eq_by_cmp by_key q k ≡ b → find by_key q (entry_if by_key (Some k) (λ k. value k c) es) ≡ None) [
          | true ↦ λ e. absurd (not_spelled (ap key_at (ap row_of (same_key spells.keys q k e) ∙ spells.only r k at) ∙ at ∙ ap Some (sym (same_key spells.keys q k e))))
          | false ↦ λ e. found_if (value k c) q k es false e (λ x. absurd (true_false (sym x))) ∙ rest
        ] refl

    pub absent : (q : K) → (IsSpelledBy key_at row_of q → ⊥) → (rows : List (R × C)) → find by_key q (entries_of by_key key_at value rows) ≡ None
    absent q not_spelled [] = refl
    absent q not_spelled (row ∷ rows) = absent_at (key_at row.0) q row.0 row.1 _ refl not_spelled (absent q not_spelled rows)

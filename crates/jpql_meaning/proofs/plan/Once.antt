-- DISTINCT keeps a row exactly where no row before it is the same.
use Rattle.std.proofs.Common.{◌≡◌, ◌∙◌, ap, sym, refl, Bool, true, false, cond, ◌&&◌, ◌||◌, List, [], ◌∷◌, ◌++◌, ◌⊎◌, inl, inr, ⊎_elim}
use Rattle.std.specs.Cmp.{eq_by_cmp_equiv}
use Rattle.std.specs.List.{list_any}
use Rattle.std.proofs.lemmas.Bool.{false≢true}
use Rattle.jpql_meaning.specs.declared.eval.datum.Datum.{Datum}
use Rattle.jpql_meaning.specs.eval.Aggregates.{first_ones, once}
use Rattle.jpql_meaning.specs.eval.Data.{same_datum, same_data}
use Rattle.jpql_meaning.specs.eval.SeenOrder.{datum_total}
use Rattle.jpql_meaning.proofs.eval.Orders.{same_by_order}
use Rattle.jpql_meaning.specs.plan.Selection.{Row}
use Rattle.jpql_meaning.specs.plan.Laws.{is_same_row}

both_true : (a b : Bool) → (a && b) ≡ true → (a ≡ true) × (b ≡ true)
both_true true b e = (refl, e)
both_true false b e = absurd (false≢true e)

and_true : (a b : Bool) → a ≡ true → b ≡ true → (a && b) ≡ true
and_true true b e f = f
and_true false b e f = absurd (false≢true e)

or_cases : (a b : Bool) → (a || b) ≡ true → (a ≡ true) ⊎ (b ≡ true)
or_cases true b h = inl refl
or_cases false b h = inr h

or_left : (a b : Bool) → a ≡ true → (a || b) ≡ true
or_left true b h = refl
or_left false b h = absurd (false≢true h)

or_right : (a b : Bool) → b ≡ true → (a || b) ≡ true
or_right true b h = refl
or_right false b h = h

datum_congr : (x y z : Datum) → same_datum x y ≡ true → same_datum x z ≡ same_datum y z
datum_congr x y z h =
    sym (same_by_order x z) ∙ (eq_by_cmp_equiv datum_total).congr x y z (same_by_order x y ∙ h) ∙ same_by_order y z

data_trans : (xs ys zs : List Datum) → same_data xs ys ≡ true → same_data ys zs ≡ true → same_data xs zs ≡ true
data_trans [] [] zs h k = k
data_trans [] (y ∷ ys) zs h k = absurd (false≢true h)
data_trans (x ∷ xs) [] zs h k = absurd (false≢true h)
data_trans (x ∷ xs) (y ∷ ys) [] h k = absurd (false≢true k)
data_trans (x ∷ xs) (y ∷ ys) (z ∷ zs) h k =
    let a = both_true (same_datum x y) (same_data xs ys) h in
    let b = both_true (same_datum y z) (same_data ys zs) k in
    and_true _ _ (datum_congr x y z a.0 ∙ b.0) (data_trans xs ys zs a.1 b.1)

absorbed : (s m n : Bool) → (n ≡ true → s ≡ true) → (s || m) ≡ (s || (n || m))
absorbed true m n h = refl
absorbed false m true h = absurd (false≢true (h refl))
absorbed false m false h = refl

turned : (s m n : Bool) → ((n || s) || m) ≡ (s || (n || m))
turned true m true = refl
turned true m false = refl
turned false m true = refl
turned false m false = refl

module _ {A : Type 0} (same : A → A → Bool) (trans : (a b c : A) → same a b ≡ true → same b c ≡ true → same a c ≡ true) where
  abbrev met : List A → A → Bool
  met seen x = list_any (λ b. same b x) seen

  met_again : (seen : List A) (y x : A) → met seen y ≡ true → same y x ≡ true → met seen x ≡ true
  met_again [] y x h k = h
  met_again (b ∷ seen) y x h k = ⊎_elim (λ e. or_left _ _ (trans b y x e k)) (λ e. or_right _ _ (met_again seen y x e k)) (or_cases _ _ h)

  abbrev Keeps : List A → A → List A → Type 0
  Keeps xs x seen = first_ones same seen (xs ++ x ∷ []) ≡ cond (met seen x || met xs x) (first_ones same seen xs) (first_ones same seen xs ++ x ∷ [])

  at_first : (x : A) (b : Bool) → cond b [] (x ∷ []) ≡ cond (b || false) [] ([] ++ x ∷ [])
  at_first x true = refl
  at_first x false = refl

  on_top : (y : A) (b : Bool) (xs ys : List A) → (y ∷ cond b xs ys) ≡ cond b (y ∷ xs) (y ∷ ys)
  on_top y true xs ys = refl
  on_top y false xs ys = refl

  next : (y : A) (ys : List A) (x : A) (seen : List A) (b : Bool) → met seen y ≡ b → ((others : List A) → Keeps ys x others) → Keeps (y ∷ ys) x seen
  next y ys x seen true e h =
      let kept = first_ones same seen ys in
      let fresh = y ∷ first_ones same (y ∷ seen) ys in
      ap (λ c. cond c (first_ones same seen (ys ++ x ∷ [])) (y ∷ first_ones same (y ∷ seen) (ys ++ x ∷ []))) e
      ∙ h seen
      ∙ ap (λ c. cond c kept (kept ++ x ∷ [])) (absorbed (met seen x) (met ys x) (same y x) (met_again seen y x e))
      ∙ ap (λ c. cond (met seen x || (same y x || met ys x)) (cond c kept fresh) (cond c kept fresh ++ x ∷ [])) (sym e)
  next y ys x seen false e h =
      let kept = first_ones same seen ys in
      let others = first_ones same (y ∷ seen) ys in
      ap (λ c. cond c (first_ones same seen (ys ++ x ∷ [])) (y ∷ first_ones same (y ∷ seen) (ys ++ x ∷ []))) e
      ∙ ap (λ r. y ∷ r) (h (y ∷ seen))
      ∙ on_top y ((same y x || met seen x) || met ys x) others (others ++ x ∷ [])
      ∙ ap (λ c. cond c (y ∷ others) (y ∷ others ++ x ∷ [])) (turned (met seen x) (met ys x) (same y x))
      ∙ ap (λ c. cond (met seen x || (same y x || met ys x)) (cond c kept (y ∷ others)) (cond c kept (y ∷ others) ++ x ∷ [])) (sym e)

  one_more : (xs : List A) (x : A) (seen : List A) → Keeps xs x seen
  one_more [] x seen = at_first x (met seen x)
  one_more (y ∷ ys) x seen = next y ys x seen (met seen y) refl (λ others. one_more ys x others)

pub once_more : (rows : List Row) (r : Row)
    → once is_same_row (rows ++ r ∷ []) ≡ cond (list_any (λ (b : Row). is_same_row b r) rows) (once is_same_row rows) (once is_same_row rows ++ r ∷ [])
once_more rows r = one_more is_same_row (λ a b c. data_trans a.items b.items c.items) rows r []

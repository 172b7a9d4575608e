-- Whether a row's cells differ afterwards is told by what was done to them.
use Rattle.std.specs.Prelude.{◌≡◌, ℕ, suc, ◌<◌, ◌≤◌, ℤ, Bool, true, false, cond, not, ◌==◌, ◌&&◌, ◌||◌, List, [], ◌∷◌, ◌++◌, length, bytes_eq}
use Rattle.std.proofs.Common.{refl, sym, ap, subst, ◌∙◌, ◌⊎◌, inl, inr, arith, length-append}
use Rattle.std.specs.List.{flat_map, list_any}
use Rattle.std.specs.Ordering.{int_eq}
use Rattle.std.proofs.lemmas.Bool.Decides.{Decides-int_eq, nat_tests}
use Rattle.std.proofs.lemmas.Slice.Eq.{bytes_eq-Decides}
use Rattle.std.proofs.lemmas.List.Sorted.{length_permutation, Contains-permutation}
use Rattle.jpa_rows.proofs.laws.Facts.{and_first, and_second, and_both, true_false}
use Rattle.jpa_rows.proofs.laws.Elements.{Has, append_has, into_flat_map, has_from_contains, contains_from_has}
use Rattle.jpa_rows.proofs.laws.Lists.{any_has, has_any}
use Rattle.jpa_cells.specs.declared.meaning.Cell.{Cell}
use Rattle.jpa_cells.specs.meaning.Tables.{placed}
use Rattle.jpa_opening.specs.declared.migration.plan.Plan.{Plan}
use Rattle.jpa_opening.specs.migration.Migration.{readable, same_cells}
use Rattle.jpa_opening.specs.migration.Plans.{has_number, column_by, cell_by, touches, is_nil, is_bare, is_taken, defaults_by, loose_by, cells_by, differs}
use Rattle.jpa_opening.specs.migration.Orderly.{IsOrderly}
use Rattle.jpa_opening.proofs.migration.Sorting.{placed_permuted}
use Rattle.jpa_opening.proofs.migration.Untouched.{or_first, or_second, of_taken, of_none, of_others, of_same}

-- ---- cells that are the same

pub same_are : (cells others : List Cell) → same_cells cells others ≡ true → cells ≡ others
same_are [] [] h = refl
same_are [] (d ∷ others) h = cc
same_are (c ∷ cells) [] h = cc
same_are (c ∷ cells) (d ∷ others) h =
    let both = and_first (int_eq c.column d.column && bytes_eq c.value d.value) (same_cells cells others) h in
    let columns : c.column ≡ d.column = (Decides-int_eq c.column d.column).0 (and_first (int_eq c.column d.column) (bytes_eq c.value d.value) both) in
    let values : c.value ≡ d.value = (bytes_eq-Decides c.value d.value).0 (and_second (int_eq c.column d.column) (bytes_eq c.value d.value) both) in
    let tails : cells ≡ others = same_are cells others (and_second (int_eq c.column d.column && bytes_eq c.value d.value) (same_cells cells others) h) in
    let heads : c ≡ d = λ i. record { column = columns i; value = values i } in
    λ i. heads i ∷ tails i

pub same_itself : (cells : List Cell) → same_cells cells cells ≡ true
same_itself [] = refl
same_itself (c ∷ cells) =
    and_both (int_eq c.column c.column && bytes_eq c.value c.value) (same_cells cells cells)
    (and_both (int_eq c.column c.column) (bytes_eq c.value c.value) ((Decides-int_eq c.column c.column).1 refl) ((bytes_eq-Decides c.value c.value).1 refl)) (same_itself cells)

-- ---- what is done puts a cell into a new column, or takes one away

-- columns of defaults and of moves are new
pub record IsFresh (plan : Plan) (cells : List Cell) : Type 0 where
  pub moves : (column : ℤ) → (column_by plan.moves column ≡ column) ⊎ (has_number plan.taken (column_by plan.moves column) ≡ true)
  pub defaults : (d : Cell) → Has (defaults_by plan cells) d → has_number plan.taken d.column ≡ true

fewer : (plan : Plan) (cells : List Cell) → length (flat_map (cell_by plan) cells) ≤ length cells
fewer plan [] = omega arith
fewer plan (c ∷ cells) = by (has_number plan.dropped c.column) (fewer plan cells)
  where
    by : (b : Bool) → length (flat_map (cell_by plan) cells) ≤ length cells → length (cond b [] (record { column = column_by plan.moves c.column; value = c.value } ∷ []) ++ flat_map (cell_by plan) cells) ≤ suc (length cells)
    by true rest = omega arith
    by false rest = omega arith

one_fewer : (plan : Plan) (cells : List Cell) (c : Cell) → Has cells c → has_number plan.dropped c.column ≡ true → length (flat_map (cell_by plan) cells) < length cells
one_fewer plan [] c k h = absurd k
one_fewer plan (d ∷ cells) c (inl e) h =
    let rest = fewer plan cells in
    let gone : has_number plan.dropped d.column ≡ true = ap (λ (x : Cell). has_number plan.dropped x.column) e ∙ h in
    subst (λ b. length (cond b [] (record { column = column_by plan.moves d.column; value = d.value } ∷ []) ++ flat_map (cell_by plan) cells) < suc (length cells)) (sym gone) (omega arith)
one_fewer plan (d ∷ cells) c (inr k) h = by (has_number plan.dropped d.column) (one_fewer plan cells c k h)
  where
    by : (b : Bool) → length (flat_map (cell_by plan) cells) < length cells → length (cond b [] (record { column = column_by plan.moves d.column; value = d.value } ∷ []) ++ flat_map (cell_by plan) cells) < suc (length cells)
    by true rest = omega arith
    by false rest = omega arith

pub is_nil_none : {A : Type 0} (xs : List A) → is_nil xs ≡ true → xs ≡ []
is_nil_none [] h = refl
is_nil_none (x ∷ xs) h = cc

first_of : {A : Type 0} (xs : List A) → is_nil xs ≡ false → (x : A) × Has xs x
first_of [] h = cc
first_of (x ∷ xs) h = (x, inl refl)

nil_length : {A : Type 0} (xs : List A) → is_nil xs ≡ (length xs == 0)
nil_length [] = refl
nil_length (x ∷ xs) = differ (length xs)
  where
    differ : (n : ℕ) → false ≡ (suc n == 0)
    differ n = grind (arith, nat_tests)

placed_nil : (cells : List Cell) → is_nil (placed cells) ≡ is_nil cells
placed_nil cells = nil_length (placed cells) ∙ ap (λ n. n == 0) (length_permutation cells (placed cells) (placed_permuted cells)) ∙ sym (nil_length cells)

pub some_stay : (cells : List Cell) → is_nil cells ≡ false → readable cells ≡ cells
some_stay [] h = cc
some_stay (c ∷ cells) h = refl

module _ (plan : Plan) (cells : List Cell) (fresh : IsFresh plan cells) (some : is_nil cells ≡ false) (orderly : IsOrderly plan cells) (free : is_taken plan cells ≡ false) where
  placed_has : (c : Cell) → Has (loose_by plan cells) c → Has (placed (loose_by plan cells)) c
  placed_has c k = has_from_contains _ c (Contains-permutation (loose_by plan cells) (placed (loose_by plan cells)) c (placed_permuted (loose_by plan cells)) (contains_from_has (loose_by plan cells) c k))

  -- were they the same, a new column would have had a cell
  not_new : cells ≡ placed (loose_by plan cells) → (c : Cell) → Has (loose_by plan cells) c → has_number plan.taken c.column ≡ true → ⊥
  not_new e c k new = true_false (sym (has_any (λ c. has_number plan.taken c.column) cells c (subst (λ l. Has l c) (sym e) (placed_has c k)) new) ∙ free)

  none_added : cells ≡ placed (loose_by plan cells) → is_nil (defaults_by plan cells) ≡ true
  none_added e = by (is_nil (defaults_by plan cells)) refl
    where
      by : (b : Bool) → is_nil (defaults_by plan cells) ≡ b → is_nil (defaults_by plan cells) ≡ true
      by true h = h
      by false h =
          let r = first_of (defaults_by plan cells) h in
          absurd (not_new e r.0 (append_has (flat_map (cell_by plan) cells) (defaults_by plan cells) r.0 (inr r.1)) (fresh.defaults r.0 r.1))

  none_gone : cells ≡ placed (loose_by plan cells) → (c : Cell) → Has cells c → has_number plan.dropped c.column ≡ true → ⊥
  none_gone e c k h =
      let less = one_fewer plan cells c k h in
      let none = is_nil_none (defaults_by plan cells) (none_added e) in
      let all = ap length e ∙ length_permutation (loose_by plan cells) (placed (loose_by plan cells)) (placed_permuted (loose_by plan cells)) ∙ length-append (flat_map (cell_by plan) cells) (defaults_by plan cells) in
      let zero = ap length none in
      omega (arith, all, zero, less)

  none_touched : cells ≡ placed (loose_by plan cells) → list_any (touches plan) cells ≡ true → ⊥
  none_touched e h =
      let r = any_has (touches plan) cells h in
      let c = r.0 in
      go c r.1 (has_number plan.dropped c.column) refl (fresh.moves c.column) r.2
    where
      go : (c : Cell) → Has cells c → (b : Bool) → has_number plan.dropped c.column ≡ b → (column_by plan.moves c.column ≡ c.column) ⊎ (has_number plan.taken (column_by plan.moves c.column) ≡ true)
          → (b || not (int_eq (column_by plan.moves c.column) c.column)) ≡ true → ⊥
      go c k true gone there t = none_gone e c k gone
      go c k false stays (inl same) t = true_false (sym t ∙ ap not ((Decides-int_eq (column_by plan.moves c.column) c.column).1 same))
      go c k false stays (inr new) t =
          let now : Cell = record { column = column_by plan.moves c.column; value = c.value } in
          not_new e now
          (append_has (flat_map (cell_by plan) cells) (defaults_by plan cells) now
          (inl (into_flat_map (cell_by plan) cells c now k (subst (λ b. Has (cond b [] (now ∷ [])) now) (sym stays) (inl refl))))) new

  -- so the same cells were not touched
  untouched : cells ≡ placed (loose_by plan cells) → (list_any (touches plan) cells || not (is_nil (defaults_by plan cells))) ≡ false
  untouched e = by (list_any (touches plan) cells) refl
    where
      by : (b : Bool) → list_any (touches plan) cells ≡ b → (b || not (is_nil (defaults_by plan cells))) ≡ false
      by true h = absurd (none_touched e h)
      by false h = ap not (none_added e)

not_false : (b : Bool) → not b ≡ false → b ≡ true
not_false true h = refl
not_false false h = cc

-- ---- the flag tells whether they differ

pub differs_is : (plan : Plan) (cells : List Cell) → IsFresh plan cells → is_nil cells ≡ false → IsOrderly plan cells → differs plan cells ≡ not (same_cells cells (cells_by plan cells))
differs_is plan cells fresh some orderly = by_taken (is_taken plan cells) refl
  where
    bare : cells_by plan cells ≡ readable [] → not (is_bare cells) ≡ not (same_cells cells (cells_by plan cells))
    bare e = ap (λ l. not (same_cells cells l)) (sym e)

    by_touch : is_taken plan cells ≡ false → is_nil (loose_by plan cells) ≡ false → (b : Bool) → (list_any (touches plan) cells || not (is_nil (defaults_by plan cells))) ≡ b → b ≡ not (same_cells cells (cells_by plan cells))
    by_touch free filled true h = by (same_cells cells (cells_by plan cells)) refl
      where
        by : (b : Bool) → same_cells cells (cells_by plan cells) ≡ b → true ≡ not b
        by true e =
            let now : cells ≡ placed (loose_by plan cells) = same_are cells (cells_by plan cells) e ∙ sym (of_others plan cells free) ∙ some_stay (placed (loose_by plan cells)) (placed_nil (loose_by plan cells) ∙ filled) in
            absurd (true_false (sym h ∙ untouched plan cells fresh some orderly free now))
        by false e = refl
    by_touch free filled false h =
        let still = or_first (list_any (touches plan) cells) (not (is_nil (defaults_by plan cells))) h in
        let none = is_nil_none (defaults_by plan cells) (not_false _ (or_second (list_any (touches plan) cells) (not (is_nil (defaults_by plan cells))) h)) in
        sym (ap not (ap (same_cells cells) (sym (sym (some_stay cells some) ∙ of_same plan cells orderly free still none)) ∙ same_itself cells))

    by_nil : is_taken plan cells ≡ false → (b : Bool) → is_nil (loose_by plan cells) ≡ b → differs plan cells ≡ not (same_cells cells (cells_by plan cells))
    by_nil free true g =
        (λ i. cond (free i || g i) (not (is_bare cells)) (list_any (touches plan) cells || not (is_nil (defaults_by plan cells)))) ∙ bare (of_none plan cells free (is_nil_none (loose_by plan cells) g))
    by_nil free false g =
        (λ i. cond (free i || g i) (not (is_bare cells)) (list_any (touches plan) cells || not (is_nil (defaults_by plan cells))))
        ∙ by_touch free g (list_any (touches plan) cells || not (is_nil (defaults_by plan cells))) refl

    by_taken : (b : Bool) → is_taken plan cells ≡ b → differs plan cells ≡ not (same_cells cells (cells_by plan cells))
    by_taken true h =
        ap (λ b. cond (b || is_nil (loose_by plan cells)) (not (is_bare cells)) (list_any (touches plan) cells || not (is_nil (defaults_by plan cells)))) h ∙ bare (of_taken plan cells h)
    by_taken false h = by_nil h (is_nil (loose_by plan cells)) refl

-- Where a row is put among rows.
use Rattle.std.specs.Prelude.{◌≡◌, ℕ, suc, ◌+◌, ◌<◌, Bool, true, false, not, cond, List, [], ◌∷◌, ◌++◌, length, insert, slice_set, unwrap_or, position, Some, None, nat_lt, ◌≤◌, bytes_eq}
use Rattle.std.proofs.Common.{refl, sym, ap, subst, ◌∙◌, arith, get_or, Less, Equal, Greater}
use Rattle.std.specs.List.{position_or_len}
use Rattle.std.proofs.lemmas.Bool.Decides.{nat_tests}
use Rattle.std.proofs.lemmas.Slice.Eq.{bytes_eq-Decides}
use Rattle.std.proofs.lemmas.List.{get_or_default}
use Rattle.jpa_rows.proofs.laws.Facts.{by_cases}
use Rattle.jpa_cells.proofs.meaning.Rows.{equal, itself}
use Rattle.std.specs.declared.cmp.Ordering.{Ordering}
use Rattle.std.specs.Ordering.{is_eq, is_lt, match_ordering}
use Rattle.jpa_cells.specs.declared.meaning.CellRow.{CellRow}
use Rattle.jpa_cells.specs.meaning.Tables.{key_cmp, with_row}
use Rattle.jpa_opening.specs.migration.Places.{is_from}

module _ (new : CellRow) where
  abbrev from : List CellRow → ℕ
  from rows = position_or_len (is_from new.row) rows

  -- a row's cells are replaced at its place, or it stands there before the rows that are there
  abbrev pub put : List CellRow → ℕ → List CellRow
  put rows n = cond (is_eq (key_cmp (get_or rows n new).row new.row)) (slice_set rows n new) (insert rows n new)

  put_more : (r : CellRow) (rows : List CellRow) (n : ℕ) → put (r ∷ rows) (suc n) ≡ r ∷ put rows n
  put_more r rows n =
      elim (is_eq (key_cmp (get_or rows n new).row new.row)) as (λ b. cond b (r ∷ slice_set rows n new) (r ∷ insert rows n new) ≡ r ∷ cond b (slice_set rows n new) (insert rows n new)) [ true ↦ refl | false ↦ refl ]

  pub put_before : (rows : List CellRow) → from rows < length rows → with_row new rows ≡ put rows (from rows)
  put_before [] h = absurd (omega arith)
  put_before (r ∷ rows) h = go (key_cmp r.row new.row) refl h (put_before rows)
    where
      go : (o : Ordering) → key_cmp r.row new.row ≡ o → cond (not (not (is_lt o))) (1 + from rows) 0 < suc (length rows) → (from rows < length rows → with_row new rows ≡ put rows (from rows))
          → match_ordering o (r ∷ with_row new rows) (new ∷ rows) (new ∷ r ∷ rows) ≡ put (r ∷ rows) (cond (not (not (is_lt o))) (1 + from rows) 0)
      go Less e h more =
          let next : 1 + from rows ≡ suc (from rows) = omega arith in
          ap (λ l. r ∷ l) (more (omega arith)) ∙ sym (ap (put (r ∷ rows)) next ∙ put_more r rows (from rows))
      go Equal e h more = sym (ap (λ o. cond (is_eq o) (new ∷ rows) (new ∷ r ∷ rows)) e)
      go Greater e h more = sym (ap (λ o. cond (is_eq o) (new ∷ rows) (new ∷ r ∷ rows)) e)

  pub put_last : (rows : List CellRow) → from rows ≡ length rows → with_row new rows ≡ rows ++ new ∷ []
  put_last [] h = refl
  put_last (r ∷ rows) h = go (key_cmp r.row new.row) h (put_last rows)
    where
      go : (o : Ordering) → cond (not (not (is_lt o))) (1 + from rows) 0 ≡ suc (length rows) → (from rows ≡ length rows → with_row new rows ≡ rows ++ new ∷ [])
          → match_ordering o (r ∷ with_row new rows) (new ∷ rows) (new ∷ r ∷ rows) ≡ r ∷ rows ++ new ∷ []
      go Less h more = ap (λ l. r ∷ l) (more (omega arith))
      go Equal h more = absurd (omega arith)
      go Greater h more = absurd (omega arith)

-- tests of bytes
pub same_bytes : (a b : List ℕ) → bytes_eq a b ≡ is_eq (key_cmp a b)
same_bytes a b =
    let d = bytes_eq-Decides a b in
    by_cases (bytes_eq a b) (is_eq (key_cmp a b)) (λ h. subst (λ (c : List ℕ). is_eq (key_cmp a c) ≡ true) (d.0 h) (itself a)) (λ h. d.1 (equal a b h))

module _ (new : CellRow) (rows : List CellRow) (n : ℕ) (is : n ≡ position_or_len (is_from new.row) rows) where
  pub put_at_end : n ≡ length rows → rows ++ new ∷ [] ≡ with_row new rows
  put_at_end last = sym (put_last new rows (sym is ∙ last))

  there : (r : CellRow) (b : Bool) → n < length rows → r ≡ get_or rows n r → bytes_eq r.row new.row ≡ b → with_row new rows ≡ cond b (slice_set rows n new) (insert rows n new)
  there r b within read test =
      put_before new rows (omega (arith, is)) ∙ ap (put new rows) (sym is)
      ∙ ap (λ b. cond b (slice_set rows n new) (insert rows n new)) (ap (λ (x : CellRow). is_eq (key_cmp x.row new.row)) (get_or_default rows n new r within ∙ sym read) ∙ sym (same_bytes r.row new.row) ∙ test)

  pub put_over : (r : CellRow) → n < length rows → r ≡ get_or rows n r → bytes_eq r.row new.row ≡ true → slice_set rows n new ≡ with_row new rows
  put_over r within read test = sym (there r true within read test)

  pub put_between : (r : CellRow) → n < length rows → r ≡ get_or rows n r → bytes_eq r.row new.row ≡ false → insert rows n new ≡ with_row new rows
  put_between r within read test = sym (there r false within read test)

-- ---- the place of the first that passes, or the end

pub place_within : {X : Type 0} (p : X → Bool) (xs : List X) → position_or_len p xs ≤ length xs
place_within p [] = omega arith
place_within p (x ∷ xs) =
    let rest = place_within p xs in
    elim (p x) as (λ b. cond (not b) (1 + position_or_len p xs) 0 ≤ suc (length xs)) [ true ↦ omega arith | false ↦ omega arith ]

pub place_or_end : {X : Type 0} (p : X → Bool) (xs : List X) → unwrap_or (position p xs) (length xs) ≡ position_or_len p xs
place_or_end p xs = by (position_or_len p xs) (place_within p xs)
  where
    by : (n : ℕ) → n ≤ length xs → unwrap_or (cond (nat_lt n (length xs)) (Some n) None) (length xs) ≡ n
    by n h = grind (arith, nat_tests)

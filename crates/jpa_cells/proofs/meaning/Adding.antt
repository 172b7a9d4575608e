-- The rows of the entries so far, with one more entry.
use Rattle.std.proofs.Common.{inl, inr, ◌≡◌, ℕ, Bool, true, false, cond, List, [], ◌∷◌, ◌++◌, Option, Some, None, option_to_list, append-nil, append_assoc, refl, sym, ap, ◌∙◌, subst, is_eq}
use Rattle.std.proofs.lemmas.Bool.{cases_Bool}
use Rattle.jpa_cells.specs.declared.meaning.Cell.{Cell}
use Rattle.jpa_cells.specs.declared.meaning.CellRow.{CellRow}
use Rattle.jpa_cells.specs.meaning.Tables.{row_of, key_cmp}
use Rattle.jpa_cells.specs.meaning.Content.{Entry, joined, grouped, added}
use Rattle.jpa_cells.proofs.meaning.Rows.{equal, itself}

abbrev same : List ℕ → List ℕ → Bool
same a b = is_eq (key_cmp a b)

joined_added : (x e : Entry) (rows : List CellRow) → joined x (added rows e) ≡ added (joined x rows) e
joined_added x e [] = refl
joined_added x e (g ∷ []) = go (same x.0 g.row) refl
  where
    first : (b : Bool) → same x.0 g.row ≡ b → (rows : List CellRow) (r : CellRow) → r.row ≡ g.row → joined x (r ∷ rows) ≡ cond b (row_of x.0 (x.1 ∷ r.cells) ∷ rows) (row_of x.0 (x.1 ∷ []) ∷ r ∷ rows)
    first b is rows r key = ap (λ t. cond t (row_of x.0 (x.1 ∷ r.cells) ∷ rows) (row_of x.0 (x.1 ∷ []) ∷ r ∷ rows)) (ap (same x.0) key ∙ is)

    go : (b : Bool) → same x.0 g.row ≡ b → joined x (added (g ∷ []) e) ≡ added (cond b (row_of x.0 (x.1 ∷ g.cells) ∷ []) (row_of x.0 (x.1 ∷ []) ∷ g ∷ [])) e
    go true is =
        subst (λ t. joined x (cond (same g.row e.0) (row_of g.row (g.cells ++ e.1 ∷ []) ∷ []) (g ∷ row_of e.0 (e.1 ∷ []) ∷ [])) ≡ cond t (row_of x.0 (x.1 ∷ (g.cells ++ e.1 ∷ [])) ∷ []) (row_of x.0 (x.1 ∷ g.cells) ∷ row_of e.0 (e.1 ∷ []) ∷ []))
        (ap (λ k. same k e.0) (sym (equal x.0 g.row is)))
        (elim (same g.row e.0) as (λ a. joined x (cond a (row_of g.row (g.cells ++ e.1 ∷ []) ∷ []) (g ∷ row_of e.0 (e.1 ∷ []) ∷ [])) ≡ cond a (row_of x.0 (x.1 ∷ (g.cells ++ e.1 ∷ [])) ∷ []) (row_of x.0 (x.1 ∷ g.cells) ∷ row_of e.0 (e.1 ∷ []) ∷ []))
        [ true ↦ first true is [] (row_of g.row (g.cells ++ e.1 ∷ [])) refl | false ↦ first true is (row_of e.0 (e.1 ∷ []) ∷ []) g refl ])
    go false is =
        elim (same g.row e.0) as (λ a. joined x (cond a (row_of g.row (g.cells ++ e.1 ∷ []) ∷ []) (g ∷ row_of e.0 (e.1 ∷ []) ∷ [])) ≡ row_of x.0 (x.1 ∷ []) ∷ cond a (row_of g.row (g.cells ++ e.1 ∷ []) ∷ []) (g ∷ row_of e.0 (e.1 ∷ []) ∷ []))
        [ true ↦ first false is [] (row_of g.row (g.cells ++ e.1 ∷ [])) refl | false ↦ first false is (row_of e.0 (e.1 ∷ []) ∷ []) g refl ]
joined_added x e (g ∷ h ∷ rest) =
    elim (same x.0 g.row) as (λ b. cond b (row_of x.0 (x.1 ∷ g.cells) ∷ added (h ∷ rest) e) (row_of x.0 (x.1 ∷ []) ∷ g ∷ added (h ∷ rest) e) ≡ added (cond b (row_of x.0 (x.1 ∷ g.cells) ∷ h ∷ rest) (row_of x.0 (x.1 ∷ []) ∷ g ∷ h ∷ rest)) e)
    [ true ↦ refl | false ↦ refl ]

pub grouped_added : (es : List Entry) (e : Entry) → grouped (es ++ e ∷ []) ≡ added (grouped es) e
grouped_added [] e = refl
grouped_added (x ∷ es) e = ap (joined x) (grouped_added es e) ∙ joined_added x e (grouped es)

abbrev Last : Bool → CellRow → Entry → List CellRow
Last b last e = cond b (row_of last.row (last.cells ++ e.1 ∷ []) ∷ []) (last ∷ row_of e.0 (e.1 ∷ []) ∷ [])

added_last : (front : List CellRow) (last : CellRow) (e : Entry) → added (front ++ last ∷ []) e ≡ front ++ Last (same last.row e.0) last e
added_last [] last e = refl
added_last (f ∷ []) last e = refl
added_last (f ∷ g ∷ front) last e = ap (λ l. f ∷ l) (added_last (g ∷ front) last e)

-- the last row takes the entry's cell
pub added_to : (front : List CellRow) (last : CellRow) (key : List ℕ) (cell : Cell) → last.row ≡ key → added (front ++ last ∷ []) (key, cell) ≡ front ++ row_of last.row (last.cells ++ cell ∷ []) ∷ []
added_to front last key cell is = added_last front last (key, cell) ∙ ap (λ b. front ++ Last b last (key, cell)) (subst (λ k. same last.row k ≡ true) is (itself last.row))

-- or it is the first of a row of its own
pub added_after : (front : List CellRow) (last : CellRow) (key : List ℕ) (cell : Cell) → (last.row ≡ key → ⊥) → added (front ++ last ∷ []) (key, cell) ≡ front ++ last ∷ row_of key (cell ∷ []) ∷ []
added_after front last key cell other =
    added_last front last (key, cell)
    ∙ elim (cases_Bool (same last.row key)) [ inl is ↦ absurd (other (equal last.row key is)) | inr not ↦ ap (λ b. front ++ Last b last (key, cell)) not ]

-- an entry after rows goes to the last of them
pub added_behind : (front : List CellRow) (begun : Option CellRow) (e : Entry) → (begun ≡ None → front ≡ []) → added (front ++ option_to_list begun) e ≡ front ++ added (option_to_list begun) e
added_behind front None e fresh = subst (λ f. added (f ++ []) e ≡ f ++ added [] e) (sym (fresh refl)) refl
added_behind front (Some last) e fresh = added_last front last e

-- all rows but the last stay, whatever entries follow
pub finished_stay : (es tail : List Entry) (front : List CellRow) (last : CellRow) → grouped es ≡ front ++ last ∷ [] → (rest : List CellRow) × (grouped (es ++ tail) ≡ front ++ rest)
finished_stay es [] front last is = (last ∷ [], ap grouped (append-nil es) ∙ is)
finished_stay es (e ∷ tail) front last is =
    let more = go (finished_stay (es ++ e ∷ []) tail) (same last.row e.0) (grouped_added es e ∙ ap (λ l. added l e) is ∙ added_last front last e) in
    (more.0, ap grouped (sym (append_assoc es (e ∷ []) tail)) ∙ more.1)
  where
    go : ((front : List CellRow) (last : CellRow) → grouped (es ++ e ∷ []) ≡ front ++ last ∷ [] → (rest : List CellRow) × (grouped ((es ++ e ∷ []) ++ tail) ≡ front ++ rest))
        → (b : Bool) → grouped (es ++ e ∷ []) ≡ front ++ Last b last e → (rest : List CellRow) × (grouped ((es ++ e ∷ []) ++ tail) ≡ front ++ rest)
    go next true here = next front (row_of last.row (last.cells ++ e.1 ∷ [])) here
    go next false here =
        let more = next (front ++ last ∷ []) (row_of e.0 (e.1 ∷ [])) (here ∙ sym (append_assoc front (last ∷ []) (row_of e.0 (e.1 ∷ []) ∷ []))) in
        (last ∷ more.0, more.1 ∙ append_assoc front (last ∷ []) more.0)

-- rows of which none but the one begun can change
pub rest_of : (es tail : List Entry) (front : List CellRow) (begun : Option CellRow) → grouped es ≡ front ++ option_to_list begun → (begun ≡ None → front ≡ []) → (rest : List CellRow) × (grouped (es ++ tail) ≡ front ++ rest)
rest_of es tail front None is fresh = (grouped (es ++ tail), sym (ap (λ f. f ++ grouped (es ++ tail)) (fresh refl)))
rest_of es tail front (Some last) is fresh = finished_stay es tail front last is

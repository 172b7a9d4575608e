-- The entries of a table, in groups by their keys, are its rows.
use Rattle.std.proofs.Common.{◌≡◌, ℕ, Bool, true, false, cond, List, [], ◌∷◌, length, map, filter, refl, sym, ap, ◌∙◌, subst, Ordering, Less, Equal, Greater, is_eq, is_gt, is_lt, true≢false, arith}
use Rattle.std.specs.List.{AllByRecursion}
use Rattle.std.specs.Ordering.{ordering_then}
use Rattle.std.specs.FinMap.{nat_cmp-IsAntisymmetric, slice_cmp-IsAntisymmetric}
use Rattle.std.proofs.lemmas.Cmp.{nat_list_cmp_total}
use Rattle.sqlite.specs.Tree.{IsAscending}
use Rattle.sqlite_keyed.proofs.ListLemmas.{all_weaker}
use Rattle.jpa_cells.proofs.meaning.RowMeaning.{tie}
use Rattle.jpa_cells.specs.declared.meaning.Cell.{Cell}
use Rattle.jpa_cells.specs.declared.meaning.CellRow.{CellRow}
use Rattle.jpa_cells.specs.meaning.Tables.{row_of, key_cmp, cells_at}
use Rattle.jpa_cells.specs.meaning.Content.{Entry, entry_cmp, joined, grouped}
use Rattle.jpa_cells.proofs.meaning.Entries.{is_under, under}
use Rattle.jpa_cells.proofs.meaning.Contents.{turned}

-- rows that rise, none without a cell, and under each key the cells of this map
pub record Shows (all : List ℕ → List Cell) (rows : List CellRow) : Type 0 where
  pub rise : IsAscending (λ (a b : CellRow). key_cmp a.row b.row ≡ Less) rows
  pub full : AllByRecursion (λ (r : CellRow). length r.cells ≡ 0 → ⊥) rows
  pub same : (key : List ℕ) → cells_at key rows ≡ all key

-- a key has P in the groups where it has it in the entries
all_joined : (P : List ℕ → Type 0) (e : Entry) (gs : List CellRow) → P e.0 → AllByRecursion (λ (g : CellRow). P g.row) gs → AllByRecursion (λ (g : CellRow). P g.row) (joined e gs)
all_joined P e [] h all = (h, tt)
all_joined P e (g ∷ gs) h all =
    elim (is_eq (key_cmp e.0 g.row)) as (λ b. AllByRecursion (λ (x : CellRow). P x.row) (cond b (row_of e.0 (e.1 ∷ g.cells) ∷ gs) (row_of e.0 (e.1 ∷ []) ∷ g ∷ gs))) [ true ↦ (h, all.1) | false ↦ (h, all) ]

all_grouped : (P : List ℕ → Type 0) (es : List Entry) → AllByRecursion (λ (e : Entry). P e.0) es → AllByRecursion (λ (g : CellRow). P g.row) (grouped es)
all_grouped P [] all = tt
all_grouped P (e ∷ es) all = all_joined P e (grouped es) all.0 (all_grouped P es all.1)

not_above : (x y : Ordering) → ordering_then x y ≡ Less → is_gt x ≡ false
not_above Less y h = refl
not_above Equal y h = refl
not_above Greater y h = absurd (true≢false (ap is_lt (sym h)))

less : (o : Ordering) → is_gt o ≡ false → is_eq o ≡ false → o ≡ Less
less Less p q = refl
less Equal p q = absurd (true≢false q)
less Greater p q = absurd (true≢false p)

none_at : (key : List ℕ) (gs : List CellRow) → AllByRecursion (λ (g : CellRow). key_cmp key g.row ≡ Less) gs → cells_at key gs ≡ []
none_at key [] all = refl
none_at key (g ∷ gs) all = ap (λ o. cond (is_eq o) g.cells (cells_at key gs)) all.0 ∙ none_at key gs all.1

either_way : (a b : List ℕ) → is_eq (key_cmp a b) ≡ is_eq (key_cmp b a)
either_way a b = ap is_eq (nat_list_cmp_total.antisymm a b) ∙ turned (key_cmp b a)

under_first : (key : List ℕ) (e : Entry) (es : List Entry) → under key (e ∷ es) ≡ cond (is_eq (key_cmp key e.0)) (e.1 ∷ under key es) (under key es)
under_first key e es =
    elim (is_under key e) as (λ b. map (λ (x : Entry). x.1) (cond b (e ∷ filter (is_under key) es) (filter (is_under key) es)) ≡ cond b (e.1 ∷ under key es) (under key es)) [ true ↦ refl | false ↦ refl ]
    ∙ ap (λ b. cond b (e.1 ∷ under key es) (under key es)) (either_way e.0 key)

joins : (e : Entry) (es : List Entry) (gs : List CellRow) → AllByRecursion (λ (g : CellRow). is_gt (key_cmp e.0 g.row) ≡ false) gs → Shows (λ k. under k es) gs → Shows (λ k. under k (e ∷ es)) (joined e gs)
joins e es [] above h = record {
  rise = (tt, tt);
  full = ((λ n. omega (arith, n)), tt);
  same = λ k. ap (λ l. cond (is_eq (key_cmp k e.0)) (e.1 ∷ l) l) (h.same k) ∙ sym (under_first k e es);
}
joins e es (g ∷ gs) above h = go (is_eq (key_cmp e.0 g.row)) refl
  where
    go : (b : Bool) → is_eq (key_cmp e.0 g.row) ≡ b → Shows (λ k. under k (e ∷ es)) (cond b (row_of e.0 (e.1 ∷ g.cells) ∷ gs) (row_of e.0 (e.1 ∷ []) ∷ g ∷ gs))
    go true is =
        let keys : e.0 ≡ g.row = slice_cmp-IsAntisymmetric nat_cmp-IsAntisymmetric e.0 g.row (tie _ is) in
        record {
          rise = (subst (λ k. AllByRecursion (λ (x : CellRow). key_cmp k x.row ≡ Less) gs) (sym keys) h.rise.0, h.rise.1);
          full = ((λ n. omega (arith, n)), h.full.1);
          same = λ k.
              let split = λ (b : Bool). cond b (e.1 ∷ g.cells) (cells_at k gs) in
              let rest : cond (is_eq (key_cmp k e.0)) g.cells (cells_at k gs) ≡ under k es = ap (λ x. cond (is_eq (key_cmp k x)) g.cells (cells_at k gs)) keys ∙ h.same k in
              elim (is_eq (key_cmp k e.0)) as (λ b. cond b (e.1 ∷ g.cells) (cells_at k gs) ≡ cond b (e.1 ∷ cond b g.cells (cells_at k gs)) (cond b g.cells (cells_at k gs))) [ true ↦ refl | false ↦ refl ]
              ∙ ap (λ l. cond (is_eq (key_cmp k e.0)) (e.1 ∷ l) l) rest ∙ sym (under_first k e es);
        }
    go false is =
        let first : key_cmp e.0 g.row ≡ Less = less _ above.0 is in
        let all : AllByRecursion (λ (x : CellRow). key_cmp e.0 x.row ≡ Less) (g ∷ gs) = (first, all_weaker (λ (x : CellRow). key_cmp g.row x.row ≡ Less) (λ (x : CellRow). key_cmp e.0 x.row ≡ Less) (λ x. nat_list_cmp_total.trans e.0 g.row x.row first) gs h.rise.0) in
        record {
          rise = (all, h.rise);
          full = ((λ n. omega (arith, n)), h.full);
          same = λ k. other all k (is_eq (key_cmp k e.0)) refl ∙ ap (λ l. cond (is_eq (key_cmp k e.0)) (e.1 ∷ l) l) (h.same k) ∙ sym (under_first k e es);
        }
      where
        other : AllByRecursion (λ (x : CellRow). key_cmp e.0 x.row ≡ Less) (g ∷ gs) → (k : List ℕ) (b : Bool) → is_eq (key_cmp k e.0) ≡ b
            → cond (is_eq (key_cmp k e.0)) (e.1 ∷ []) (cells_at k (g ∷ gs)) ≡ cond (is_eq (key_cmp k e.0)) (e.1 ∷ cells_at k (g ∷ gs)) (cells_at k (g ∷ gs))
        other all k true same =
            let key : k ≡ e.0 = slice_cmp-IsAntisymmetric nat_cmp-IsAntisymmetric k e.0 (tie _ same) in
            let none : cells_at k (g ∷ gs) ≡ [] = subst (λ x. cells_at x (g ∷ gs) ≡ []) (sym key) (none_at e.0 (g ∷ gs) all) in
            ap (λ l. cond (is_eq (key_cmp k e.0)) (e.1 ∷ l) (cells_at k (g ∷ gs))) (sym none)
        other all k false same = ap (λ t. cond t (e.1 ∷ []) (cells_at k (g ∷ gs))) same ∙ sym (ap (λ t. cond t (e.1 ∷ cells_at k (g ∷ gs)) (cells_at k (g ∷ gs))) same)

pub rows_grouped : (es : List Entry) → IsAscending (λ a b. entry_cmp a b ≡ Less) es → Shows (λ k. under k es) (grouped es)
rows_grouped [] up = record { rise = tt; full = tt; same = λ k. refl }
rows_grouped (e ∷ es) up =
    joins e es (grouped es) (all_grouped (λ k. is_gt (key_cmp e.0 k) ≡ false) es (all_weaker (λ f. entry_cmp e f ≡ Less) _ (λ f h. not_above _ _ h) es up.0)) (rows_grouped es up.1)

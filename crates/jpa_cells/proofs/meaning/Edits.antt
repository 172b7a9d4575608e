-- What an INSERT and a DELETE make of the rows.
use Rattle.std.proofs.Common.{◌≡◌, ◌&&◌, ◌||◌, inl, inr, ℕ, ℤ, Bool, true, false, not, cond, List, [], ◌∷◌, filter, refl, sym, ap, ap₂, ◌∙◌, subst, Ordering, Less, Equal, Greater, is_eq, is_lt, true≢false, IsPermutation}
use Rattle.std.specs.List.{AllByRecursion, list_any}
use Rattle.std.specs.Ordering.{ordering_reverse, match_ordering}
use Rattle.std.proofs.lemmas.Bool.{or_parts, cases_Bool}
use Rattle.std.proofs.lemmas.Cmp.{tied_itself}
use Rattle.std.proofs.lemmas.List.Sorted.{IsPermutation-refl, IsPermutation-cons, IsPermutation-trans, IsPermutation-middle}
use Rattle.sqlite.specs.declared.types.Value.TheVariants.{Int, Blob}
use Rattle.sqlite.specs.Order.{Row, column, value_cmp}
use Rattle.sqlite.specs.Tree.{IsTable, rowid, has_rowid, put_row, without_rowid}
use Rattle.sqlite.specs.Edit.{is_taken, without_all, id_in}
use Rattle.sqlite_value.proofs.OrderLemmas.{value_cmp_total, value_cmp-Int, value_cmp-Blob}
use Rattle.sqlite_rules.specs.Lists.{Has}
use Rattle.sqlite_rules.specs.Calls.{ids_of}
use Rattle.sqlite_rules.proofs.ListLemmas.{all_has, all_from, some_has, some_from}
use Rattle.sqlite_rules.proofs.ProbeLemmas.{has_mapped, mapped_has}
use Rattle.sqlite_keyed.proofs.ListLemmas.{all_weaker, filter_all}
use Rattle.jpa_cells.proofs.meaning.RowMeaning.{tie}
use Rattle.jpa_cells.specs.meaning.Content.{is_of, is_same, IsCellRow, AreCells, AreInOrder}
use Rattle.sqlite.specs.Values.{IsInt}

abbrev Put : Ordering → Row → Row → List Row → List Row
Put o new r rows = match_ordering o (r ∷ put_row new rows) (new ∷ rows) (new ∷ r ∷ rows)

pub all-put : (P : Row → Type 0) (new : Row) (rows : List Row) → P new → AllByRecursion P rows → AllByRecursion P (put_row new rows)
all-put P new [] h all = (h, tt)
all-put P new (r ∷ rows) h all =
    elim (value_cmp (rowid r) (rowid new)) as (λ o. AllByRecursion P (Put o new r rows)) [ Less ↦ (all.0, all-put P new rows h all.1) | Equal ↦ (h, all.1) | Greater ↦ (h, all) ]

-- at a free rowid
pub put_permutes : (new : Row) (rows : List Row) → is_taken rows new ≡ false → IsPermutation (new ∷ rows) (put_row new rows)
put_permutes new [] free = IsPermutation-refl _
put_permutes new (r ∷ rows) free = go (value_cmp (rowid r) (rowid new)) (or_parts _ _ free).0 (put_permutes new rows (or_parts _ _ free).1)
  where
    go : (o : Ordering) → is_eq o ≡ false → IsPermutation (new ∷ rows) (put_row new rows) → IsPermutation (new ∷ r ∷ rows) (Put o new r rows)
    go Less h more = IsPermutation-trans _ _ _ (IsPermutation-middle (new ∷ []) r rows) (IsPermutation-cons r _ _ more)
    go Equal h more = absurd (true≢false h)
    go Greater h more = IsPermutation-refl _

put_table : (new : Row) (rows : List Row) → IsTable rows → IsTable (put_row new rows)
put_table new [] up = (tt, tt)
put_table new (r ∷ rows) up = go (value_cmp (rowid r) (rowid new)) refl (put_table new rows up.1)
  where
    below : Row → Row → Type 0
    below a b = value_cmp (rowid a) (rowid b) ≡ Less

    go : (o : Ordering) → value_cmp (rowid r) (rowid new) ≡ o → IsTable (put_row new rows) → IsTable (Put o new r rows)
    go Less e more = (all-put (λ b. value_cmp (rowid r) (rowid b) ≡ Less) new rows e up.0, more)
    go Equal e more = (all_weaker _ (λ b. value_cmp (rowid new) (rowid b) ≡ Less) (λ b h. sym (value_cmp_total.congr (rowid r) (rowid new) (rowid b) e) ∙ h) rows up.0, up.1)
    go Greater e more =
        let first = value_cmp_total.antisymm (rowid new) (rowid r) ∙ ap ordering_reverse e in
        ((first, all_weaker _ (λ b. value_cmp (rowid new) (rowid b) ≡ Less) (λ b. value_cmp_total.trans (rowid new) (rowid r) (rowid b) first) rows up.0), up)

pub order_put : (new : Row) (rows : List Row) → IsInt (rowid new) → AreInOrder rows → AreInOrder (put_row new rows)
order_put new rows h o = record { rise = put_table new rows o.rise; numbered = all-put (λ r. IsInt (rowid r)) new rows h o.numbered }

module _ {X : Type 0} where
  pub filter_same_on : (p q : X → Bool) (xs : List X) → AllByRecursion (λ x. p x ≡ q x) xs → filter p xs ≡ filter q xs
  filter_same_on p q [] all = refl
  filter_same_on p q (x ∷ xs) all = ap₂ (λ b l. cond b (x ∷ l) l) all.0 (filter_same_on p q xs all.1)

  filter_twice : (f g : X → Bool) (xs : List X) → filter (λ x. not (f x)) (filter (λ x. not (g x)) xs) ≡ filter (λ x. not (g x || f x)) xs
  filter_twice f g [] = refl
  filter_twice f g (x ∷ xs) =
      elim (g x) as (λ b. filter (λ y. not (f y)) (cond (not b) (x ∷ filter (λ y. not (g y)) xs) (filter (λ y. not (g y)) xs)) ≡ cond (not (b || f x)) (x ∷ filter (λ y. not (g y || f y)) xs) (filter (λ y. not (g y || f y)) xs)) [
        | true ↦ filter_twice f g xs
        | false ↦ ap (λ l. cond (not (f x)) (x ∷ l) l) (filter_twice f g xs)
      ]

bool_same : (a b : Bool) → (b ≡ true → a ≡ true) → (b ≡ false → a ≡ false) → a ≡ b
bool_same a true f g = f refl
bool_same a false f g = g refl

pub without_filter : (ids : List ℤ) (rows : List Row) → without_all rows ids ≡ filter (λ r. not (list_any (λ id. has_rowid id r) ids)) rows
without_filter [] rows = sym (filter_all (λ r. true) rows (all_from _ rows (λ r h. refl)))
without_filter (id ∷ ids) rows = without_filter ids (without_rowid id rows) ∙ filter_twice (λ r. list_any (λ id. has_rowid id r) ids) (has_rowid id) rows

-- two rows of a table with one rowid are one row
same_row : (rows : List Row) (a b : Row) → IsTable rows → Has rows a → Has rows b → value_cmp (rowid a) (rowid b) ≡ Equal → a ≡ b
same_row [] a b up p q e = absurd p
same_row (r ∷ rows) a b up (inl p) (inl q) e = p ∙ sym q
same_row (r ∷ rows) a b up (inl p) (inr q) e =
    absurd (true≢false (sym (ap is_lt (subst (λ x. value_cmp (rowid x) (rowid b) ≡ Less) (sym p) (all_has (λ y. value_cmp (rowid r) (rowid y) ≡ Less) rows b up.0 q))) ∙ ap is_lt e))
same_row (r ∷ rows) a b up (inr p) (inl q) e =
    let below = subst (λ x. value_cmp (rowid x) (rowid a) ≡ Less) (sym q) (all_has (λ y. value_cmp (rowid r) (rowid y) ≡ Less) rows a up.0 p) in
    absurd (true≢false (sym (ap is_lt below) ∙ ap is_lt (value_cmp_total.antisymm (rowid b) (rowid a) ∙ ap ordering_reverse e)))
same_row (r ∷ rows) a b up (inr p) (inr q) e = same_row rows a b up.1 p q e

pub own_id : (r : Row) → IsCellRow r → rowid r ≡ Int (id_in (rowid r))
own_id r h = subst (λ x. rowid x ≡ Int (id_in (rowid x))) (sym h.is) refl

-- taking out the rowids that a test finds leaves the rows that fail the test
pub left_rows : (test : Row → Bool) (rows found : List Row) → AreCells rows → ((x : Row) → Has found x → (r : Row) × Has rows r × (test r ≡ true) × (x ≡ rowid r ∷ []))
    → ((r : Row) → Has rows r → test r ≡ true → Has found (rowid r ∷ [])) → without_all rows (ids_of found) ≡ filter (λ r. not (test r)) rows
left_rows test rows found cells sound complete =
    without_filter (ids_of found) rows ∙ filter_same_on _ _ rows (all_from (λ r. not (list_any (λ id. has_rowid id r) (ids_of found)) ≡ not (test r)) rows (λ r h. ap not (bool_same _ _ (finds r h) (misses r h))))
  where
    is_cell : (r : Row) → Has rows r → IsCellRow r
    is_cell r h = all_has IsCellRow rows r cells.each h

    finds : (r : Row) → Has rows r → test r ≡ true → list_any (λ id. has_rowid id r) (ids_of found) ≡ true
    finds r h passes =
        some_from (λ id. has_rowid id r) (ids_of found) (id_in (rowid r)) (mapped_has (λ x. id_in (rowid x)) found (rowid r ∷ []) (complete r h passes))
        (subst (λ v. is_eq (value_cmp v (Int (id_in v))) ≡ true) (sym (own_id r (is_cell r h))) (ap is_eq (tied_itself value_cmp_total (Int (id_in (rowid r))))))

    misses : (r : Row) → Has rows r → test r ≡ false → list_any (λ id. has_rowid id r) (ids_of found) ≡ false
    misses r h fails = elim (cases_Bool (list_any (λ id. has_rowid id r) (ids_of found))) [
      | inr none ↦ none
      | inl some ↦
          let it = some_has (λ id. has_rowid id r) (ids_of found) some in
          let x = has_mapped (λ y. id_in (rowid y)) found it.0 it.1 in
          let other = sound x.0 x.1 in
          let id : Int it.0 ≡ rowid other.0 = ap Int x.2 ∙ ap (λ (y : Row). Int (id_in (rowid y))) other.3 ∙ sym (own_id other.0 (is_cell other.0 other.1)) in
          let same = same_row rows r other.0 cells.rise h other.1 (ap (value_cmp (rowid r)) (sym id) ∙ tie _ it.2) in
          absurd (true≢false (sym other.2 ∙ ap test (sym same) ∙ fails))
    ]

-- ---- the cells of a row, after each

pub is_of_new : (id table : ℤ) (key : List ℕ) (column : ℤ) (value : List ℕ) (t : ℤ) (k : List ℕ) → is_of t k (Int id ∷ Int table ∷ Blob key ∷ Int column ∷ Blob value ∷ []) ≡ is_same table key t k
is_of_new id table key column value t k = ap₂ (λ a b. is_eq a && is_eq b) (value_cmp-Int table t) (value_cmp-Blob key k)

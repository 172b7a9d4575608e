-- A merge of rows with the changes over them, row by row; and the rows of one table alone.
use Rattle.std.specs.Prelude.{◌≡◌, ℕ, ◌<◌, ◌≤◌, Bool, true, false, not, cond, ◌==◌, T, [], ◌∷◌, ◌++◌, Option, Some, None}
use Rattle.std.proofs.Common.{refl, sym, ap, subst, ◌∙◌, arith, inl, inr, ltb, leb, get_or, take, drop, Less, Equal, Greater}
use Rattle.std.proofs.lemmas.Bool.{cases_lt}
use Rattle.std.proofs.lemmas.Bool.Decides.{nat_tests}
use Rattle.std.proofs.lemmas.List.{append_assoc, append-nil, take-append-drop}
use Rattle.std.specs.List.{AllByRecursion, filter}
use Rattle.std.specs.List.Sorted.{IsNonDecreasingBy, IsPartitionPoint}
use Rattle.std.specs.Cmp.{ranked}
use Rattle.std.specs.FinMap.{find}
use Rattle.std.specs.FinMap.Entries.{below_all, is_sorted, where_key, find-where_key, is_sorted-where_key}
use Rattle.std.specs.Ordering.{eq_by_cmp, is_eq, is_lt, nat_cmp, ordering_reverse, ordering_then}
use Rattle.std.specs.declared.cmp.Ordering.{Ordering}
use Rattle.jpa_value.specs.Value.{identity_cmp, key_cmp, same_identity}
use Rattle.jpa_value.proofs.Orders.{identity_total, identity_exact}
use Rattle.jpa_stored.proofs.objects.Entries.{rising_at}
use Rattle.jpa_rows.specs.rows.Rows.{RowId, Row, Rows, AreRising, table_rows}
use Rattle.jpa_rows.specs.laws.Changes.{over}
use Rattle.jpa_rows.proofs.laws.Facts.{is_equal, is_less, first_holds, second_holds, both_hold}
use Rattle.jpa_rows.proofs.laws.Maps.{same_answers}
use Rattle.jpa_rows.proofs.laws.Overlay.{found_seen, seen_rises, merge_row, merge_made, merge_gone}
use Rattle.jpa_rows.specs.overlay.Overlay.{Changes, rows_under, row_if, rows_put, row_unless, stands_first}
use Rattle.jpa_rows.proofs.overlay.Changes.{ids}
use Rattle.jpa_rows.proofs.rows.Splits.{all_then, front_passes, rest_fails, rest_rises, same_place}
use Rattle.jpa_rows.proofs.overlay.Splits.{below_less, all_front, all_both, passing, failing, passing_both}

-- ---- changes of rows before all that are left

first_change : (id : RowId) (row : Option Row) (base : Rows) (cs : Changes) → T (below_all identity_cmp id base) → T (below_all identity_cmp id cs)
    → rows_under ((id, row) ∷ cs) base ≡ row_if id row ++ rows_under cs base
first_change id None base cs h g = merge_gone ids id base cs h g
first_change id (Some row) base cs h g = merge_made ids id row base cs h g

pub changes_before : (base : Rows) (front back : Changes) → T (is_sorted identity_cmp (front ++ back)) → AllByRecursion (λ c. T (below_all identity_cmp c.0 base)) front
    → rows_under (front ++ back) base ≡ rows_put front ++ rows_under back base
changes_before base [] back h b = refl
changes_before base (c ∷ front) back h b =
    first_change c.0 c.1 base (front ++ back) b.0 (first_holds _ _ h)
    ∙ ap (λ rest. row_if c.0 c.1 ++ rest) (changes_before base front back (second_holds _ _ h) b.1)
    ∙ sym (append_assoc (row_if c.0 c.1) (rows_put front) (rows_under back base))

-- where no row is left, the changes give the rows that they put
pub all_put : (cs : Changes) → T (is_sorted identity_cmp cs) → rows_under cs [] ≡ rows_put cs
all_put [] h = refl
all_put (c ∷ cs) h = first_change c.0 c.1 [] cs tt (first_holds _ _ h) ∙ ap (λ rest. row_if c.0 c.1 ++ rest) (all_put cs (second_holds _ _ h))

-- ---- the next row

-- what stood under the id of a change is not seen
over_cond : (b : Bool) (new : Option Row) (o : Option (Option Row)) (row : Option Row) (below : Option Row) → over (cond b (Some new) o) (cond b row below) ≡ over (cond b (Some new) o) below
over_cond true new o row below = refl
over_cond false new o row below = refl

hidden : (id : RowId) (row : Row) (rows : Rows) → AreRising ((id, row) ∷ rows) → (c : RowId × Option Row) (cs : Changes) → c.0 ≡ id → rows_under (c ∷ cs) ((id, row) ∷ rows) ≡ rows_under (c ∷ cs) rows
hidden id row rows rise c cs e =
    same_answers ids _ _ (seen_rises ids ((id, row) ∷ rows) (c ∷ cs) rise) (seen_rises ids rows (c ∷ cs) (second_holds _ _ rise))
    (λ q. found_seen ids q ((id, row) ∷ rows) (c ∷ cs)
    ∙ ap (λ k. over (cond (eq_by_cmp identity_cmp q c.0) (Some c.1) (find identity_cmp q cs)) (cond (eq_by_cmp identity_cmp q k) (Some row) (find identity_cmp q rows))) (sym e)
    ∙ over_cond (eq_by_cmp identity_cmp q c.0) c.1 (find identity_cmp q cs) (Some row) (find identity_cmp q rows)
    ∙ sym (found_seen ids q rows (c ∷ cs)))

not_less : (r : Ordering) → is_lt r ≡ false → is_eq r ≡ false → r ≡ Greater
not_less Less e f = absurd (subst (λ b. T (not b)) (sym e) tt)
not_less Equal e f = absurd (subst (λ b. T (not b)) (sym f) tt)
not_less Greater e f = refl

pub next_row : (id : RowId) (row : Row) (rows : Rows) → AreRising ((id, row) ∷ rows) → (cs : Changes) → T (is_sorted identity_cmp cs) → AllByRecursion (λ c. is_lt (identity_cmp c.0 id) ≡ false) cs
    → rows_under cs ((id, row) ∷ rows) ≡ row_unless (stands_first id cs) id row ++ rows_under cs rows
next_row id row rows rise [] sorted h = refl
next_row id row rows rise (c ∷ cs) sorted h =
    elim (same_identity c.0 id) as (λ b. same_identity c.0 id ≡ b → rows_under (c ∷ cs) ((id, row) ∷ rows) ≡ cond b [] ((id, row) ∷ []) ++ rows_under (c ∷ cs) rows) [
      | true ↦ λ e. hidden id row rows rise c cs (identity_exact c.0 id (is_equal _ e))
      | false ↦ λ e.
          let after : identity_cmp id c.0 ≡ Less = identity_total.antisymm id c.0 ∙ ap ordering_reverse (not_less _ h.0 e) in
          merge_row ids (id, row) rows (c ∷ cs) (both_hold _ _ (subst (λ r. T (is_lt r)) (sym after) tt) (below_less identity_total id c.0 cs after (first_holds _ _ sorted)))
    ] refl

pub merged_row : (left : Changes) (k : ℕ) (id : RowId) (row : Row) (old new : Rows) → T (is_sorted identity_cmp left)
    → AllByRecursion (λ c. is_lt (identity_cmp c.0 id) ≡ true) (take k left) → AllByRecursion (λ c. is_lt (identity_cmp c.0 id) ≡ false) (drop k left)
    → new ≡ old ++ rows_put (take k left) ++ row_unless (stands_first id (drop k left)) id row
    → (rows : Rows) → AreRising ((id, row) ∷ rows) → new ++ rows_under (drop k left) rows ≡ old ++ rows_under left ((id, row) ∷ rows)
merged_row left k id row old new sorted front back e rows rise =
    let split = take-append-drop k left in
    let base = (id, row) ∷ rows in
    let own = row_unless (stands_first id (drop k left)) id row in
    let below : AllByRecursion (λ c. T (below_all identity_cmp c.0 base)) (take k left) =
    all_then (λ c. is_lt (identity_cmp c.0 id) ≡ true) (λ c. T (below_all identity_cmp c.0 base))
    (λ c l. let less = subst T (sym l) tt in both_hold _ _ less (below_less identity_total c.0 id rows (is_less _ less) (first_holds _ _ rise))) (take k left) front in
    let whole = ap (λ cs. rows_under cs base) (sym split) ∙ changes_before base (take k left) (drop k left) (subst (λ cs. T (is_sorted identity_cmp cs)) (sym split) sorted) below
    ∙ ap (λ rest. rows_put (take k left) ++ rest) (next_row id row rows rise (drop k left) (rest_rises identity_cmp left k sorted) back) in
    ap (λ rs. rs ++ rows_under (drop k left) rows) e
    ∙ append_assoc (old ++ rows_put (take k left)) own (rows_under (drop k left) rows)
    ∙ append_assoc old (rows_put (take k left)) (own ++ rows_under (drop k left) rows)
    ∙ ap (λ rest. old ++ rest) (sym whole)

-- ---- one table

cond_over : (b : Bool) (o : Option (Option Row)) (below : Option Row) → cond b (over o below) None ≡ over (cond b o None) (cond b below None)
cond_over true o below = refl
cond_over false o below = refl

pub of_one_table : (table : ℕ) (rows : Rows) (cs : Changes) → AreRising rows → table_rows table (rows_under cs rows) ≡ rows_under (where_key identity_cmp (λ id. id.table == table) cs) (table_rows table rows)
of_one_table table rows cs rise =
    let own = λ (id : RowId). id.table == table in
    let alike = λ (q x : RowId) (t : identity_cmp q x ≡ Equal). ap own (sym (identity_exact q x t)) in
    same_answers ids _ _ (is_sorted-where_key identity_cmp own _ (seen_rises ids rows cs rise)) (seen_rises ids (table_rows table rows) (where_key identity_cmp own cs) (is_sorted-where_key identity_cmp own rows rise))
    (λ q. find-where_key identity_cmp own q (alike q) (rows_under cs rows)
    ∙ ap (λ o. cond (own q) o None) (found_seen ids q rows cs)
    ∙ cond_over (own q) (find identity_cmp q cs) (find identity_cmp q rows)
    ∙ (λ i. over (sym (find-where_key identity_cmp own q (alike q) cs) i) (sym (find-where_key identity_cmp own q (alike q) rows) i))
    ∙ sym (found_seen ids q (table_rows table rows) (where_key identity_cmp own cs)))

-- ---- the changes of one table stand together

table_at_most : (x y : RowId) (r : Ordering) → nat_cmp x.table y.table ≡ r → ordering_then r (key_cmp x.key y.key) ≡ Less → x.table ≤ y.table
table_at_most x y Less e l = let less : x.table < y.table = ranked x.table y.table Less (sym e) in omega arith
table_at_most x y Equal e l = let same : x.table ≡ y.table = ranked x.table y.table Equal (sym e) in omega arith
table_at_most x y Greater e l = absurd (subst (λ r. T (not (is_lt r))) l tt)

pub tables_rise : (cs : Changes) → T (is_sorted identity_cmp cs) → IsNonDecreasingBy (λ c. (c.0).table) cs
tables_rise cs sorted i j d h l = elim (cases_lt i j) [
  | inl less ↦ table_at_most (get_or cs i d).0 (get_or cs j d).0 _ refl (rising_at identity_total cs i j d sorted less l)
  | inr more ↦ subst (λ n. (get_or cs i d).0.table ≤ (get_or cs n d).0.table) (same_place i j h more) (omega arith)
]

abbrev pub is_before_table : ℕ → RowId × Option Row → Bool
is_before_table table c = ltb (c.0).table table

abbrev pub is_up_to_table : ℕ → RowId × Option Row → Bool
is_up_to_table table c = leb (c.0).table table

lower : (a t : ℕ) → ltb a t ≡ true → (a == t) ≡ false
lower a t h = grind (arith, nat_tests)

higher : (a t : ℕ) → leb a t ≡ false → (a == t) ≡ false
higher a t h = grind (arith, nat_tests)

level : (a t : ℕ) → ltb a t ≡ false → leb a t ≡ true → (a == t) ≡ true
level a t h g = grind (arith, nat_tests)

pub within_table : (cs from : Changes) (table before within : ℕ) → from ≡ drop before cs
    → IsPartitionPoint (λ c. is_before_table table c ≡ true) (λ c. is_before_table table c ≡ false) cs before
    → IsPartitionPoint (λ c. is_up_to_table table c ≡ true) (λ c. is_up_to_table table c ≡ false) from within
    → take within from ≡ where_key identity_cmp (λ id. id.table == table) cs
within_table cs from table before within e first second =
    let own = λ (c : RowId × Option Row). (c.0).table == table in
    let start = failing own (take before cs)
    (all_then (λ c. is_before_table table c ≡ true) (λ c. own c ≡ false) (λ c. lower (c.0).table table) (take before cs) (front_passes (is_before_table table) cs before first.0)) in
    let later : AllByRecursion (λ c. is_before_table table c ≡ false) from = subst (AllByRecursion (λ c. is_before_table table c ≡ false)) (sym e) (rest_fails (is_before_table table) cs before first.1) in
    let middle = passing own (take within from)
    (all_both (λ c. is_before_table table c ≡ false) (λ c. is_up_to_table table c ≡ true) (λ c. own c ≡ true) (λ c. level (c.0).table table) (take within from)
    (all_front (λ c. is_before_table table c ≡ false) from within later) (front_passes (is_up_to_table table) from within second.0)) in
    let end = failing own (drop within from)
    (all_then (λ c. is_up_to_table table c ≡ false) (λ c. own c ≡ false) (λ c. higher (c.0).table table) (drop within from) (rest_fails (is_up_to_table table) from within second.1)) in
    let rest : filter own from ≡ take within from =
    ap (filter own) (sym (take-append-drop within from)) ∙ passing_both own (take within from) (drop within from) ∙ (λ i. middle i ++ end i) ∙ append-nil (take within from) in
    sym (ap (filter own) (sym (take-append-drop before cs)) ∙ passing_both own (take before cs) (drop before cs) ∙ (λ i. start i ++ filter own (sym e i)) ∙ rest)

-- The first rows in the order of their keys, when rows are put in one by one.
use Rattle.std.proofs.Common.{◌≡◌, ◌∙◌, ap, sym, refl, subst, true, false, not, cond, List, [], ◌∷◌, ℕ, take, drop, length, arith, ◌≤◌}
use Rattle.std.specs.List.{AllByRecursion, insert}
use Rattle.std.specs.List.Sorted.{IsSortedBy, IsPartitionedBy}
use Rattle.std.specs.Ordering.{is_lt}
use Rattle.std.proofs.lemmas.List.{length-take, take_all}
use Rattle.jpql_trees.specs.declared.typed.typed.TypedKey.{TypedKey}
use Rattle.jpql_meaning.specs.declared.eval.datum.Datum.{Datum}
use Rattle.jpql_meaning.specs.plan.Selection.{Row, keys_cmp, precedes, put_row, put_rows}
use Rattle.jpql_meaning.proofs.plan.Orders.{precedes_is_order}
use Rattle.jpql_meaning.proofs.plan.Stable.{put, put_all, put_sorted, is_sorted, places_sorted, sorted_places}
use Rattle.jpql_select.specs.first.First.{AreInFront}
use Rattle.jpql_select.proofs.first.Front.{all_front, put_inserts, sorted_front, parted, insert_behind}

put_row_puts : (keys : List TypedKey) (r : Row) (rows : List Row) → put_row keys r rows ≡ put (precedes keys) r rows
put_row_puts keys r [] = refl
put_row_puts keys r (x ∷ rows) = ap (λ more. cond (precedes keys r x) (r ∷ x ∷ rows) (x ∷ more)) (put_row_puts keys r rows)

put_rows_puts : (keys : List TypedKey) (sorted rows : List Row) → put_rows keys sorted rows ≡ put_all (precedes keys) sorted rows
put_rows_puts keys sorted [] = refl
put_rows_puts keys sorted (r ∷ rows) = put_rows_puts keys (put_row keys r sorted) rows ∙ ap (λ s. put_all (precedes keys) s rows) (put_row_puts keys r sorted)

-- rows that begin with the same begin with the same once others were put in
pub rows_front : (keys : List TypedKey) (n : ℕ) (xs ys rows : List Row) → take n xs ≡ take n ys → take n (put_rows keys xs rows) ≡ take n (put_rows keys ys rows)
rows_front keys n xs ys rows e =
    ap (take n) (put_rows_puts keys xs rows) ∙ all_front (precedes keys) n xs ys rows e ∙ sym (ap (take n) (put_rows_puts keys ys rows))

-- the rows that one with these keys doesn't precede stand before the others
pub rows_parted : (keys : List TypedKey) (rows : List Row) (ds : List Datum) → IsSortedBy (precedes keys) rows
    → IsPartitionedBy (λ (x : Row). not (is_lt (keys_cmp keys ds x.keys))) rows
rows_parted keys rows ds h =
    parted (precedes keys) (precedes_is_order keys) (record { items = []; keys = ds }) rows (places_sorted (precedes keys) (precedes_is_order keys) rows h)

pub row_inserted : (keys : List TypedKey) (rows : List Row) (k : ℕ) (ds : List Datum) (row : Row) → row.keys ≡ ds
    → AllByRecursion (λ (x : Row). not (is_lt (keys_cmp keys ds x.keys)) ≡ true) (take k rows)
    → AllByRecursion (λ (x : Row). not (is_lt (keys_cmp keys ds x.keys)) ≡ false) (drop k rows)
    → put_row keys row rows ≡ insert rows k row
row_inserted keys rows k ds row e a b =
    put_row_puts keys row rows
    ∙ put_inserts (precedes keys) row rows k
    (subst (λ xs. AllByRecursion (λ (x : Row). not (is_lt (keys_cmp keys xs x.keys)) ≡ true) (take k rows)) (sym e) a)
    (subst (λ xs. AllByRecursion (λ (x : Row). not (is_lt (keys_cmp keys xs x.keys)) ≡ false) (drop k rows)) (sym e) b)

-- a row behind the first n leaves them
pub row_behind : (keys : List TypedKey) (n k : ℕ) (rows : List Row) (row : Row) → AreInFront keys n rows → n ≤ k → k ≤ length rows
    → put_row keys row rows ≡ insert rows k row → take n (put_row keys row rows) ≡ rows
row_behind keys n k rows row h le l e = ap (take n) e ∙ insert_behind n k rows row le l ∙ take_all n rows h.few

-- the first n of rows with one more are such rows again
pub front_again : (keys : List TypedKey) (n : ℕ) (rows : List Row) (row : Row) → AreInFront keys n rows → AreInFront keys n (take n (put_row keys row rows))
front_again keys n rows row h =
    let o = precedes_is_order keys in
    let puts = put_sorted (precedes keys) o row rows (places_sorted (precedes keys) o rows h.sorted) in
    let still : is_sorted (precedes keys) (take n (put_row keys row rows)) ≡ true =
    sorted_front (precedes keys) n (put_row keys row rows) (ap (is_sorted (precedes keys)) (put_row_puts keys row rows) ∙ puts) in
    record {
      sorted = sorted_places (precedes keys) o (take n (put_row keys row rows)) still;
      few = let e = length-take n (put_row keys row rows) in omega (arith, e);
    }

-- the same where keys and rows are seen through borrows
pub placed : (keys ks : List TypedKey) (rows rs : List Row) (k : ℕ) (row : Row) → ks ≡ keys → rs ≡ rows
    → put_row ks row rs ≡ insert rs k row → put_row keys row rows ≡ insert rows k row
placed keys ks rows rs k row e f h = (λ i. put_row (sym e i) row (sym f i)) ∙ h ∙ ap (λ xs. insert xs k row) f

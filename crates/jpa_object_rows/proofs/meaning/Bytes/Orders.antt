-- Row ids, identities and columns are in linear orders.
use Rattle.std.specs.Prelude.{◌≡◌, ℕ, ℤ, true, ◌==◌, List}
use Rattle.std.proofs.Common.{sym, ap, ◌∙◌, Equal}
use Rattle.std.specs.FinMap.{nat_cmp-IsAntisymmetric, int_cmp-IsAntisymmetric, slice_cmp-IsAntisymmetric}
use Rattle.std.specs.Cmp.{IsTotalOrder, then_total, on_total, nat_cmp_total, int_cmp_total, unsigned_tied, tied_itself}
use Rattle.std.specs.Cmp.Lexicographic.{nat_list_cmp_total, lists_total}
use Rattle.std.specs.Ordering.{is_eq, int_cmp}
use Rattle.jpa_value.specs.Value.{identity_cmp}
use Rattle.jpa_value.proofs.Orders.{identity_total, identity_exact, both_equal}
use Rattle.jpa_rows.specs.laws.Orders.{IsLinearOrder}
use Rattle.jpa_rows.proofs.laws.Facts.{is_equal}
use Rattle.jpa_object_rows.specs.meaning.Rows.{RowId, row_cmp, Columns, column_cmp, same_bytes, same_columns}

pub identities : IsLinearOrder identity_cmp
identities = record { total = identity_total; exact = identity_exact }

pub column_numbers : IsLinearOrder int_cmp
column_numbers = record { total = int_cmp_total; exact = int_cmp-IsAntisymmetric }

pub row_ids : IsLinearOrder row_cmp
row_ids = record {
  total = then_total (on_total (λ (x : RowId). x.table) nat_cmp_total) (on_total (λ (x : RowId). x.row) nat_list_cmp_total);
  exact = λ x y e.
      let h = both_equal _ _ e in
      let tables = nat_cmp-IsAntisymmetric x.table y.table h.0 in
      let bytes = slice_cmp-IsAntisymmetric nat_cmp-IsAntisymmetric x.row y.row h.1 in
      λ i. record { table = tables i; row = bytes i };
}

-- ---- equal bytes, equal columns

pub are_same_bytes : (a b : List ℕ) → same_bytes a b ≡ true → a ≡ b
are_same_bytes a b e = slice_cmp-IsAntisymmetric nat_cmp-IsAntisymmetric a b (is_equal _ e)

pub same_bytes_itself : (a : List ℕ) → same_bytes a a ≡ true
same_bytes_itself a = ap is_eq (tied_itself nat_list_cmp_total a)

column_total : IsTotalOrder column_cmp
column_total = then_total (on_total (λ (c : ℤ × List ℕ). c.0) int_cmp_total) (on_total (λ (c : ℤ × List ℕ). c.1) nat_list_cmp_total)

pub same_columns_itself : (columns : Columns) → same_columns columns columns ≡ true
same_columns_itself columns = ap is_eq (tied_itself (lists_total column_total) columns)

column_exact : (a b : ℤ × List ℕ) → column_cmp a b ≡ Equal → a ≡ b
column_exact a b e =
    let h = both_equal _ _ e in
    let columns = int_cmp-IsAntisymmetric a.0 b.0 h.0 in
    let bytes = slice_cmp-IsAntisymmetric nat_cmp-IsAntisymmetric a.1 b.1 h.1 in
    λ i. (columns i, bytes i)

pub are_same_columns : (a b : Columns) → same_columns a b ≡ true → a ≡ b
are_same_columns a b e = slice_cmp-IsAntisymmetric column_exact a b (is_equal _ e)

pub are_same_numbers : (a b : ℕ) → a == b ≡ true → a ≡ b
are_same_numbers a b e = nat_cmp-IsAntisymmetric a b (is_equal _ (unsigned_tied a b ∙ e))

pub same_number : (n : ℕ) → n == n ≡ true
same_number n = sym (unsigned_tied n n) ∙ ap is_eq (tied_itself nat_cmp_total n)

-- Only what is equal is the same.
use Rattle.std.specs.Prelude.{◌≡◌, true, Option, Some, None}
use Rattle.std.proofs.Common.{refl, sym, ap}
use Rattle.jpa_rows.specs.rows.Rows.{Row}
use Rattle.jpa_rows.proofs.rows.SameRows as rows
use Rattle.jpa_rows.proofs.laws.Facts.{true_false}
use Rattle.jpa_rows.specs.overlay.Same.{same_row}

pub row_exact : (a b : Option Row) → same_row a b ≡ true → a ≡ b
row_exact None None e = refl
row_exact None (Some b) e = absurd (true_false (sym e))
row_exact (Some a) None e = absurd (true_false (sym e))
row_exact (Some a) (Some b) e = ap Some (rows.row_exact a b e)

pub row_itself : (a : Option Row) → same_row a a ≡ true
row_itself None = refl
row_itself (Some a) = rows.row_itself a

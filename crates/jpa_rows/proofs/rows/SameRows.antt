-- Only equal rows are the same.
use Rattle.std.specs.Prelude.{◌≡◌, true, ◌==◌, [], ◌∷◌}
use Rattle.std.proofs.Common.{refl, sym, ap}
use Rattle.std.proofs.lemmas.Bool.{eqb-true, eq-eqb}
use Rattle.std.specs.Cmp.{tied_itself}
use Rattle.std.specs.Ordering.{is_eq}
use Rattle.jpa_value.proofs.Orders.{value_total, value_exact, key_total, key_exact}
use Rattle.jpa_rows.specs.declared.rows.row.Content.{Content}
use Rattle.jpa_rows.specs.declared.rows.row.Field.{Field}
use Rattle.jpa_rows.specs.rows.Rows.{Row}
use Rattle.jpa_rows.proofs.laws.Facts.{is_equal, and_first, and_second, and_both, true_false}
use Rattle.jpa_rows.specs.rows.Same.{same_content, same_field, same_row}

content_exact : (a b : Content) → same_content a b ≡ true → a ≡ b
content_exact (Content.Value v) (Content.Value w) e = ap Content.Value (value_exact v w (is_equal _ e))
content_exact (Content.Value v) (Content.Reference k) e = absurd (true_false (sym e))
content_exact (Content.Reference k) (Content.Value v) e = absurd (true_false (sym e))
content_exact (Content.Reference k) (Content.Reference l) e = ap Content.Reference (key_exact k l (is_equal _ e))

content_itself : (a : Content) → same_content a a ≡ true
content_itself (Content.Value v) = ap is_eq (tied_itself value_total v)
content_itself (Content.Reference k) = ap is_eq (tied_itself key_total k)

field_exact : (f g : Field) → same_field f g ≡ true → f ≡ g
field_exact f g e =
    let columns = eqb-true f.column g.column (and_first (f.column == g.column) (same_content f.content g.content) e) in
    let contents = content_exact f.content g.content (and_second (f.column == g.column) (same_content f.content g.content) e) in
    λ i. record { column = columns i; content = contents i }

field_itself : (f : Field) → same_field f f ≡ true
field_itself f = and_both (f.column == f.column) (same_content f.content f.content) (eq-eqb f.column f.column refl) (content_itself f.content)

pub row_exact : (a b : Row) → same_row a b ≡ true → a ≡ b
row_exact [] [] e = refl
row_exact [] (g ∷ b) e = absurd (true_false (sym e))
row_exact (f ∷ a) [] e = absurd (true_false (sym e))
row_exact (f ∷ a) (g ∷ b) e =
    let first = field_exact f g (and_first (same_field f g) (same_row a b) e) in
    let rest = row_exact a b (and_second (same_field f g) (same_row a b) e) in
    λ i. first i ∷ rest i

pub row_itself : (a : Row) → same_row a a ≡ true
row_itself [] = refl
row_itself (f ∷ a) = and_both (same_field f f) (same_row a a) (field_itself f) (row_itself a)

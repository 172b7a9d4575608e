-- Rows of a table with the same cells are one.
use Rattle.std.specs.Prelude.{◌≡◌, ℕ, ℤ, pos, true, List, [], ◌∷◌, drop, Option, Some, None}
use Rattle.std.proofs.Common.{refl, sym, ap, ◌∙◌}
use Rattle.std.specs.List.{list_all}
use Rattle.std.specs.Cmp.{tied_itself}
use Rattle.jpa_value.specs.declared.value.Value.{Value}
use Rattle.jpa_value.specs.declared.value.Kind.{Kind}
use Rattle.jpa_value.specs.Value.{is_representable}
use Rattle.jpa_value.proofs.Orders.{key_exact}
use Rattle.jpa_rows.specs.keys.Keys.{key_bytes, is_part_of}
use Rattle.jpa_rows.specs.declared.rows.row.Content.{Content}
use Rattle.jpa_rows.specs.declared.rows.schema.ColumnRule.{ColumnRule}
use Rattle.jpa_rows.specs.declared.rows.schema.Holds.{Holds}
use Rattle.jpa_rows.specs.declared.rows.schema.TableRule.{TableRule}
use Rattle.jpa_rows.specs.rows.Cells.{is_given}
use Rattle.jpa_rows.specs.rows.Rows.{Row, content_bytes, cells_of, is_key, may_hold, rule_of, is_field_by, IsRowOf}
use Rattle.jpa_rows.proofs.laws.Facts.{and_first, and_second, true_false}
use Rattle.std.specs.Cmp.Lexicographic.{slice_cmp, nat_list_cmp_total}
use Rattle.std.specs.Ordering.{nat_cmp}
use Rattle.jpa_object_rows.specs.meaning.View.{value_from}
use Rattle.jpa_object_rows.proofs.meaning.Bytes.Values.{value_read}
use Rattle.jpa_object_rows.proofs.meaning.Raw.{key_order}

-- a value that is not null is read again from its bytes
content_read : (v : Value) → is_given v ≡ true → is_representable v ≡ true → value_from (Some (content_bytes (Content.Value v))) ≡ v
content_read Value.Null h g = absurd (true_false (sym h))
content_read (Value.Int n) h g = value_read (Value.Int n) g
content_read (Value.Text bytes) h g = value_read (Value.Text bytes) g
content_read (Value.Bytes bytes) h g = value_read (Value.Bytes bytes) g

same_value_bytes : (v w : Value) → is_given v ≡ true → is_representable v ≡ true → is_given w ≡ true → is_representable w ≡ true → content_bytes (Content.Value v) ≡ content_bytes (Content.Value w) → v ≡ w
same_value_bytes v w gv rv gw rw e = sym (content_read v gv rv) ∙ ap (λ bytes. value_from (Some bytes)) e ∙ content_read w gw rw

part_given : (kind : Kind) (v : Value) → is_part_of kind v ≡ true → (is_given v ≡ true) × (is_representable v ≡ true)
part_given Kind.Int Value.Null h = absurd (true_false (sym h))
part_given Kind.Text Value.Null h = absurd (true_false (sym h))
part_given Kind.Bytes Value.Null h = absurd (true_false (sym h))
part_given Kind.Int (Value.Int n) h = (refl, h)
part_given Kind.Text (Value.Int n) h = absurd (true_false (sym h))
part_given Kind.Bytes (Value.Int n) h = absurd (true_false (sym h))
part_given Kind.Int (Value.Text bytes) h = absurd (true_false (sym h))
part_given Kind.Text (Value.Text bytes) h = (refl, h)
part_given Kind.Bytes (Value.Text bytes) h = absurd (true_false (sym h))
part_given Kind.Int (Value.Bytes bytes) h = absurd (true_false (sym h))
part_given Kind.Text (Value.Bytes bytes) h = absurd (true_false (sym h))
part_given Kind.Bytes (Value.Bytes bytes) h = (refl, h)

same_keys : (kinds : List Kind) (x y : List Value) → is_key kinds x ≡ true → is_key kinds y ≡ true → key_bytes x ≡ key_bytes y → x ≡ y
same_keys kinds x y h g e = key_exact x y (sym (key_order kinds x y h g) ∙ ap (slice_cmp nat_cmp (key_bytes x)) (sym e) ∙ tied_itself nat_list_cmp_total (key_bytes x))

-- what one column may hold has one spelling
same_content : (holds : Holds) (c d : Content) → may_hold holds c ≡ true → may_hold holds d ≡ true → content_bytes c ≡ content_bytes d → c ≡ d
same_content (Holds.Kind kind) (Content.Value v) (Content.Value w) h g e =
    let p = part_given kind v (and_first (is_part_of kind v) _ h) in
    let q = part_given kind w (and_first (is_part_of kind w) _ g) in
    ap Content.Value (same_value_bytes v w p.0 p.1 q.0 q.1 e)
same_content (Holds.Kind kind) (Content.Value v) (Content.Reference y) h g e = absurd (true_false (sym g))
same_content (Holds.Kind kind) (Content.Reference x) d h g e = absurd (true_false (sym h))
same_content Holds.Any (Content.Value v) (Content.Value w) h g e =
    ap Content.Value (same_value_bytes v w (and_first (is_given v) _ h) (and_first (is_representable v) _ (and_second (is_given v) _ h)) (and_first (is_given w) _ g) (and_first (is_representable w) _ (and_second (is_given w) _ g)) e)
same_content Holds.Any (Content.Value v) (Content.Reference y) h g e = absurd (true_false (sym g))
same_content Holds.Any (Content.Reference x) d h g e = absurd (true_false (sym h))
same_content (Holds.Reference kinds) (Content.Value v) d h g e = absurd (true_false (sym h))
same_content (Holds.Reference kinds) (Content.Reference x) (Content.Value w) h g e = absurd (true_false (sym g))
same_content (Holds.Reference kinds) (Content.Reference x) (Content.Reference y) h g e = ap Content.Reference (same_keys kinds x y h g (ap (λ (bytes : List ℕ). drop 1 bytes) e))

same_by : (o : Option ColumnRule) (c d : Content) → is_field_by c o ≡ true → is_field_by d o ≡ true → content_bytes c ≡ content_bytes d → c ≡ d
same_by None c d h g e = absurd (true_false (sym h))
same_by (Some rule) c d h g e = same_content rule.holds c d h g e

abbrev AreFields : TableRule → Row → Type 0
AreFields table row = list_all (λ f. is_field_by f.content (rule_of table f.column)) row ≡ true

first_cell : (a b : ℤ × List ℕ) (x y : List (ℤ × List ℕ)) → a ∷ x ≡ b ∷ y → (a ≡ b) × (x ≡ y)
first_cell a b x y e = (cc, cc)

same_number : (a b : ℕ) → pos a ≡ pos b → a ≡ b
same_number a b e = cc

same_fields : (table : TableRule) (row other : Row) → AreFields table row → AreFields table other → cells_of row ≡ cells_of other → row ≡ other
same_fields table [] [] h g e = refl
same_fields table [] (f ∷ other) h g e = cc
same_fields table (f ∷ row) [] h g e = cc
same_fields table (f ∷ row) (k ∷ other) h g e =
    let parts = first_cell (pos f.column, content_bytes f.content) (pos k.column, content_bytes k.content) (cells_of row) (cells_of other) e in
    let columns : f.column ≡ k.column = same_number f.column k.column (ap (λ (c : ℤ × List ℕ). c.0) parts.0) in
    let contents = same_by (rule_of table f.column) f.content k.content (and_first (is_field_by f.content (rule_of table f.column)) _ h)
    (ap (λ c. is_field_by k.content (rule_of table c)) columns ∙ and_first (is_field_by k.content (rule_of table k.column)) _ g) (ap (λ (c : ℤ × List ℕ). c.1) parts.0) in
    let rest = same_fields table row other (and_second (is_field_by f.content (rule_of table f.column)) _ h) (and_second (is_field_by k.content (rule_of table k.column)) _ g) parts.1 in
    λ i. record { column = columns i; content = contents i } ∷ rest i

pub same_rows : (table : TableRule) (row other : Row) → IsRowOf table row → IsRowOf table other → cells_of row ≡ cells_of other → row ≡ other
same_rows table row other h g e = same_fields table row other h.each g.each e

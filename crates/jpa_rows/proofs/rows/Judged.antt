-- Keys and rows that are a table's.
use Rattle.std.specs.Prelude.{◌≡◌, ◌↔◌, ℕ, Bool, true, false, ◌==◌, ◌&&◌, List, [], ◌∷◌, length}
use Rattle.std.proofs.Common.{refl, sym, ap, ◌∙◌, arith}
use Rattle.std.specs.List.{list_all, zip}
use Rattle.jpa_value.specs.declared.value.Value.{Value}
use Rattle.jpa_value.specs.declared.value.Kind.{Kind}
use Rattle.jpa_behaviour.specs.Behaviour.{is_short}
use Rattle.jpa_rows.specs.keys.Keys.{is_part_of, is_key_of}
use Rattle.jpa_rows.proofs.laws.Facts.{true_false, and_first, and_second}
use Rattle.jpa_rows.specs.declared.rows.row.Field.{Field}
use Rattle.jpa_rows.specs.declared.rows.schema.TableRule.{TableRule}
use Rattle.jpa_rows.specs.rows.Rows.{Row, is_key, is_field_by, rule_of, IsRowOf}
use Rattle.jpa_rows.specs.rows.Reading.{rises_from}
use Rattle.jpa_rows.proofs.rows.Fields.{rises_is, is_rises}
use Rattle.jpa_rows.proofs.rows.Classes.{other_test}

-- ---- keys

abbrev is_short_part : Kind × Value → Bool
is_short_part p = is_part_of p.0 p.1 && is_short p.1

turned : (a b c d : Bool) → ((a && b) && (c && d)) ≡ ((a && c) && (b && d))
turned true true c d = refl
turned true false true d = refl
turned true false false d = refl
turned false b c d = refl

pub same_parts : (kinds : List Kind) (key : List Value) → length kinds ≡ length key → list_all is_short_part (zip kinds key) ≡ is_key kinds key
same_parts [] [] e = refl
same_parts [] (v ∷ key) e = absurd (omega arith)
same_parts (kind ∷ kinds) [] e = absurd (omega arith)
same_parts (kind ∷ kinds) (v ∷ key) e =
    ap (λ b. (is_part_of kind v && is_short v) && b) (same_parts kinds key (omega arith)) ∙ turned (is_part_of kind v) (is_short v) (is_key_of kinds key) (list_all is_short key)

same_length : (kinds : List Kind) (key : List Value) → is_key_of kinds key ≡ true → length kinds ≡ length key
same_length [] [] h = refl
same_length [] (v ∷ key) h = absurd (true_false (sym h))
same_length (kind ∷ kinds) [] h = absurd (true_false (sym h))
same_length (kind ∷ kinds) (v ∷ key) h = let e = same_length kinds key (and_second (is_part_of kind v) _ h) in omega arith

pub no_parts : (kinds : List Kind) (key : List Value) → (length kinds ≡ length key → ⊥) → false ≡ is_key kinds key
no_parts kinds key differ = go (is_key kinds key) refl
  where
    go : (b : Bool) → is_key kinds key ≡ b → false ≡ b
    go true e = absurd (differ (same_length kinds key (and_first (is_key_of kinds key) _ e)))
    go false e = refl

pub parts_are : (kinds : List Kind) (parts key : List Value) (n : ℕ) (all : Bool) → all ≡ list_all is_short_part (zip kinds parts) → parts ≡ key → length kinds ≡ n → n ≡ length key → all ≡ is_key kinds key
parts_are kinds parts key n all is same count length = is ∙ ap (λ xs. list_all is_short_part (zip kinds xs)) same ∙ same_parts kinds key (count ∙ length)

pub other_length : (kinds : List Kind) (key : List Value) (n : ℕ) → (length kinds ≡ n → ⊥) → n ≡ length key → (length kinds == n) ≡ is_key kinds key
other_length kinds key n differ count = other_test (length kinds) n differ ∙ no_parts kinds key (λ e. differ (e ∙ sym count))

-- ---- rows

abbrev are_held : TableRule → Row → Bool
are_held table row = list_all (λ (f : Field). is_field_by f.content (rule_of table f.column)) row

pub row_of : (table : TableRule) (first second row : Row) (rises all : Bool) → rises ≡ rises_from 0 first → first ≡ row → rises ≡ true → all ≡ are_held table second → second ≡ row → (all ≡ true) ↔ IsRowOf table row
row_of table first second row rises all is same passes held other = (
  λ e. record { rising = rises_is row (ap (rises_from 0) (sym same) ∙ sym is ∙ passes); each = ap (are_held table) (sym other) ∙ sym held ∙ e },
  λ w. held ∙ ap (are_held table) other ∙ w.each,
)

pub no_row : (table : TableRule) (first row : Row) (rises : Bool) → rises ≡ rises_from 0 first → first ≡ row → rises ≡ false → (rises ≡ true) ↔ IsRowOf table row
no_row table first row rises is same fails = (
  λ e. absurd (true_false (sym e ∙ fails)),
  λ w. is ∙ ap (rises_from 0) same ∙ is_rises row w.rising,
)

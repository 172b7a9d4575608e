-- The rows of rising tables, one table after another, are all rows that these tables have.
use Rattle.std.specs.Prelude.{◌≡◌, ◌==◌, ◌<◌, ◌≤◌, ℕ, Bool, true, false, List, [], ◌∷◌, ◌++◌, Option, Some, None, is_some}
use Rattle.std.proofs.Common.{refl, sym, ap, subst, ◌∙◌, inl, inr, arith}
use Rattle.std.proofs.lemmas.Bool.Decides.{nat_tests}
use Rattle.std.specs.List.{flat_map, AllByRecursion}
use Rattle.jpa_value.specs.declared.value.Value.{Value}
use Rattle.jpa_rows.specs.declared.rows.schema.Schema.{Schema}
use Rattle.jpa_rows.specs.declared.rows.schema.TableRule.{TableRule}
use Rattle.jpa_rows.specs.rows.Rows.{RowId, Row, Rows, AreRising, table_of, table_rows}
use Rattle.jpa_rows.proofs.rows.Splits.{all_then}
use Rattle.jpa_rows.proofs.laws.Elements.{Has}
use Rattle.jpa_rows.proofs.laws.Facts.{second_holds, first_holds}
use Rattle.jpa_rows.proofs.laws.Lists.{all_each}
use Rattle.jpa_object_rows.proofs.meaning.Bytes.Orders.{are_same_numbers}
use Rattle.jpa_object_rows.specs.meaning.Raw.{AreNamed, is_key_by}
use Rattle.jpa_opening.specs.reader.Reads.{AreNumbersOf, IsRising}
use Rattle.jpa_opening.proofs.reader.Parts.{append_nil, no_rows, own_rows, rows_append, tables_above}
use Rattle.jpa_opening.proofs.reader.Reading.{known_number}

-- ---- the rows of the first table, and the others

record Split (n : ℕ) (rows : Rows) : Type 0 where
  front : Rows
  back : Rows
  both : rows ≡ front ++ back
  own : AllByRecursion (λ e. (e.0).table ≡ n) front
  above : AllByRecursion (λ e. n < (e.0).table) back
  rising : AreRising back

split : (n : ℕ) (rows : Rows) → AreRising rows → AllByRecursion (λ e. n ≤ (e.0).table) rows → Split n rows
split n [] up low = record { front = []; back = []; both = refl; own = tt; above = tt; rising = tt }
split n (e ∷ rows) up low = by_test (split n rows (second_holds _ _ up) low.1) ((e.0).table == n) refl
  where
    by_test : Split n rows → (b : Bool) → (e.0).table == n ≡ b → Split n (e ∷ rows)
    by_test s true same = record {
      front = e ∷ s.front;
      back = s.back;
      both = ap (λ l. e ∷ l) s.both;
      own = (are_same_numbers (e.0).table n same, s.own);
      above = s.above;
      rising = s.rising;
    }
    by_test s false apart =
        let more : n < (e.0).table = above_of (e.0).table n apart low.0 in
        record {
          front = [];
          back = e ∷ rows;
          both = refl;
          own = tt;
          above = (more, all_then (λ (d : RowId × Row). (e.0).table ≤ (d.0).table) (λ d. n < (d.0).table) (λ d h. omega arith) rows (tables_above e.0 rows (first_holds _ _ up)));
          rising = up;
        }
      where
        above_of : (a n : ℕ) → a == n ≡ false → n ≤ a → n < a
        above_of a n apart low = grind (arith, nat_tests)

module _ (n : ℕ) (rows : Rows) (s : Split n rows) where
  first_rows : table_rows n rows ≡ s.front
  first_rows =
      ap (table_rows n) s.both ∙ rows_append n s.front s.back
      ∙ (λ i. own_rows n s.front s.own i ++ no_rows n s.back (all_then (λ (e : RowId × Row). n < (e.0).table) (λ e. (e.0).table ≡ n → ⊥) (λ e less same. omega arith) s.back s.above) i)
      ∙ append_nil s.front

  other_rows : (m : ℕ) → n < m → table_rows m rows ≡ table_rows m s.back
  other_rows m less =
      ap (table_rows m) s.both ∙ rows_append m s.front s.back
      ∙ ap (λ l. l ++ table_rows m s.back) (no_rows m s.front (all_then (λ (e : RowId × Row). (e.0).table ≡ n) (λ e. (e.0).table ≡ m → ⊥) (λ e own same. omega arith) s.front s.own))

  others : (ms : List ℕ) → AllByRecursion (λ m. n < m) ms → flat_map (λ m. table_rows m rows) ms ≡ flat_map (λ m. table_rows m s.back) ms
  others [] up = refl
  others (m ∷ ms) up = λ i. other_rows m up.0 i ++ others ms up.1 i

-- ---- all tables

pub gathered : (ns : List ℕ) (rows : Rows) → IsRising ns → AreRising rows → AllByRecursion (λ e. Has ns (e.0).table) rows → flat_map (λ n. table_rows n rows) ns ≡ rows
gathered [] [] up rise within = refl
gathered [] (e ∷ rows) up rise within = absurd within.0
gathered (n ∷ ns) rows up rise within =
    let low : AllByRecursion (λ e. n ≤ (e.0).table) rows = all_then (λ (e : RowId × Row). Has (n ∷ ns) (e.0).table) (λ e. n ≤ (e.0).table) (λ e h. least (e.0).table h) rows within in
    let s = split n rows rise low in
    let back : AllByRecursion (λ e. Has ns (e.0).table) s.back = later s.back s.above (all_after s.front s.back (subst (AllByRecursion (λ (e : RowId × Row). Has (n ∷ ns) (e.0).table)) s.both within)) in
    (λ i. first_rows n rows s i ++ others n rows s ns up.0 i) ∙ ap (λ l. s.front ++ l) (gathered ns s.back up.1 s.rising back) ∙ sym s.both
  where
    least : (t : ℕ) → Has (n ∷ ns) t → n ≤ t
    least t (inl e) = omega arith
    least t (inr h) = let less = all_each (λ m. n < m) ns up.0 t h in omega arith

    all_after : (a b : Rows) → AllByRecursion (λ e. Has (n ∷ ns) (e.0).table) (a ++ b) → AllByRecursion (λ e. Has (n ∷ ns) (e.0).table) b
    all_after [] b h = h
    all_after (e ∷ a) b h = all_after a b h.1

    later_one : (t : ℕ) → n < t → Has (n ∷ ns) t → Has ns t
    later_one t less (inl e) = absurd (omega arith)
    later_one t less (inr h) = h

    later : (b : Rows) → AllByRecursion (λ e. n < (e.0).table) b → AllByRecursion (λ e. Has (n ∷ ns) (e.0).table) b → AllByRecursion (λ e. Has ns (e.0).table) b
    later [] less h = tt
    later (e ∷ b) less h = (later_one (e.0).table less.0 h.0, later b less.1 h.1)

-- ---- rows of a schema

some_by : (o : Option TableRule) (key : List Value) → is_key_by o key ≡ true → is_some o ≡ true
some_by None key h = h
some_by (Some rule) key h = refl

known : (schema : Schema) (ns : List ℕ) (rows : Rows) → AreNumbersOf schema ns → AreNamed schema rows → AllByRecursion (λ e. Has ns (e.0).table) rows
known schema ns [] numbers h = tt
known schema ns (e ∷ rows) numbers h =
    (known_number (e.0).table ns (numbers.same (e.0).table ∙ some_by (table_of schema (e.0).table) (e.0).key h.0), known schema ns rows numbers h.1)

pub all_gathered : (schema : Schema) (ns : List ℕ) (rows : Rows) → AreNumbersOf schema ns → AreRising rows → AreNamed schema rows → flat_map (λ n. table_rows n rows) ns ≡ rows
all_gathered schema ns rows numbers rise named = gathered ns rows numbers.rising rise (known schema ns rows numbers named)

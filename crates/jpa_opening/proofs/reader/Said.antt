-- Numbers that rows and ids say, and found classes and rows.
use Rattle.std.specs.Prelude.{◌≡◌, ◌==◌, ◌↔◌, ◌⊎◌, ◌<◌, ◌+◌, ◌-◌, ℕ, suc, pos, negsuc, Bool, true, false, cond, nat_lt, List, [], ◌∷◌, length, find, slice_index_or, unwrap_or, option_map, is_some, Some, None}
use Rattle.std.proofs.Common.{refl, sym, ap, ◌∙◌, inl, inr, arith}
use Rattle.std.proofs.lemmas.Bool.Decides.{nat_tests}
use Rattle.std.specs.Cmp.{unsigned_tied}
use Rattle.std.specs.List.{range_with_len}
use Rattle.jpa_value.specs.declared.value.Value.{Value}
use Rattle.jpa_value.specs.declared.value.Identity.{Identity}
use Rattle.jpa_value.specs.Value.{is_i64}
use Rattle.jpa_model.specs.declared.unit.Entity.{Entity}
use Rattle.jpa_model.specs.declared.unit.Origin.{Origin}
use Rattle.jpa_model.specs.declared.unit.PersistenceUnit.{PersistenceUnit}
use Rattle.jpa_model.specs.declared.unit.Root.{Root}
use Rattle.jpa_model.specs.Chains.{entity_at, no_entity}
use Rattle.jpa_stored.specs.declared.objects.stored.Stored.{Stored}
use Rattle.jpa_stored.specs.objects.Sets.{StoredSet, stored_at}
use Rattle.jpa_rows.specs.declared.rows.row.Content.{Content}
use Rattle.jpa_rows.specs.declared.rows.row.Field.{Field}
use Rattle.jpa_rows.specs.rows.Rows.{RowId, Row}
use Rattle.jpa_rows.proofs.laws.Facts.{true_false, some_none, value_in, and_first, and_second, and_both, by_cases}
use Rattle.jpa_rows.proofs.laws.Elements.{Has, found_has}
use Rattle.jpa_rows.proofs.laws.Lists.{all_each, any_has, has_any}
use Rattle.jpa_object_rows.specs.meaning.Identities.{declarer_at}
use Rattle.jpa_object_rows.proofs.meaning.Bytes.Classes.{has_entity, is_below}
use Rattle.jpa_object_rows.proofs.meaning.Bytes.Orders.{identities, are_same_numbers, same_number}
use Rattle.jpa_object_rows.specs.meaning.Objects.{number_id, number_row}
use Rattle.jpa_object_rows.specs.meaning.Sets.{content_at, next_in, number_in}
use Rattle.jpa_opening.specs.reader.Numbers.{natural, natural_in, only_number, only_part, table_named, generates, has_generator, zero_column}
use Rattle.jpa_opening.specs.reader.Sound.{IsNumberRow, is_join}
use Rattle.jpa_opening.specs.reader.Read.{AreOfClasses}
use Rattle.jpa_opening.proofs.reader.TableKinds.{is_declared, has_declarer}

-- ---- numbers

natural_is : (v : Value) (n : ℕ) → natural v ≡ Some n → v ≡ Value.Int (pos n)
natural_is Value.Null n e = absurd (some_none n (sym e))
natural_is (Value.Int (pos k)) n e = ap (λ k. Value.Int (pos k)) (value_in k n e)
natural_is (Value.Int (negsuc k)) n e = absurd (some_none n (sym e))
natural_is (Value.Text bytes) n e = absurd (some_none n (sym e))
natural_is (Value.Bytes bytes) n e = absurd (some_none n (sym e))

natural_in_is : (c : Content) (n : ℕ) → natural_in c ≡ Some n → c ≡ Content.Value (Value.Int (pos n))
natural_in_is (Content.Value v) n e = ap Content.Value (natural_is v n e)
natural_in_is (Content.Reference key) n e = absurd (some_none n (sym e))

pub only_number_is : (row : Row) (n : ℕ) → only_number row ≡ Some n → row ≡ number_row n
only_number_is [] n e = absurd (some_none n (sym e))
only_number_is (f ∷ []) n e = by_test (f.column == 0) refl e
  where
    by_test : (b : Bool) → f.column == 0 ≡ b → cond b (natural_in f.content) None ≡ Some n → f ∷ [] ≡ number_row n
    by_test true t g = let column = are_same_numbers f.column 0 t in let content = natural_in_is f.content n g in λ i. record { column = column i; content = content i } ∷ []
    by_test false t g = absurd (some_none n (sym g))
only_number_is (f ∷ g ∷ row) n e = absurd (some_none n (sym e))

only_part_is : (key : List Value) (n : ℕ) → only_part key ≡ Some n → key ≡ Value.Int (pos n) ∷ []
only_part_is [] n e = absurd (some_none n (sym e))
only_part_is (v ∷ []) n e = ap (λ w. w ∷ []) (natural_is v n e)
only_part_is (v ∷ w ∷ key) n e = absurd (some_none n (sym e))

table_named_is : (id : RowId) (table : ℕ) → table_named id ≡ Some table → id ≡ number_id table
table_named_is id table e = by_test (id.table == 0) refl e
  where
    by_test : (b : Bool) → id.table == 0 ≡ b → cond b (only_part id.key) None ≡ Some table → id ≡ number_id table
    by_test true t g = let zero_is = are_same_numbers id.table 0 t in let key = only_part_is id.key table g in λ i. record { table = zero_is i; key = key i }
    by_test false t g = absurd (some_none table (sym g))

-- ---- rows of next numbers

class_of : (es : List Entity) (e : Entity) → Has es e → (k : ℕ) × (k < length es) × (slice_index_or es k no_entity ≡ e)
class_of [] e h = absurd h
class_of (d ∷ es) e (inl same) = (0, omega arith, same)
class_of (d ∷ es) e (inr h) = let r = class_of es e h in let less = r.1 in (suc r.0, omega arith, r.2)

record Generator (table : ℕ) (origin : Origin) : Type 0 where
  root : Root
  is : origin ≡ Origin.Root root
  same : root.table ≡ table
  generated : root.generated ≡ true

generator : (table : ℕ) (origin : Origin) → generates table origin ≡ true → Generator table origin
generator table (Origin.Root root) h = record { root = root; is = refl; same = are_same_numbers root.table table (and_first (root.table == table) _ h); generated = and_second (root.table == table) _ h }
generator table (Origin.Extends parent) h = absurd (true_false (sym h))

more_than_one : (n : ℕ) → 1 < n → nat_lt 1 n ≡ true
more_than_one n h = grind (arith, nat_tests)

pub number_row_told : (m : PersistenceUnit) (id : RowId) (row : Row) (table next : ℕ) (b : Bool) → Some table ≡ table_named id → Some next ≡ only_number row → is_i64 (pos next) ≡ true → 1 < next → b ≡ has_generator m table
    → (b ≡ true → IsNumberRow m id row) × (IsNumberRow m id row → b ≡ true)
number_row_told m id row table next b named said small more is = (forth, back)
  where
    forth : b ≡ true → IsNumberRow m id row
    forth t =
        let e = any_has (λ (e : Entity). generates table e.origin) m.entities (sym is ∙ t) in
        let g = generator table (e.0).origin e.2 in
        let k = class_of m.entities e.0 e.1 in
        record {
          class = k.0;
          root = g.root;
          next = next;
          within = is_below k.0 (length m.entities) k.1;
          origin = ap (λ (d : Entity). d.origin) k.2 ∙ g.is;
          generated = g.generated;
          under = table_named_is id table (sym named) ∙ ap number_id (sym g.same);
          says = only_number_is row next (sym said);
          more = more_than_one next more;
          small = small;
        }

    back : IsNumberRow m id row → b ≡ true
    back n =
        let same : table ≡ (n.root).table = value_in table (n.root).table (named ∙ ap table_named n.under) in
        is
        ∙ has_any (λ (e : Entity). generates table e.origin) m.entities (entity_at m n.class) (has_entity m n.class n.within)
        (ap (generates table) n.origin ∙ and_both ((n.root).table == table) _ (ap (λ t. (n.root).table == t) same ∙ same_number (n.root).table) n.generated)

-- ---- the number in column 0

flipped : (n : ℕ) → (0 == n) ≡ (n == 0)
flipped n = grind (arith, nat_tests)

at_zero : (row : Row) → content_at 0 row ≡ option_map (λ f. f.content) (zero_column row)
at_zero [] = refl
at_zero (f ∷ row) =
    ap (λ b. cond b (Some f.content) (content_at 0 row)) (unsigned_tied 0 f.column ∙ flipped f.column)
    ∙ ap (cond (f.column == 0) (Some f.content)) (at_zero row)
    ∙ elim (f.column == 0) as (λ b. cond b (Some f.content) (option_map (λ (f : Field). f.content) (zero_column row)) ≡ option_map (λ (f : Field). f.content) (cond b (Some f) (zero_column row))) [ true ↦ refl | false ↦ refl ]

or_one : (c : Content) → unwrap_or (natural_in c) 1 ≡ next_in (Some c)
or_one (Content.Value Value.Null) = refl
or_one (Content.Value (Value.Int (pos n))) = refl
or_one (Content.Value (Value.Int (negsuc n))) = refl
or_one (Content.Value (Value.Text bytes)) = refl
or_one (Content.Value (Value.Bytes bytes)) = refl
or_one (Content.Reference key) = refl

pub number_found : (row : Row) (f : Field) → Some f ≡ zero_column row → unwrap_or (natural_in f.content) 1 ≡ number_in (Some row)
number_found row f e = or_one f.content ∙ ap (λ o. next_in (option_map (λ (f : Field). f.content) o)) e ∙ ap next_in (sym (at_zero row))

pub no_number_found : (row : Row) → None ≡ zero_column row → 1 ≡ number_in (Some row)
no_number_found row e = ap (λ o. next_in (option_map (λ (f : Field). f.content) o)) e ∙ ap next_in (sym (at_zero row))

-- ---- classes

one_less : (c n : ℕ) → c < n → n - c ≡ suc (n - (c + 1))
one_less c n h = omega arith

pub find_later : (p : ℕ → Bool) (c n : ℕ) → c < n → p c ≡ false → find p (range_with_len (c + 1) (n - (c + 1))) ≡ find p (range_with_len c (n - c))
find_later p c n h passed =
    sym (ap (λ b. cond b (Some c) (find p (range_with_len (c + 1) (n - (c + 1))))) passed)
    ∙ ap (λ k. find p (range_with_len c k)) (sym (one_less c n h))

pub joins_as_found : (m : PersistenceUnit) (table : ℕ) → is_some (declarer_at m table) ≡ is_join m table
joins_as_found m table = by_cases (is_some (declarer_at m table)) (is_join m table) (is_declared m table) (has_declarer m table)

pub class_found : (m : PersistenceUnit) (set : StoredSet) (id : Identity) (x : Stored) → AreOfClasses m set → Some x ≡ stored_at set id → x.class < length m.entities
class_found m set id x h e = all_each (λ (e : Identity × Stored). (e.1).class < length m.entities) set h (id, x) (found_has identities id x set (sym e))

-- ---- what a row is not

pub none_of : {A B C : Type 0} (a b : Bool) → (a ≡ true) ↔ A → (b ≡ true) ↔ B → a ≡ false → b ≡ false → (C → ⊥) → A ⊎ (B ⊎ C) → ⊥
none_of a b told_a told_b no_a no_b no_c (inl h) = true_false (sym (told_a.1 h) ∙ no_a)
none_of a b told_a told_b no_a no_b no_c (inr (inl h)) = true_false (sym (told_b.1 h) ∙ no_b)
none_of a b told_a told_b no_a no_b no_c (inr (inr h)) = no_c h

pub nor : {A B : Type 0} (a : Bool) → (a ≡ true) ↔ A → a ≡ false → (B → ⊥) → A ⊎ B → ⊥
nor a told no_a no_b (inl h) = true_false (sym (told.1 h) ∙ no_a)
nor a told no_a no_b (inr h) = no_b h

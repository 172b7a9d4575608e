-- The laws of the functions: the two directions of a converter are inverse, and a listener that
-- sees values of the program answers such.
use Rattle.std.specs.Prelude.{◌≡◌, ◌↔◌, ◌⊎◌, ◌<◌, ◌+◌, ◌-◌, ℕ, zero, suc, ℤ, pos, negsuc, ◌+ℤ◌, int_lt, nat_lt, Bool}
use Rattle.std.specs.Prelude.{true, false, not, ◌&&◌, ◌||◌, List, [], ◌∷◌, find, cond, if◌then◌else◌, codes, bytes_eq}
use Rattle.std.specs.Prelude.{Option, Some, None, option_map, Result, Ok, Err}
use Rattle.std.specs.List.{list_all, list_any}
use Rattle.std.specs.Cmp.{Equal-is, tied_itself, first_so, second_so}
use Rattle.std.specs.Ordering.{is_eq}
use Rattle.std.proofs.Common.{refl, sym, ap, ◌∙◌, subst, inl, inr, arith, T}
use Rattle.std.proofs.lemmas.Bool.Decides.{nat_tests}
use Rattle.std.proofs.lemmas.Slice.Eq.{bytes_eq-Decides}
use Rattle.std.proofs.lemmas.Option.{none-some, same_Some}
use Rattle.hex.specs.Hex.{IsBytes, encode_lower, decode_of}
use Rattle.hex.specs.declared.error.FromHexError.{FromHexError}
use Rattle.hex.proofs.HexLemmas.{decode_of-encode_lower}
use Rattle.jpa_value.specs.declared.value.Value.{Value}
use Rattle.jpa_value.specs.Value.{is_i64, is_representable, value_cmp, same_value}
use Rattle.jpa_value.proofs.Orders.{value_total, value_exact}
use Rattle.jpa_behaviour.specs.declared.Named.{Named}
use Rattle.jpa_behaviour.specs.declared.Heard.{Heard}
use Rattle.jpa_behaviour.specs.Behaviour.{is_convertible, is_short, names_representable, answers_representable}
use Rattle.jpa_behaviour.specs.Registered.{ConvertersAreInverse, ListenersAnswerRepresentable}
use Rattle.jpa_model.specs.Chains.{same_name}
use Rattle.jpa_json.specs.declared.functions.make.Pair.{Pair}
use Rattle.jpa_json.specs.declared.functions.make.Listener.{Listener}
use Rattle.jpa_json.specs.declared.functions.make.Converter.{Converter}
use Rattle.jpa_json.specs.functions.Pairs.{share_a_side, are_apart, column_beside, attribute_beside}
use Rattle.jpa_json.specs.functions.Functions.{named_so, value_of, value_or_null, assign, counted, required, flipped}
use Rattle.jpa_json.specs.functions.Functions.{flip}
use Rattle.jpa_json.specs.functions.Functions.{digits_of, if_decoded, bytes_of, meaning}

-- ---- small facts

-- false is not true
pub false_true : false ≡ true → ⊥
false_true e = subst T (sym e) tt

or_first : (a b : Bool) → a ≡ true → a || b ≡ true
or_first true b h = refl
or_first false b h = absurd (false_true h)

or_second : (a b : Bool) → b ≡ true → a || b ≡ true
or_second true b h = refl
or_second false b h = h

not_both : (a : Bool) → not a ≡ true → a ≡ true → ⊥
not_both true e h = false_true e
not_both false e h = false_true h

-- ---- values that are the same

is_same : (a b : Value) → same_value a b ≡ true → a ≡ b
is_same a b e = value_exact a b ((Equal-is (value_cmp a b)).0 e)

same_itself : (a b : Value) → a ≡ b → same_value a b ≡ true
same_itself a b e = subst (λ v. same_value a v ≡ true) e (ap is_eq (tied_itself value_total a))

-- ---- tables: the first pair with a value on one side

module _ (from to : Pair → Value) where
  abbrev beside : List Pair → Value → Option Value
  beside pairs v = option_map to (find (λ p. same_value (from p) v) pairs)

  -- it is the first pair, or one of the others
  at_first : (b : Bool) (p : Pair) (o : Option Pair) (d : Value) → option_map to (cond b (Some p) o) ≡ Some d
      → ((b ≡ true) × (to p ≡ d)) ⊎ ((b ≡ false) × (option_map to o ≡ Some d))
  at_first true p o d e = inl (refl, same_Some (to p) d e)
  at_first false p o d e = inr (refl, e)

  is_first : (b : Bool) (p : Pair) (o : Option Pair) → b ≡ true → option_map to (cond b (Some p) o) ≡ Some (to p)
  is_first true p o h = refl
  is_first false p o h = absurd (false_true h)

  is_later : (b : Bool) (p : Pair) (o : Option Pair) → (b ≡ true → ⊥) → option_map to (cond b (Some p) o)
      ≡ option_map to o
  is_later true p o h = absurd (h refl)
  is_later false p o h = refl

  -- where a side is shared, the pairs are not apart
  module _ (shared : (p q : Pair) → same_value (from p) (from q) ≡ true → share_a_side p q ≡ true) where
    meets : (p : Pair) (ps : List Pair) (d : Value) → beside ps (from p) ≡ Some d → list_any (share_a_side p) ps ≡ true
    meets p [] d e = absurd (none-some d e)
    meets p (q ∷ qs) d e =
        elim (at_first (same_value (from q) (from p)) q (find (λ r. same_value (from r) (from p)) qs) d e) [
          | inl h ↦ or_first (share_a_side p q) _
              (shared p q (same_itself (from p) (from q) (sym (is_same (from q) (from p) h.0))))
          | inr h ↦ or_second (share_a_side p q) _ (meets p qs d h.1)
        ]

turned : (from to : Pair → Value) → ((p q : Pair) → same_value (to p) (to q) ≡ true → share_a_side p q ≡ true)
    → (ps : List Pair) (v d : Value) → are_apart ps ≡ true → beside from to ps v ≡ Some d → beside to from ps d ≡ Some v
turned from to shared [] v d h e = absurd (none-some d e)
turned from to shared (p ∷ ps) v d h e =
    elim (at_first from to (same_value (from p) v) p (find (λ q. same_value (from q) v) ps) d e) [
      | inl k ↦ is_first to from (same_value (to p) d) p (find (λ q. same_value (to q) d) ps) (same_itself (to p) d k.1)
          ∙ ap Some (is_same (from p) v k.0)
      | inr k ↦
          let rest : beside to from ps d ≡ Some v =
          turned from to shared ps v d (second_so (not (list_any (share_a_side p) ps)) _ h) k.1 in
          is_later to from (same_value (to p) d) p (find (λ q. same_value (to q) d) ps)
          (λ t. not_both (list_any (share_a_side p) ps) (first_so (not (list_any (share_a_side p) ps)) _ h)
          (meets to from shared p ps v (ap (λ u. beside to from ps u) (is_same (to p) d t) ∙ rest)))
          ∙ rest
    ]

table_inverse : (pairs : List Pair) (v d : Value) → are_apart pairs ≡ true →
    (column_beside pairs v ≡ Some d) ↔ (attribute_beside pairs d ≡ Some v)
table_inverse pairs v d h = (
  turned (λ p. p.attribute) (λ p. p.column)
      (λ p q. or_second (same_value p.attribute q.attribute) (same_value p.column q.column)) pairs v d h,
  turned (λ p. p.column) (λ p. p.attribute)
      (λ p q. or_first (same_value p.attribute q.attribute) (same_value p.column q.column)) pairs d v h,
)

-- ---- integers turned round

flipped_twice : (n : ℤ) → flipped (flipped n) ≡ n
flipped_twice (pos n) = refl
flipped_twice (negsuc n) = refl

turned_round : (v d : Value) → flip v ≡ Some d → flip d ≡ Some v
turned_round Value.Null d e = absurd (none-some d e)
turned_round (Value.Int n) d e =
    ap flip (sym (same_Some (Value.Int (flipped n)) d e)) ∙ ap (λ m. Some (Value.Int m)) (flipped_twice n)
turned_round (Value.Text bytes) d e = absurd (none-some d e)
turned_round (Value.Bytes bytes) d e = absurd (none-some d e)

-- ---- bytes and their digits

byte_below : (b : ℕ) → nat_lt b 256 ≡ true → b < 256
byte_below b h = grind (arith, nat_tests)

bytes_below : (bytes : List ℕ) → list_all (λ b. nat_lt b 256) bytes ≡ true → IsBytes bytes
bytes_below [] h i = omega arith
bytes_below (b ∷ bytes) h zero = byte_below b (first_so (nat_lt b 256) _ h)
bytes_below (b ∷ bytes) h (suc i) = bytes_below bytes (second_so (nat_lt b 256) _ h) i

as_digits : (bytes digits : List ℕ) → decode_of digits ≡ Ok bytes → encode_lower bytes ≡ digits →
    bytes_of (Value.Text digits) ≡ Some (Value.Bytes bytes)
as_digits bytes digits e same = ap (if_decoded digits) e ∙ ap (λ b. if b then Some (Value.Bytes bytes) else None)
    ((bytes_eq-Decides (encode_lower bytes) digits).1 same)

to_bytes : (v d : Value) → is_convertible v ≡ true → digits_of v ≡ Some d → bytes_of d ≡ Some v
to_bytes Value.Null d h e = absurd (none-some d e)
to_bytes (Value.Int n) d h e = absurd (none-some d e)
to_bytes (Value.Text bytes) d h e = absurd (none-some d e)
to_bytes (Value.Bytes bytes) d h e =
    let fit : IsBytes bytes = bytes_below bytes (second_so (is_short (Value.Bytes bytes)) _ h) in
    ap bytes_of (sym (same_Some (Value.Text (encode_lower bytes)) d e)) ∙ as_digits bytes (encode_lower bytes)
    (decode_of-encode_lower bytes fit) refl

from_written : (digits bytes : List ℕ) (b : Bool) (v : Value) → bytes_eq (encode_lower bytes) digits ≡ b →
    (if b then Some (Value.Bytes bytes) else None) ≡ Some v
    → digits_of v ≡ Some (Value.Text digits)
from_written digits bytes true v same e =
    ap digits_of (sym (same_Some (Value.Bytes bytes) v e)) ∙ ap (λ t. Some (Value.Text t))
    ((bytes_eq-Decides (encode_lower bytes) digits).0 same)
from_written digits bytes false v same e = absurd (none-some v e)

from_digits : (digits : List ℕ) (r : Result (List ℕ) FromHexError) (v : Value) → if_decoded digits r ≡ Some v →
    digits_of v ≡ Some (Value.Text digits)
from_digits digits (Ok bytes) v e = from_written digits bytes (bytes_eq (encode_lower bytes) digits) v refl e
from_digits digits (Err fault) v e = absurd (none-some v e)

to_digits : (v d : Value) → bytes_of d ≡ Some v → digits_of v ≡ Some d
to_digits v Value.Null e = absurd (none-some v e)
to_digits v (Value.Int n) e = absurd (none-some v e)
to_digits v (Value.Text digits) e = from_digits digits (decode_of digits) v e
to_digits v (Value.Bytes bytes) e = absurd (none-some v e)

-- the two directions of each converter are inverse (chapter 3.8)
pub inverse : ConvertersAreInverse meaning
inverse Converter.Flip v d h g = (turned_round v d, turned_round d v)
inverse (Converter.Table table) v d h g = table_inverse table.pairs v d table.apart
inverse Converter.Hextext v d h g = (to_bytes v d h, to_digits v d)

-- ---- what listeners answer

found_representable : (values : List Named) (name : List ℕ) → list_all names_representable values ≡ true
    → is_representable (value_or_null (option_map (λ n. n.value) (named_so values name))) ≡ true
found_representable [] name h = refl
found_representable (n ∷ ns) name h =
    one (same_name n.name name) n (named_so ns name) (first_so (names_representable n) _ h)
    (found_representable ns name (second_so (names_representable n) _ h))
  where
    one : (b : Bool) (n : Named) (o : Option Named) → names_representable n ≡ true →
        is_representable (value_or_null (option_map (λ m. m.value) o)) ≡ true
        → is_representable (value_or_null (option_map (λ m. m.value) (cond b (Some n) o))) ≡ true
    one true n o h g = h
    one false n o h g = g

assigned : (name : List ℕ) (v : Value) → is_representable v ≡ true → answers_representable (assign name v) ≡ true
assigned name v h = ap (λ b. b && true) h

next_of_natural : (n : ℕ) → nat_lt n 9223372036854775807 ≡ true → nat_lt (n + 1) 9223372036854775808 ≡ true
next_of_natural n h = grind (arith, nat_tests)

next_of_negative : (n : ℕ) → nat_lt n 9223372036854775808 ≡ true → (b : Bool) →
    is_i64 (cond b (negsuc (suc n - 2)) (pos (1 - suc n))) ≡ true
next_of_negative n h true = grind (arith, nat_tests)
next_of_negative n h false = grind (arith, nat_tests)

next_below : (n : ℤ) → is_i64 n ≡ true → int_lt n (pos 9223372036854775807) ≡ true → is_i64 (n +ℤ pos 1) ≡ true
next_below (pos n) h below = next_of_natural n below
next_below (negsuc n) h below = next_of_negative n h (nat_lt 1 (suc n))

counted_up_representable : (b : Bool) (name : List ℕ) (n : ℤ) → int_lt n (pos 9223372036854775807) ≡ b → is_i64 n ≡ true
    → answers_representable (if b then assign name (Value.Int (n +ℤ pos 1)) else Heard.Throw (codes "count")) ≡ true
counted_up_representable true name n e h = assigned name (Value.Int (n +ℤ pos 1)) (next_below n h e)
counted_up_representable false name n e h = refl

counted_representable : (name : List ℕ) (o : Option Value) → is_representable (value_or_null o) ≡ true →
    answers_representable (counted name o) ≡ true
counted_representable name None h = refl
counted_representable name (Some Value.Null) h = refl
counted_representable name (Some (Value.Int n)) h =
    counted_up_representable (int_lt n (pos 9223372036854775807)) name n refl h
counted_representable name (Some (Value.Text bytes)) h = refl
counted_representable name (Some (Value.Bytes bytes)) h = refl

required_representable : (name : List ℕ) (o : Option Value) → answers_representable (required name o) ≡ true
required_representable name None = refl
required_representable name (Some Value.Null) = refl
required_representable name (Some (Value.Int n)) = refl
required_representable name (Some (Value.Text bytes)) = refl
required_representable name (Some (Value.Bytes bytes)) = refl

-- each listener that sees values of the program answers such
pub representable : ListenersAnswerRepresentable meaning
representable (Listener.SetText given) image h = assigned given.attribute (Value.Text given.value) given.is_text
representable (Listener.Copy from to) image h =
    assigned to (value_or_null (value_of image from)) (found_representable image.values from h)
representable (Listener.Count attribute) image h =
    counted_representable attribute (value_of image attribute) (found_representable image.values attribute h)
representable (Listener.Require attribute) image h = required_representable attribute (value_of image attribute)
representable Listener.Note image h = refl

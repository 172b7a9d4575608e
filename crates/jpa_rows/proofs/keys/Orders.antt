-- The bytes of two keys of the same kinds are in the order of the keys.
use Rattle.std.specs.Prelude.{◌≡◌, ℕ, Bool, true, false, cond, ◌==◌, List, [], ◌∷◌, ◌++◌, T}
use Rattle.std.proofs.Common.{refl, sym, ap, subst, ◌∙◌, arith, append_assoc, Less, Equal, Greater}
use Rattle.std.specs.Cmp.Lexicographic.{slice_cmp}
use Rattle.std.specs.Ordering.{nat_cmp, int_cmp, ordering_then}
use Rattle.std.proofs.lemmas.List.{append-nil}
use Rattle.std.proofs.lemmas.Bool.Decides.{nat_tests}
use Rattle.std.specs.Cmp.{first_so, second_so}
use Rattle.jpa_value.specs.declared.value.Value.{Value}
use Rattle.jpa_value.specs.declared.value.Kind.{Kind}
use Rattle.jpa_value.specs.Value.{value_cmp, key_cmp}
use Rattle.jpa_value.proofs.Orders.{then_equal}
use Rattle.jpa_rows.specs.keys.Keys.{escaped, part_bytes, key_bytes, is_part_of, is_key_of, Spells}
use Rattle.jpa_rows.proofs.keys.Integers.{int_bytes_order, then_assoc}

zero_first : (y : ℕ) → y == 0 ≡ false → nat_cmp 0 y ≡ Less
zero_first y h = grind (arith, nat_tests)

zero_last : (x : ℕ) → x == 0 ≡ false → nat_cmp x 0 ≡ Greater
zero_last x h = grind (arith, nat_tests)

both_zero : (x y : ℕ) → x == 0 ≡ true → y == 0 ≡ true → nat_cmp x y ≡ Equal
both_zero x y h g = grind (arith, nat_tests)

first_zero : (x y : ℕ) → x == 0 ≡ true → y == 0 ≡ false → nat_cmp x y ≡ Less
first_zero x y h g = grind (arith, nat_tests)

second_zero : (x y : ℕ) → x == 0 ≡ false → y == 0 ≡ true → nat_cmp x y ≡ Greater
second_zero x y h g = grind (arith, nat_tests)

-- one byte with its escape
abbrev one : Bool → ℕ → List ℕ
one b x = cond b (0 ∷ 255 ∷ []) (x ∷ [])

escape_order : (a b r s : List ℕ) → slice_cmp nat_cmp (escaped a ++ 0 ∷ 0 ∷ r) (escaped b ++ 0 ∷ 0 ∷ s) ≡ ordering_then (slice_cmp nat_cmp a b) (slice_cmp nat_cmp r s)
escape_order [] [] r s = refl
escape_order [] (y ∷ b) r s =
    elim (y == 0) as (λ v. y == 0 ≡ v → slice_cmp nat_cmp (0 ∷ 0 ∷ r) ((one v y ++ escaped b) ++ 0 ∷ 0 ∷ s) ≡ Less) [
      | true ↦ λ h. refl
      | false ↦ λ h. ap (λ o. ordering_then o (slice_cmp nat_cmp (0 ∷ r) (escaped b ++ 0 ∷ 0 ∷ s))) (zero_first y h)
    ] refl
escape_order (x ∷ a) [] r s =
    elim (x == 0) as (λ u. x == 0 ≡ u → slice_cmp nat_cmp ((one u x ++ escaped a) ++ 0 ∷ 0 ∷ r) (0 ∷ 0 ∷ s) ≡ Greater) [
      | true ↦ λ h. refl
      | false ↦ λ h. ap (λ o. ordering_then o (slice_cmp nat_cmp (escaped a ++ 0 ∷ 0 ∷ r) (0 ∷ s))) (zero_last x h)
    ] refl
escape_order (x ∷ a) (y ∷ b) r s =
    let before = slice_cmp nat_cmp a b in
    let after = slice_cmp nat_cmp r s in
    let rest = slice_cmp nat_cmp (escaped a ++ 0 ∷ 0 ∷ r) (escaped b ++ 0 ∷ 0 ∷ s) in
    elim (x == 0) as (λ u. x == 0 ≡ u → slice_cmp nat_cmp ((one u x ++ escaped a) ++ 0 ∷ 0 ∷ r) ((one (y == 0) y ++ escaped b) ++ 0 ∷ 0 ∷ s) ≡ ordering_then (ordering_then (nat_cmp x y) before) after) [
      | true ↦ λ h. elim (y == 0) as (λ v. y == 0 ≡ v → slice_cmp nat_cmp ((0 ∷ 255 ∷ escaped a) ++ 0 ∷ 0 ∷ r) ((one v y ++ escaped b) ++ 0 ∷ 0 ∷ s) ≡ ordering_then (ordering_then (nat_cmp x y) before) after) [
        | true ↦ λ g. escape_order a b r s ∙ ap (λ o. ordering_then (ordering_then o before) after) (sym (both_zero x y h g))
        | false ↦ λ g. ap (λ o. ordering_then o (slice_cmp nat_cmp (255 ∷ (escaped a ++ 0 ∷ 0 ∷ r)) (escaped b ++ 0 ∷ 0 ∷ s))) (zero_first y g)
            ∙ ap (λ o. ordering_then (ordering_then o before) after) (sym (first_zero x y h g))
      ] refl
      | false ↦ λ h. elim (y == 0) as (λ v. y == 0 ≡ v → slice_cmp nat_cmp ((x ∷ escaped a) ++ 0 ∷ 0 ∷ r) ((one v y ++ escaped b) ++ 0 ∷ 0 ∷ s) ≡ ordering_then (ordering_then (nat_cmp x y) before) after) [
        | true ↦ λ g. ap (λ o. ordering_then o (slice_cmp nat_cmp (escaped a ++ 0 ∷ 0 ∷ r) (255 ∷ (escaped b ++ 0 ∷ 0 ∷ s)))) (zero_last x h)
            ∙ ap (λ o. ordering_then (ordering_then o before) after) (sym (second_zero x y h g))
        | false ↦ λ g. ap (ordering_then (nat_cmp x y)) (escape_order a b r s) ∙ sym (then_assoc (nat_cmp x y) before after)
      ] refl
    ] refl

tagged_order : (a b r s : List ℕ) → slice_cmp nat_cmp ((escaped a ++ 0 ∷ 0 ∷ []) ++ r) ((escaped b ++ 0 ∷ 0 ∷ []) ++ s) ≡ ordering_then (slice_cmp nat_cmp a b) (slice_cmp nat_cmp r s)
tagged_order a b r s =
    (λ i. slice_cmp nat_cmp (append_assoc (escaped a) (0 ∷ 0 ∷ []) r i) (append_assoc (escaped b) (0 ∷ 0 ∷ []) s i)) ∙ escape_order a b r s

part_order : (kind : Kind) (v w : Value) (r s : List ℕ) → is_part_of kind v ≡ true → is_part_of kind w ≡ true
    → slice_cmp nat_cmp (part_bytes v ++ r) (part_bytes w ++ s) ≡ ordering_then (value_cmp v w) (slice_cmp nat_cmp r s)
part_order Kind.Int Value.Null w r s h g = absurd (subst T (sym h) tt)
part_order Kind.Int (Value.Text a) w r s h g = absurd (subst T (sym h) tt)
part_order Kind.Int (Value.Bytes a) w r s h g = absurd (subst T (sym h) tt)
part_order Kind.Int (Value.Int m) Value.Null r s h g = absurd (subst T (sym g) tt)
part_order Kind.Int (Value.Int m) (Value.Text b) r s h g = absurd (subst T (sym g) tt)
part_order Kind.Int (Value.Int m) (Value.Bytes b) r s h g = absurd (subst T (sym g) tt)
part_order Kind.Int (Value.Int m) (Value.Int n) r s h g =
    int_bytes_order m n r s h g ∙ ap (λ o. ordering_then o (slice_cmp nat_cmp r s)) (sym (then_equal (int_cmp m n)))
part_order Kind.Text Value.Null w r s h g = absurd (subst T (sym h) tt)
part_order Kind.Text (Value.Int m) w r s h g = absurd (subst T (sym h) tt)
part_order Kind.Text (Value.Bytes a) w r s h g = absurd (subst T (sym h) tt)
part_order Kind.Text (Value.Text a) Value.Null r s h g = absurd (subst T (sym g) tt)
part_order Kind.Text (Value.Text a) (Value.Int n) r s h g = absurd (subst T (sym g) tt)
part_order Kind.Text (Value.Text a) (Value.Bytes b) r s h g = absurd (subst T (sym g) tt)
part_order Kind.Text (Value.Text a) (Value.Text b) r s h g = tagged_order a b r s
part_order Kind.Bytes Value.Null w r s h g = absurd (subst T (sym h) tt)
part_order Kind.Bytes (Value.Int m) w r s h g = absurd (subst T (sym h) tt)
part_order Kind.Bytes (Value.Text a) w r s h g = absurd (subst T (sym h) tt)
part_order Kind.Bytes (Value.Bytes a) Value.Null r s h g = absurd (subst T (sym g) tt)
part_order Kind.Bytes (Value.Bytes a) (Value.Int n) r s h g = absurd (subst T (sym g) tt)
part_order Kind.Bytes (Value.Bytes a) (Value.Text b) r s h g = absurd (subst T (sym g) tt)
part_order Kind.Bytes (Value.Bytes a) (Value.Bytes b) r s h g = tagged_order a b r s

keys_order : (kinds : List Kind) (x y : List Value) (r s : List ℕ) → is_key_of kinds x ≡ true → is_key_of kinds y ≡ true
    → slice_cmp nat_cmp (key_bytes x ++ r) (key_bytes y ++ s) ≡ ordering_then (key_cmp x y) (slice_cmp nat_cmp r s)
keys_order [] [] [] r s h g = refl
keys_order [] (v ∷ x) y r s h g = absurd (subst T (sym h) tt)
keys_order [] [] (w ∷ y) r s h g = absurd (subst T (sym g) tt)
keys_order (kind ∷ kinds) [] y r s h g = absurd (subst T (sym h) tt)
keys_order (kind ∷ kinds) (v ∷ x) [] r s h g = absurd (subst T (sym g) tt)
keys_order (kind ∷ kinds) (v ∷ x) (w ∷ y) r s h g =
    (λ i. slice_cmp nat_cmp (append_assoc (part_bytes v) (key_bytes x) r i) (append_assoc (part_bytes w) (key_bytes y) s i))
    ∙ part_order kind v w (key_bytes x ++ r) (key_bytes y ++ s) (first_so (is_part_of kind v) _ h) (first_so (is_part_of kind w) _ g)
    ∙ ap (ordering_then (value_cmp v w)) (keys_order kinds x y r s (second_so (is_part_of kind v) _ h) (second_so (is_part_of kind w) _ g))
    ∙ sym (then_assoc (value_cmp v w) (key_cmp x y) (slice_cmp nat_cmp r s))

pub spelled_order : (kinds : List Kind) (a b : List ℕ) (x y : List Value) → Spells kinds a x → Spells kinds b y → slice_cmp nat_cmp a b ≡ key_cmp x y
spelled_order kinds a b x y h g =
    (λ i. slice_cmp nat_cmp ((sym h.same ∙ sym (append-nil (key_bytes x))) i) ((sym g.same ∙ sym (append-nil (key_bytes y))) i))
    ∙ keys_order kinds x y [] [] h.whole g.whole ∙ then_equal (key_cmp x y)

-- An integer moved up by 2^63 is moved back, and its eight bytes are in the order of the numbers.
use Rattle.std.specs.Prelude.{◌≡◌, ℕ, zero, suc, ℤ, pos, negsuc, ◌+◌, ◌-◌, ◌*◌, ◌/◌, ◌%◌, ◌^◌, ◌<◌, true, false, cond, ◌==◌, nat_le, nat_lt, List, ◌++◌}
use Rattle.std.proofs.Common.{refl, sym, ap, subst, ◌∙◌, arith, get_or, Less, Equal, Greater}
use Rattle.std.specs.Cmp.Lexicographic.{slice_cmp}
use Rattle.std.specs.Int.{from_be_bytes, w64, byte_at, bytes_high_first}
use Rattle.std.specs.Ordering.{nat_cmp, int_cmp, ordering_then}
use Rattle.std.specs.declared.cmp.Ordering.{Ordering}
use Rattle.std.proofs.lemmas.Bool.Decides.{nat_tests}
use Rattle.std.proofs.Math.Nat.{mul-le-mul_left, div-add-mod, mul-add-mod_self_left, mod-eq_of_lt, mod-lt, pow-suc}
use Rattle.jpa_value.specs.Value.{is_i64}
use Rattle.jpa_rows.specs.keys.Keys.{shifted, int_bytes}
use Rattle.jpa_rows.specs.keys.Reading.{unshifted}

big : (n : ℕ) → nat_le (2 ^ 63) (n + 2 ^ 63) ≡ true
big n = grind (arith, nat_tests)

small : (n : ℕ) → n < 2 ^ 63 → nat_le (2 ^ 63) (2 ^ 63 - suc n) ≡ false
small n h = grind (arith, nat_tests)

back : (n : ℕ) → n < 2 ^ 63 → 2 ^ 63 - 1 - (2 ^ 63 - suc n) ≡ n
back n h = omega arith

more : (n : ℕ) → n + 2 ^ 63 - 2 ^ 63 ≡ n
more n = omega arith

below_63 : (n : ℕ) → nat_lt n (2 ^ 63) ≡ true → n < 2 ^ 63
below_63 n h = grind (arith, nat_tests)

pub shifted_back : (n : ℤ) → is_i64 n ≡ true → unshifted (shifted n) ≡ n
shifted_back (pos n) h = ap (λ b. cond b (pos (n + 2 ^ 63 - 2 ^ 63)) (negsuc (2 ^ 63 - 1 - (n + 2 ^ 63)))) (big n) ∙ ap pos (more n)
shifted_back (negsuc n) h =
    ap (λ b. cond b (pos (2 ^ 63 - suc n - 2 ^ 63)) (negsuc (2 ^ 63 - 1 - (2 ^ 63 - suc n)))) (small n (below_63 n h)) ∙ ap negsuc (back n (below_63 n h))

low : (n : ℕ) → n < 2 ^ 63 → n + 2 ^ 63 < 2 ^ 64
low n h = omega arith

low_too : (n : ℕ) → 2 ^ 63 - suc n < 2 ^ 64
low_too n = omega arith

pub shifted_fits : (n : ℤ) → is_i64 n ≡ true → shifted n < 2 ^ 64
shifted_fits (pos n) h = low n (below_63 n h)
shifted_fits (negsuc n) h = low_too n

-- ---- the other way round

up_again : (k : ℕ) → nat_le (2 ^ 63) k ≡ true → k - 2 ^ 63 + 2 ^ 63 ≡ k
up_again k h = grind (arith, nat_tests)

down_again : (k : ℕ) → nat_le (2 ^ 63) k ≡ false → 2 ^ 63 - suc (2 ^ 63 - 1 - k) ≡ k
down_again k h = grind (arith, nat_tests)

pub unshifted_back : (k : ℕ) → shifted (unshifted k) ≡ k
unshifted_back k =
    elim (nat_le (2 ^ 63) k) as (λ b. nat_le (2 ^ 63) k ≡ b → shifted (cond b (pos (k - 2 ^ 63)) (negsuc (2 ^ 63 - 1 - k))) ≡ k) [
      | true ↦ λ h. up_again k h
      | false ↦ λ h. down_again k h
    ] refl

fits_up : (k : ℕ) → k < 2 ^ 64 → nat_lt (k - 2 ^ 63) 9223372036854775808 ≡ true
fits_up k h = grind (arith, nat_tests)

fits_down : (k : ℕ) → nat_lt (2 ^ 63 - 1 - k) 9223372036854775808 ≡ true
fits_down k = grind (arith, nat_tests)

pub unshifted_fits : (k : ℕ) → k < 2 ^ 64 → is_i64 (unshifted k) ≡ true
unshifted_fits k h =
    elim (nat_le (2 ^ 63) k) as (λ b. is_i64 (cond b (pos (k - 2 ^ 63)) (negsuc (2 ^ 63 - 1 - k))) ≡ true) [
      | true ↦ fits_up k h
      | false ↦ fits_down k
    ]

-- eight bytes make a number of 64 bits
pub eight_fit : (bytes : List ℕ) → ((i : ℕ) → get_or bytes i 0 < 256) → from_be_bytes w64 bytes < 2 ^ 64
eight_fit bytes small =
    let a = small 0 in let b = small 1 in let c = small 2 in let d = small 3 in
    let e = small 4 in let f = small 5 in let g = small 6 in let h = small 7 in
    omega arith

-- ---- order

both_up : (m n : ℕ) → nat_cmp (m + 2 ^ 63) (n + 2 ^ 63) ≡ int_cmp (pos m) (pos n)
both_up m n = grind (arith, nat_tests)

both_down : (m n : ℕ) → m < 2 ^ 63 → n < 2 ^ 63 → nat_cmp (2 ^ 63 - suc m) (2 ^ 63 - suc n) ≡ int_cmp (negsuc m) (negsuc n)
both_down m n h g = grind (arith, nat_tests)

up_down : (m n : ℕ) → nat_cmp (m + 2 ^ 63) (2 ^ 63 - suc n) ≡ Greater
up_down m n = grind (arith, nat_tests)

down_up : (m n : ℕ) → nat_cmp (2 ^ 63 - suc m) (n + 2 ^ 63) ≡ Less
down_up m n = grind (arith, nat_tests)

pub shifted_order : (m n : ℤ) → is_i64 m ≡ true → is_i64 n ≡ true → nat_cmp (shifted m) (shifted n) ≡ int_cmp m n
shifted_order (pos m) (pos n) h g = both_up m n
shifted_order (pos m) (negsuc n) h g = up_down m n
shifted_order (negsuc m) (pos n) h g = down_up m n
shifted_order (negsuc m) (negsuc n) h g = both_down m n (below_63 m h) (below_63 n g)

-- ---- bytes in order

-- what stands higher decides, and else what stands lower
higher : (m q x p y : ℕ) → x < m → q < p → nat_cmp (m * q + x) (m * p + y) ≡ Less
higher m q x p y h g = let k = mul-le-mul_left {m = suc q} {n = p} m g in grind (arith, nat_tests, k)

lower : (m q x p y : ℕ) → y < m → p < q → nat_cmp (m * q + x) (m * p + y) ≡ Greater
lower m q x p y h g = let k = mul-le-mul_left {m = suc p} {n = q} m g in grind (arith, nat_tests, k)

level : (n x y : ℕ) → nat_cmp (n + x) (n + y) ≡ nat_cmp x y
level n x y = grind (arith, nat_tests)

is_below : (q p : ℕ) → nat_lt q p ≡ true → q < p
is_below q p e = grind (arith, nat_tests)

is_above : (q p : ℕ) → nat_lt q p ≡ false → q == p ≡ false → p < q
is_above q p e h = grind (arith, nat_tests)

is_same : (q p : ℕ) → q == p ≡ true → q ≡ p
is_same q p e = grind (arith, nat_tests)

two_digits : (m q x p y : ℕ) → x < m → y < m → nat_cmp (m * q + x) (m * p + y) ≡ ordering_then (nat_cmp q p) (nat_cmp x y)
two_digits m q x p y hx hy =
    elim (nat_lt q p) as (λ t. nat_lt q p ≡ t → nat_cmp (m * q + x) (m * p + y) ≡ ordering_then (cond t Less (cond (q == p) Equal Greater)) (nat_cmp x y)) [
      | true ↦ λ h. higher m q x p y hx (is_below q p h)
      | false ↦ λ h. elim (q == p) as (λ t. q == p ≡ t → nat_cmp (m * q + x) (m * p + y) ≡ ordering_then (cond t Equal Greater) (nat_cmp x y)) [
        | true ↦ λ g. ap (λ k. nat_cmp (m * k + x) (m * p + y)) (is_same q p g) ∙ level (m * p) x y
        | false ↦ λ g. lower m q x p y hy (is_above q p h g)
      ] refl
    ] refl

expanded : (m x p y : ℕ) → m * 256 * p + (m * y + x) ≡ m * (256 * p + y) + x
expanded m x p y = omega arith

regrouped : (m a q x p y : ℕ) → m * q + x ≡ a → 256 * p + y ≡ q → m * 256 * p + (m * y + x) ≡ a
regrouped m a q x p y e h = expanded m x p y ∙ ap (λ k. m * k + x) h ∙ e

in_digit : (m x y : ℕ) → x < m → y < 256 → m * y + x < m * 256
in_digit m x y hx hy = let k = mul-le-mul_left {m = suc y} {n = 256} m hy in omega (arith, k)

byte_below : (q : ℕ) → q % 256 < 256
byte_below q = omega arith

-- the lowest digits of a number are one byte and those below it
low_digits : (m a : ℕ) → a % m < m → a % (m * 256) ≡ m * (a / m % 256) + a % m
low_digits m a h =
    let q = a / m in
    let parts : m * 256 * (q / 256) + (m * (q % 256) + a % m) ≡ a = regrouped m a q (a % m) (q / 256) (q % 256) (div-add-mod a m) (div-add-mod q 256) in
    ap (λ k. k % (m * 256)) (sym parts) ∙ mul-add-mod_self_left (m * 256) (q / 256) (m * (q % 256) + a % m) ∙ mod-eq_of_lt (in_digit m (a % m) (q % 256) h (byte_below q))

byte_is : (k n : ℕ) → byte_at k n ≡ n / 256 ^ k % 256
byte_is zero n = omega arith
byte_is (suc k) n = refl

pub then_assoc : (a b c : Ordering) → ordering_then (ordering_then a b) c ≡ ordering_then a (ordering_then b c)
then_assoc Less b c = refl
then_assoc Equal b c = refl
then_assoc Greater b c = refl

digit_order : (k a b : ℕ) → a % 256 ^ k < 256 ^ k → b % 256 ^ k < 256 ^ k → nat_cmp (a % 256 ^ suc k) (b % 256 ^ suc k) ≡ ordering_then (nat_cmp (byte_at k a) (byte_at k b)) (nat_cmp (a % 256 ^ k) (b % 256 ^ k))
digit_order k a b h g =
    ap (λ n. nat_cmp (a % n) (b % n)) (pow-suc 256 k)
    ∙ (λ i. nat_cmp (low_digits (256 ^ k) a h i) (low_digits (256 ^ k) b g i))
    ∙ two_digits (256 ^ k) (a / 256 ^ k % 256) (a % 256 ^ k) (b / 256 ^ k % 256) (b % 256 ^ k) h g
    ∙ (λ i. ordering_then (nat_cmp (sym (byte_is k a) i) (sym (byte_is k b) i)) (nat_cmp (a % 256 ^ k) (b % 256 ^ k)))

more_digits : (m : ℕ) → 0 < m → 0 < m * 256
more_digits m h = omega arith

power_positive : (k : ℕ) → 0 < 256 ^ k
power_positive zero = omega arith
power_positive (suc k) = subst (λ n. 0 < n) (sym (pow-suc 256 k)) (more_digits (256 ^ k) (power_positive k))

power_above : (k a : ℕ) → a % 256 ^ k < 256 ^ k
power_above k a = mod-lt a (power_positive k)

none_below : (a b : ℕ) → nat_cmp (a % 256 ^ 0) (b % 256 ^ 0) ≡ Equal
none_below a b = grind (arith, nat_tests)

digits_order : (k a b : ℕ) (r s : List ℕ) → slice_cmp nat_cmp (bytes_high_first k a ++ r) (bytes_high_first k b ++ s) ≡ ordering_then (nat_cmp (a % 256 ^ k) (b % 256 ^ k)) (slice_cmp nat_cmp r s)
digits_order zero a b r s = ap (λ o. ordering_then o (slice_cmp nat_cmp r s)) (sym (none_below a b))
digits_order (suc k) a b r s =
    ap (ordering_then (nat_cmp (byte_at k a) (byte_at k b))) (digits_order k a b r s)
    ∙ sym (then_assoc (nat_cmp (byte_at k a) (byte_at k b)) (nat_cmp (a % 256 ^ k) (b % 256 ^ k)) (slice_cmp nat_cmp r s))
    ∙ ap (λ o. ordering_then o (slice_cmp nat_cmp r s)) (sym (digit_order k a b (power_above k a) (power_above k b)))

whole : (a : ℕ) → a < 2 ^ 64 → a % 256 ^ 8 ≡ a
whole a h = omega arith

pub int_bytes_order : (m n : ℤ) (r s : List ℕ) → is_i64 m ≡ true → is_i64 n ≡ true → slice_cmp nat_cmp (int_bytes m ++ r) (int_bytes n ++ s) ≡ ordering_then (int_cmp m n) (slice_cmp nat_cmp r s)
int_bytes_order m n r s h g =
    digits_order 8 (shifted m) (shifted n) r s
    ∙ (λ i. ordering_then (nat_cmp (whole (shifted m) (shifted_fits m h) i) (whole (shifted n) (shifted_fits n g) i)) (slice_cmp nat_cmp r s))
    ∙ ap (λ o. ordering_then o (slice_cmp nat_cmp r s)) (shifted_order m n h g)

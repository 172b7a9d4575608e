-- Which answers of a converter count: each text and each byte string of the program is a value of the program.
use Rattle.std.specs.Prelude.{◌≡◌, ℕ, suc, ◌<◌, true, nat_lt, List, [], ◌∷◌}
use Rattle.std.specs.List.{list_all}
use Rattle.std.proofs.Common.{refl, arith, get_or, Fits, w8}
use Rattle.std.proofs.lemmas.Bool.Decides.{nat_tests}
use Rattle.std.specs.Cmp.Derive.{both_true}

byte_below : (n : ℕ) → Fits w8 n → n < 256
byte_below n h = omega arith

below_number : (n : ℕ) → n < 256 → nat_lt n 256 ≡ true
below_number n h = grind (arith, nat_tests)

pub bytes_fit : (bytes : List ℕ) → ((i : ℕ) → Fits w8 (get_or bytes i 0)) → list_all (λ b. nat_lt b 256) bytes ≡ true
bytes_fit [] h = refl
bytes_fit (b ∷ bytes) h = both_true (below_number b (byte_below b (h 0))) (bytes_fit bytes (λ i. h (suc i)))

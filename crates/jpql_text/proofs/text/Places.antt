-- The item at a place of a list, and those after it.
use Rattle.std.proofs.Common.{◌≡◌, ℕ, zero, suc, ◌+◌, ◌<◌, ◌≤◌, Bool, true, false, List, [], ◌∷◌, refl, ap, sym, ◌∙◌, arith, length, drop, get_or, add-one, Option, Some, None}
use Rattle.std.proofs.Math.Seq.{drop-cons}
use Rattle.jpql_grammar.specs.grammar.Limits.{nests_over, nest_step}
use Rattle.jpql_grammar.proofs.grammar.NestingLaws.{nests_on, nests_past}

pub drop_past : {A : Type 0} (xs : List A) (i : ℕ) → length xs ≤ i → drop i xs ≡ []
drop_past [] zero h = refl
drop_past [] (suc i) h = refl
drop_past (x ∷ xs) zero h = absurd (omega arith)
drop_past (x ∷ xs) (suc i) h = drop_past xs i (omega arith)

byte_left : (xs : List ℕ) (i d : ℕ) → i < length xs → drop i xs ≡ get_or xs i d ∷ drop (i + 1) xs
byte_left xs i d h = drop-cons xs i d h ∙ rw add-one

-- one byte more of a text
pub deep_here : (xs : List ℕ) (i d n : ℕ) (inside : Bool) → i < length xs → nest_step 32 inside n (get_or xs i d) ≡ None → nests_over 32 inside n (drop i xs) ≡ true
deep_here xs i d n inside h e = rw (byte_left xs i d h) (nests_past 32 n inside (get_or xs i d) (drop (i + 1) xs) e)

pub deep_on : (xs : List ℕ) (i d n m : ℕ) (inside after : Bool) → i < length xs → nest_step 32 inside n (get_or xs i d) ≡ Some (after, m)
    → nests_over 32 inside n (drop i xs) ≡ nests_over 32 after m (drop (i + 1) xs)
deep_on xs i d n m inside after h e = rw (byte_left xs i d h) (nests_on 32 n m inside after (get_or xs i d) (drop (i + 1) xs) e)

-- at the end of a text nothing is too deep
pub nothing_deep : (most n : ℕ) (inside : Bool) (xs : List ℕ) (i : ℕ) → length xs ≤ i → nests_over most inside n (drop i xs) ≡ false
unfolding nests_over
nothing_deep most n inside xs i h = rw (drop_past xs i h)

-- The first of the classes that passes a test.
use Rattle.std.specs.Prelude.{◌≡◌, ℕ, suc, ◌+◌, ◌-◌, ◌<◌, Bool, false, cond, find, Some}
use Rattle.std.proofs.Common.{ap, ◌∙◌, arith}
use Rattle.std.specs.List.{range_with_len}

-- among the numbers from k on below n
module _ (p : ℕ → Bool) (k n : ℕ) (h : k < n) where
  first : find p (range_with_len k (n - k)) ≡ cond (p k) (Some k) (find p (range_with_len (k + 1) (n - (k + 1))))
  first = let counted : n - k ≡ suc (n - (k + 1)) = omega arith in ap (λ count. find p (range_with_len k count)) counted

  pub find_next : p k ≡ false → find p (range_with_len k (n - k)) ≡ find p (range_with_len (k + 1) (n - (k + 1)))
  find_next e = first ∙ ap (λ b. cond b (Some k) (find p (range_with_len (k + 1) (n - (k + 1))))) e

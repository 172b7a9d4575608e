-- How deep parentheses nest behind one byte of a text.
use Rattle.std.proofs.Common.{◌≡◌, ℕ, zero, suc, ◌==◌, ◌+◌, ◌-◌, Bool, true, false, nat_le, List, ◌∷◌, Some, None, ap, arith}
use Rattle.jpql_trees.specs.tree.Names.{Text}
use Rattle.jpql_grammar.specs.grammar.Limits.{nests_over, one_closed, nest_step}
use Rattle.jpql_grammar.proofs.grammar.Tools.{choice, same}

closed_less : (n : ℕ) → one_closed n ≡ n - 1
closed_less zero = omega arith
closed_less (suc n) = omega arith

plain : (most k : ℕ) (q after : Bool) (m : ℕ) (bs : Text) → ◌≡◌ {A = Bool × ℕ} (q, k) (after, m) → nests_over most q k bs ≡ nests_over most after m bs
plain most k q after m bs h = ap (λ (r : Bool × ℕ). nests_over most r.0 r.1 bs) h

-- one byte of a text
pub nests_on : (most n m : ℕ) (inside after : Bool) (b : ℕ) (bs : Text) → nest_step most inside n b ≡ Some (after, m) → nests_over most inside n (b ∷ bs) ≡ nests_over most after m bs
unfolding nests_over
nests_on most n m true after b bs h = choice (b == 39) _ _ _ h
    (λ e h. rw e (plain most n false after m bs (same _ _ h)))
    (λ e h. rw e (plain most n true after m bs (same _ _ h)))
nests_on most n m false after b bs h = choice (b == 39) _ _ _ h
    (λ e h. rw e (plain most n true after m bs (same _ _ h)))
    (λ e h. choice (b == 40) _ _ _ h
    (λ g h. choice (nat_le most n) _ _ _ h (λ l h. absurd cc) (λ l h. let one : suc n ≡ n + 1 = omega arith in rw (e, g, l) (rw one (plain most (n + 1) false after m bs (same _ _ h)))))
    (λ g h. choice (b == 41) _ _ _ h (λ c h. rw (e, g, c) (rw (closed_less n) (plain most (n - 1) false after m bs (same _ _ h))))
    (λ c h. rw (e, g, c) (plain most n false after m bs (same _ _ h)))))

pub nests_past : (most n : ℕ) (inside : Bool) (b : ℕ) (bs : Text) → nest_step most inside n b ≡ None → nests_over most inside n (b ∷ bs) ≡ true
unfolding nests_over
nests_past most n inside b bs h = choice (b == 39) _ _ _ h (λ e h. absurd cc) (λ e h. choice inside _ _ _ h (λ f h. absurd cc)
    (λ f h. choice (b == 40) _ _ _ h (λ g h. choice (nat_le most n) _ _ _ h (λ l h. rw (e, f, g, l)) (λ l h. absurd cc))
    (λ g h. choice (b == 41) _ _ _ h (λ c h. absurd cc) (λ c h. absurd cc))))

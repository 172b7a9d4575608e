-- One token of those up to the parenthesis that closes.
use Rattle.std.proofs.Common.{◌≡◌, ℕ, zero, suc, ◌+◌, ◌-◌, ◌<◌, ◌≤◌, true, false, List, [], ◌∷◌, length, refl, arith}
use Rattle.jpql_grammar.specs.declared.grammar.token.Mark.TheVariants as m
use Rattle.jpql_grammar.specs.declared.grammar.token.Token.{Token}
use Rattle.jpql_grammar.specs.declared.grammar.token.Token.TheVariants as t
use Rattle.jpql_grammar.specs.grammar.Nesting.{past_close}
use Rattle.jpql_grammar.specs.grammar.Values.{is_mark}

-- the parenthesis is closed
pub done : (d : ℕ) (x : Token) (rest : List Token) → d ≡ 0 → is_mark m.Close x ≡ true → past_close d (x ∷ rest) ≡ rest
unfolding past_close
done zero (t.Mark m.Close) rest z e = refl
done zero _ rest z e = absurd cc
done (suc d) x rest z e = absurd (omega arith)

-- one that was opened inside it is
pub closes : (d : ℕ) (x : Token) (rest : List Token) → 0 < d → is_mark m.Close x ≡ true → past_close d (x ∷ rest) ≡ past_close (d - 1) rest
unfolding past_close
closes zero x rest z e = absurd (omega arith)
closes (suc d) (t.Mark m.Close) rest z e = let less : suc d - 1 ≡ d = omega arith in rw less
closes (suc d) _ rest z e = absurd cc

-- one more opens
pub opens : (d : ℕ) (x : Token) (rest : List Token) → is_mark m.Open x ≡ true → past_close d (x ∷ rest) ≡ past_close (d + 1) rest
unfolding past_close
opens d (t.Mark m.Open) rest e = let more : d + 1 ≡ suc d = omega arith in rw more
opens d _ rest e = absurd cc

-- any other token is passed
pub passes : (d : ℕ) (x : Token) (rest : List Token) → is_mark m.Close x ≡ false → is_mark m.Open x ≡ false → past_close d (x ∷ rest) ≡ past_close d rest
unfolding past_close
passes d (t.Mark m.Open) rest e f = absurd cc
passes d (t.Mark m.Close) rest e f = absurd cc
passes zero _ rest e f = refl
passes (suc d) _ rest e f = refl

-- where nothing is left nothing comes behind it
pub none_left : (d : ℕ) (ts : List Token) → length ts ≤ 0 → past_close d ts ≡ ts
unfolding past_close
none_left d [] h = refl
none_left d (x ∷ ts) h = absurd (omega arith)

-- What an open parenthesis begins is told by what follows the one that closes it.
use Rattle.std.proofs.Common.{◌≡◌, true, false, not, List, ◌∷◌, refl, ap, ◌∙◌}
use Rattle.jpql_grammar.specs.declared.grammar.token.Keyword.TheVariants as k
use Rattle.jpql_grammar.specs.declared.grammar.token.Mark.TheVariants as m
use Rattle.jpql_grammar.specs.declared.grammar.token.Token.{Token}
use Rattle.jpql_grammar.specs.declared.grammar.token.Token.TheVariants as t
use Rattle.jpql_grammar.specs.grammar.ValueGrammar.{Value°, sum, Sums°, no_sums, plus, minus, product, Times°, no_times, times, unsigned, positive, negative, integer, text, parameter, path, call, group, When°, write_value, write_times, write_sums, write_when}
use Rattle.jpql_grammar.specs.grammar.Grammar.{Cond°, write_cond}
use Rattle.jpql_grammar.specs.grammar.Nesting.{past_close}
use Rattle.jpql_grammar.specs.grammar.Values.{goes_on_at, opens_condition}
use Rattle.jpql_grammar.proofs.grammar.Calls.{of_call}
use Rattle.jpql_grammar.proofs.grammar.Skips.{opened, close, value_skip, when_skip, cond_skip}

times_go : (us : Times°) (ps : Sums°) (rest : List Token) → goes_on_at rest ≡ true → goes_on_at (write_times us (write_sums ps rest)) ≡ true
times_go no_times no_sums rest e = e
times_go no_times (plus p ps) rest e = refl
times_go no_times (minus p ps) rest e = refl
times_go (times u us) ps rest e = refl

behind : (ts rest : List Token) → past_close 0 ts ≡ past_close 0 (close rest) → past_close 0 ts ≡ rest
unfolding past_close
behind ts rest e = e

-- a value that a test goes on with opens none
pub value_opens : (x : Value°) (rest : List Token) → goes_on_at rest ≡ true → opens_condition (write_value x rest) ≡ false
value_opens (sum (product (unsigned (integer n)) us) ps) rest e = refl
value_opens (sum (product (unsigned (text w)) us) ps) rest e = refl
value_opens (sum (product (unsigned (parameter w)) us) ps) rest e = refl
value_opens (sum (product (unsigned (path p)) us) ps) rest e = refl
value_opens (sum (product (unsigned (call x)) us) ps) rest e = of_call opens_condition false (λ j w ts b. refl) x (write_times us (write_sums ps rest))
value_opens (sum (product (unsigned (group a)) us) ps) rest e =
    let more = write_times us (write_sums ps rest) in
    ap (λ ts. not (goes_on_at ts)) (behind (write_value a (close more)) more ((value_skip a (close more)).past 0)) ∙ ap not (times_go us ps rest e)
value_opens (sum (product (positive a) us) ps) rest e = refl
value_opens (sum (product (negative a) us) ps) rest e = refl

-- and a condition in parentheses does, where what follows goes on no value
pub cond_opens : (x : Cond°) (rest : List Token) → goes_on_at rest ≡ false → opens_condition (opened (write_cond x (close rest))) ≡ true
cond_opens x rest e =
    ap (λ ts. not (goes_on_at ts)) (behind (write_cond x (close rest)) rest ((cond_skip x (close rest)).past 0)) ∙ ap not e

-- so does what stands behind WHEN
pub when_opens : (x : When°) (rest : List Token) → goes_on_at rest ≡ false → opens_condition (opened (write_when x (close rest))) ≡ true
when_opens x rest e =
    ap (λ ts. not (goes_on_at ts)) (behind (write_when x (close rest)) rest ((when_skip x (close rest)).past 0)) ∙ ap not e

-- Tokens that stand for others, one after the other.
use Rattle.std.proofs.Common.{◌≡◌, ℕ, suc, ◌+◌, Bool, List, [], ◌∷◌, ◌++◌, drop, length, Option, Some, None, refl, ap, sym, subst, ◌∙◌, append_assoc, append-nil, arith}
use Rattle.jpql_grammar.specs.declared.grammar.lists.Before.{Before}
use Rattle.jpql_grammar.specs.declared.grammar.lists.GivenList.{GivenList}
use Rattle.jpql_grammar.specs.declared.grammar.token.Mark.TheVariants as m
use Rattle.jpql_grammar.specs.declared.grammar.token.Token.{Token}
use Rattle.jpql_grammar.specs.declared.grammar.token.Token.TheVariants as t
use Rattle.jpql_trees.specs.tree.Names.{Text}
use Rattle.jpql_trees.specs.tree.Steps.{◌>>=◌}
use Rattle.jpql_grammar.specs.grammar.Values.{sees}
use Rattle.jpql_grammar.specs.grammar.Lists.{value_name, comma_behind, values_of, behind, spread_token, spread_from}
use Rattle.jpql_grammar.proofs.grammar.Tools.{same}
use Rattle.jpql_grammar.specs.declared.lexer.error.ReadError.{ReadError}
use Rattle.jpql_grammar.specs.declared.lexer.error.ReadError.TheVariants.{Memory, Syntax}
use Rattle.jpql_grammar.specs.lexer.Gives.{Fails}

-- tokens behind others that were found
abbrev pub onto : List Token → Option (List Token) → Option (List Token)
onto found tokens = tokens >>= λ more. Some (found ++ more)

-- what is left stands behind what was found
abbrev pub left_of : List GivenList → Before → List Token → List Token → Option (List Token)
left_of lists before found left = onto found (spread_from lists before left)

chained : (found front : List Token) (o : Option (List Token)) → onto found (o >>= λ more. Some (front ++ more)) ≡ onto (found ++ front) o
chained found front None = refl
chained found front (Some rest) = ap Some (sym (append_assoc found front rest))

-- one token more
one_turn : (lists : List GivenList) (before : Before) (found next left : List Token) (x : Token) → onto found (spread_token lists before x (sees m.Close left)) ≡ Some next
    → left_of lists before found (x ∷ left) ≡ left_of lists (behind before x) next left
unfolding spread_from
one_turn lists before found next left x e = from (spread_token lists before x (sees m.Close left)) refl e
  where
    from : (o : Option (List Token)) → spread_token lists before x (sees m.Close left) ≡ o → onto found o ≡ Some next → left_of lists before found (x ∷ left) ≡ left_of lists (behind before x) next left
    from None is e = absurd cc
    from (Some front) is e = rw is (chained found front (spread_from lists (behind before x) left) ∙ ap (λ all. onto all (spread_from lists (behind before x) left)) (same _ _ e))

no_turn : (lists : List GivenList) (before : Before) (found left : List Token) (x : Token) → onto found (spread_token lists before x (sees m.Close left)) ≡ None → left_of lists before found (x ∷ left) ≡ None
unfolding spread_from
no_turn lists before found left x e = from (spread_token lists before x (sees m.Close left)) refl e
  where
    from : (o : Option (List Token)) → spread_token lists before x (sees m.Close left) ≡ o → onto found o ≡ None → left_of lists before found (x ∷ left) ≡ None
    from None is e = rw is refl
    from (Some front) is e = absurd cc

-- the same where nothing was found, for want of memory or by the grammar
pub failed : (e : ReadError) (lists : List GivenList) (before : Before) (found left : List Token) (x : Token) (closes : Bool) (whole : Option (List Token)) → whole ≡ left_of lists before found (x ∷ left)
    → closes ≡ sees m.Close left → Fails e (onto found (spread_token lists before x closes)) → Fails e whole
failed Memory lists before found left x closes whole is c h = tt
failed Syntax lists before found left x closes whole is c h = is ∙ no_turn lists before found left x (subst (λ b. onto found (spread_token lists before x b) ≡ None) c h)

pub turned : (lists : List GivenList) (before next_before : Before) (found next left : List Token) (x : Token) (closes : Bool) (whole : Option (List Token)) → whole ≡ left_of lists before found (x ∷ left)
    → closes ≡ sees m.Close left → next_before ≡ behind before x → onto found (spread_token lists before x closes) ≡ Some next → whole ≡ left_of lists next_before next left
turned lists before next_before found next left x closes whole is c b h =
    is ∙ (one_turn lists before found next left x (subst (λ b. onto found (spread_token lists before x b) ≡ Some next) c h) ∙ ap (λ b. left_of lists b next left) (sym b))

pub ended : (lists : List GivenList) (before : Before) (found : List Token) → left_of lists before found [] ≡ Some found
unfolding spread_from
ended lists before found = ap Some (append-nil found)

-- one value more of a list
pub one_value : (old found next : List Token) (name said : Text) (n : ℕ) → found ≡ old ++ values_of name n → said ≡ name → next ≡ found ++ comma_behind n ++ t.Parameter (value_name said (suc n)) ∷ []
    → next ≡ old ++ values_of name (n + 1)
one_value old found next name said n so same_name e =
    let last = t.Parameter (value_name name (suc n)) ∷ [] in
    let one : n + 1 ≡ suc n = omega arith in
    rw one (e ∙ (ap (λ w. found ++ comma_behind n ++ t.Parameter (value_name w (suc n)) ∷ []) same_name ∙ (ap (λ all. all ++ comma_behind n ++ last) so
    ∙ (ap (λ all. all ++ last) (append_assoc old (values_of name n) (comma_behind n)) ∙ append_assoc old (values_of name n ++ comma_behind n) last))))

-- a list that is its own without the first is empty
pub none_left : (left : List Token) → left ≡ drop 1 left → left ≡ []
none_left [] h = refl
none_left (x ∷ left) h = absurd (omega (arith, ap length h))

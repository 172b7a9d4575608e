-- What reading a whole text answers, in words of the grammar.
use Rattle.std.proofs.Common.{◌≡◌, ℕ, ◌≤◌, ◌<◌, ◌⊎◌, inl, inr, min, Bool, true, false, ◌&&◌, List, length, Option, Some, None, cond, Result, Ok, Err, IfOk, IfErr, subst, ap, sym, ◌∙◌, refl, arith}
use Rattle.std.proofs.lemmas.Bool.{leb-true, leb-false}
use Rattle.jpa_value.specs.declared.refusal.Argument.TheVariants as argument
use Rattle.jpa_value.specs.declared.refusal.Cause.{Cause}
use Rattle.jpa_value.specs.declared.refusal.Cause.TheVariants as cause
use Rattle.jpql_grammar.specs.declared.grammar.lists.GivenList.{GivenList}
use Rattle.jpql_grammar.specs.declared.grammar.token.Token.{Token}
use Rattle.jpql_trees.specs.declared.tree.Language.{Language}
use Rattle.jpql_trees.specs.declared.tree.Query.{Query}
use Rattle.jpql_trees.specs.tree.Names.{Text}
use Rattle.jpql_trees.specs.tree.Steps.{◌>>=◌}
use Rattle.jpql_grammar.specs.grammar.Grammar.{IsStatement}
use Rattle.jpql_grammar.specs.grammar.Text.{IsText}
use Rattle.jpql_grammar.specs.grammar.Statements.{statement_of}
use Rattle.jpql_grammar.specs.grammar.Limits.{nests_over}
use Rattle.jpql_trees.specs.tree.Variables.{declared_variables}
use Rattle.jpql_grammar.specs.grammar.Lists.{spread, are_used}
use Rattle.jpql_grammar.specs.grammar.Queries.{IsQuery, speaks}
use Rattle.jpql_grammar.proofs.grammar.Tools.{both, same, step, choice}
use Rattle.jpql_grammar.proofs.grammar.One.{read_is}
use Rattle.jpql_grammar.proofs.grammar.Queries.{one_list, query_read}
use Rattle.jpql_grammar.specs.declared.lexer.error.ReadError.{ReadError}
use Rattle.jpql_grammar.specs.declared.lexer.error.ReadError.TheVariants.{Memory, Syntax}
use Rattle.jpql_grammar.specs.lexer.Gives.{Gives, Fails}
use Rattle.jpql_text.specs.text.Answers.{AreFew, AreTooMany, IsWithin, IsAnswered, UsesLists, cause_of, spoken, statement_in}
use Rattle.jpql_text.specs.text.Together.{most_values_together, values_together, become_few, most_cases, cases_in, has_few_cases, are_few}

abbrev pub itself : Query → Query
itself q = q

-- ---- which lists stand in the text

pub used_in : (l : Language) (lists : List GivenList) (text : Text) (written : List Token) (uses : Bool) → IsText l text written → uses ≡ are_used lists written → UsesLists l lists text uses
used_in l lists text written uses t e = record {
  used = λ tokens u. e ∙ ap (are_used lists) (one_list l text written tokens t u);
  none = λ no. absurd (no written t);
}

pub used_in_none : {X : Type 0} (l : Language) (lists : List GivenList) (view : X → List Token) (text : Text) → ((tokens : List Token) → IsText l text tokens → Gives {X = X} view (Err Syntax) (Some tokens))
    → UsesLists l lists text true
used_in_none l lists view text h = record {
  used = λ tokens t. (let none = h tokens t in absurd cc);
  none = λ no. refl;
}

-- ---- the statement of a text

said : (l : Language) (q found : Query) → spoken l q ≡ Some found → (speaks l q ≡ true) × (q ≡ found)
said l q found h = choice (speaks l q) (Some q) None (Some found) h (λ says e. (says, same _ _ e)) (λ _ e. absurd cc)

-- a text is the query that its tokens are as a statement
pub stated_is : (l : Language) (lists : List GivenList) (text : Text) (tokens : List Token) (found : Query) → IsText l text tokens → statement_in l lists tokens ≡ Some found → IsQuery l lists text found
stated_is l lists text tokens found t h =
    step (spread lists tokens >>= statement_of) (spoken l) found h (λ q eq hq. let (says, same_query) = said l q found hq in
    step (spread lists tokens) statement_of q eq (λ stand stands reads.
    subst (λ f. IsQuery l lists text f) same_query (says, (tokens, stand, t, stands, read_is stand q reads))))

-- and a query is the statement of its tokens
pub is_stated : (l : Language) (lists : List GivenList) (text : Text) (tokens : List Token) (q : Query) → IsText l text tokens → IsQuery l lists text q
    → statement_in l lists tokens ≡ Some q
is_stated l lists text tokens q t r =
    ap (λ o. o >>= spoken l) (query_read l lists text tokens q t r) ∙ ap (λ says. cond says (Some q) None) r.0

-- ---- what is answered

-- a text that isn't too long, nests not too deep, and has these tokens
module _ (l : Language) (lists : List GivenList) (text : Text) (written : List Token) (short : length text ≤ 16384) (shallow : nests_over 32 false 0 text ≡ false) (is : IsText l text written) where
  -- its lists become too many values, or it has too many words CASE
  pub too_many : are_few lists written ≡ false → IsAnswered l lists text (Err cause.Limit)
  too_many many = by_lists (become_few lists written) refl
    where
      answered : AreTooMany lists written → (AreFew lists written → ⊥) → IsAnswered l lists text (Err cause.Limit)
      answered over never = record {
        read = tt;
        refused = inr (inr (inl (written, is, over)));
        only = λ q r. absurd (never (r.1.2 written is));
      }

      by_lists : (b : Bool) → become_few lists written ≡ b → IsAnswered l lists text (Err cause.Limit)
      by_lists false e =
          let over : most_values_together < values_together lists written = leb-false (values_together lists written) most_values_together e in
          answered (inl over) (λ few. omega (arith, over, few.0))
      by_lists true e =
          let over : most_cases < cases_in written = leb-false (cases_in written) most_cases (sym (ap (λ b. b && has_few_cases written) e) ∙ many) in
          answered (inr over) (λ few. omega (arith, over, few.1))

  within : are_few lists written ≡ true → IsWithin l lists text
  within few = (
    short,
    shallow,
    λ tokens t. subst (AreFew lists) (one_list l text written tokens is t) (both (become_few lists written) (has_few_cases written) few
        (λ lists_few cases_few. (leb-true (values_together lists written) most_values_together lists_few, leb-true (cases_in written) most_cases cases_few))),
  )

  -- it is not read as a statement
  pub unread : are_few lists written ≡ true → (e : ReadError) → Fails e (statement_in l lists written) → IsAnswered l lists text (Err (cause_of e))
  unread few Memory h = record { read = tt; refused = tt; only = λ q r. inr refl }
  unread few Syntax h = record {
    read = tt;
    refused = (within few, none);
    only = λ q r. absurd (none q r.0);
  }
    where
      none : (q : Query) → IsQuery l lists text q → ⊥
      none q r = let never = sym h ∙ is_stated l lists text written q is r in cc

  found_query : (found : Query) → statement_in l lists written ≡ Some found → IsQuery l lists text found
  found_query found h = stated_is l lists text written found is h

  found_alone : (found q : Query) → statement_in l lists written ≡ Some found → IsQuery l lists text q → q ≡ found
  found_alone found q h r = same _ _ (sym (is_stated l lists text written q is r) ∙ h)

  -- or as one with too many variables
  pub too_many_variables : (found : Query) (n : ℕ) → statement_in l lists written ≡ Some found → n ≡ min 9 (declared_variables found) → 8 < n → IsAnswered l lists text (Err cause.Limit)
  too_many_variables found n h e more = record {
    read = tt;
    refused = inr (inr (inr (found, found_query found h, omega (arith, e, more))));
    only = λ q r. absurd (omega (arith, e, more, r.2, ap declared_variables (found_alone found q h r.0)));
  }

  pub tree_found : are_few lists written ≡ true → (found : Query) (n : ℕ) → statement_in l lists written ≡ Some found → n ≡ min 9 (declared_variables found) → n ≤ 8 → IsAnswered l lists text (Ok found)
  tree_found few found n h e fits = record {
    read = (found_query found h, within few, omega (arith, e, fits));
    refused = tt;
    only = λ q r. inl (ap Ok (sym (found_alone found q h r.0)));
  }

-- a text without tokens
pub no_tokens : {X : Type 0} (l : Language) (lists : List GivenList) (text : Text) (view : X → List Token) (e : ReadError) → length text ≤ 16384 → nests_over 32 false 0 text ≡ false
    → ((tokens : List Token) → IsText l text tokens → Gives {X = X} view (Err e) (Some tokens)) → IsAnswered l lists text (Err (cause_of e))
no_tokens l lists text view Memory short shallow h = record { read = tt; refused = tt; only = λ q r. inr refl }
no_tokens l lists text view Syntax short shallow h = record {
  read = tt;
  refused = ((short, shallow, λ tokens t. absurd (never tokens t)), none);
  only = λ q r. absurd (none q r.0);
}
  where
    never : (tokens : List Token) → IsText l text tokens → ⊥
    never tokens t = let none = h tokens t in cc

    none : (q : Query) → IsQuery l lists text q → ⊥
    none q (says, (tokens, stand, t, s, u)) = never tokens t

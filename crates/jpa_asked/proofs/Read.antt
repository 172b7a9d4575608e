-- Reading as a function is what the grammar says.
use Rattle.std.proofs.Common.{◌≡◌, ◌∙◌, inl, inr, ◌≤◌, ◌<◌, Bool, true, false, not, ◌&&◌, nat_le, List, [], length, Option, Some, None, refl, ap, sym}
use Rattle.std.proofs.lemmas.Bool.{le-leb, leb-true, lt-leb}
use Rattle.jpa_value.specs.Limits.{most_query_bytes, most_open_parentheses, most_query_variables}
use Rattle.jpa_value.specs.declared.refusal.Argument.{Argument}
use Rattle.jpa_value.specs.declared.refusal.Cause.{Cause}
use Rattle.jpql_grammar.specs.declared.grammar.lists.GivenList.{GivenList}
use Rattle.jpql_grammar.specs.declared.grammar.token.Token.{Token}
use Rattle.jpql_trees.specs.declared.tree.Language.{Language}
use Rattle.jpql_trees.specs.declared.tree.Query.{Query}
use Rattle.jpql_trees.specs.tree.Names.{Text}
use Rattle.jpql_grammar.specs.grammar.Limits.{nests_over}
use Rattle.jpql_grammar.specs.grammar.Queries.{IsQuery}
use Rattle.jpql_grammar.specs.grammar.Text.{IsText}
use Rattle.jpql_trees.specs.tree.Steps.{◌>>=◌}
use Rattle.jpql_trees.specs.tree.Variables.{declared_variables}
use Rattle.jpql_grammar.proofs.grammar.Tools.{both}
use Rattle.jpql_grammar.proofs.grammar.LexingLaws.{tokens_sound, tokens_complete}
use Rattle.jpql_text.proofs.text.Whole.{stated_is, is_stated}
use Rattle.jpql_text.specs.text.Answers.{statement_in, AreFew, AreTooMany, IsWithin, IsRead, IsOverLimit, IsRefused, UsesLists}
use Rattle.jpa_work.specs.context.Steps.{Done, Refused, Op, after, give, require, IsRefusedAs}
use Rattle.jpa_work.specs.context.Work.{Work}
use Rattle.jpa_asked.specs.declared.asked.Reading.{Reading}
use Rattle.jpa_asked.specs.Asking.{read_of, ReadsAs}
use Rattle.jpql_text.specs.text.Together.{most_values_together, values_together, become_few, most_cases, cases_in, has_few_cases, are_few}
use Rattle.jpa_asked.specs.Reading.{tokens_in, query_of, are_used_in, are_few_in, is_short, is_within, declares_few}

-- ---- the tree of a text

pub whole_read : (l : Language) (lists : List GivenList) (text : Text) (q : Query) → IsQuery l lists text q → query_of l lists text ≡ Some q
whole_read l lists text q (says, (tokens, stand, t, e, s)) =
    ap (λ (o : Option (List Token)). o >>= statement_in l lists) (tokens_complete l text tokens t) ∙ is_stated l lists text tokens q t (says, (tokens, stand, t, e, s))

pub read_whole : (l : Language) (lists : List GivenList) (text : Text) (q : Query) → query_of l lists text ≡ Some q → IsQuery l lists text q
read_whole l lists text q h = from (tokens_in l text) refl h
  where
    from : (o : Option (List Token)) → tokens_in l text ≡ o → (o >>= statement_in l lists) ≡ Some q → IsQuery l lists text q
    from None e h = absurd cc
    from (Some tokens) e h = stated_is l lists text tokens q (tokens_sound l text tokens e) h

none_read : (l : Language) (lists : List GivenList) (text : Text) → ((q : Query) → IsQuery l lists text q → ⊥) → query_of l lists text ≡ None
none_read l lists text never = from (query_of l lists text) refl
  where
    from : (o : Option Query) → query_of l lists text ≡ o → o ≡ None
    from None e = refl
    from (Some q) e = absurd (never q (read_whole l lists text q e))

-- ---- whether lists are used

used_so : (l : Language) (lists : List GivenList) (text : Text) (uses : Bool) → UsesLists l lists text uses → uses ≡ are_used_in lists (tokens_in l text)
used_so l lists text uses u = from (tokens_in l text) refl
  where
    from : (o : Option (List Token)) → tokens_in l text ≡ o → uses ≡ are_used_in lists o
    from None e = u.none (λ tokens t. let some = sym e ∙ tokens_complete l text tokens t in cc)
    from (Some tokens) e = u.used tokens (tokens_sound l text tokens e)

-- ---- the limits

short : (text : Text) → length text ≤ most_query_bytes → nests_over most_open_parentheses false 0 text ≡ false → is_short text ≡ true
short text fits shallow = λ i. (le-leb (length text) most_query_bytes fits) i && not (shallow i)

and_false : (b : Bool) → (b && false) ≡ false
and_false false = refl
and_false true = refl

few_in : (l : Language) (lists : List GivenList) (text : Text) → ((tokens : List Token) → IsText l text tokens → AreFew lists tokens) → are_few_in lists (tokens_in l text) ≡ true
few_in l lists text few = from (tokens_in l text) refl
  where
    from : (o : Option (List Token)) → tokens_in l text ≡ o → are_few_in lists o ≡ true
    from None e = refl
    from (Some tokens) e =
        let f = few tokens (tokens_sound l text tokens e) in
        λ i. (le-leb (values_together lists tokens) most_values_together f.0 i) && (le-leb (cases_in tokens) most_cases f.1 i)

few_of : (l : Language) (lists : List GivenList) (text : Text) → are_few_in lists (tokens_in l text) ≡ true → (tokens : List Token) → IsText l text tokens → AreFew lists tokens
few_of l lists text h tokens t =
    let few = sym (ap (are_few_in lists) (tokens_complete l text tokens t)) ∙ h in
    both (become_few lists tokens) (has_few_cases tokens) few
    (λ a b. (leb-true (values_together lists tokens) most_values_together a, leb-true (cases_in tokens) most_cases b))

too_many : (lists : List GivenList) (tokens : List Token) → AreTooMany lists tokens → are_few lists tokens ≡ false
too_many lists tokens (inl many) = ap (λ b. b && has_few_cases tokens) (lt-leb (values_together lists tokens) most_values_together many)
too_many lists tokens (inr many) = ap (λ b. become_few lists tokens && b) (lt-leb (cases_in tokens) most_cases many) ∙ and_false (become_few lists tokens)

many_in : (l : Language) (lists : List GivenList) (text : Text) (tokens : List Token) → IsText l text tokens → AreTooMany lists tokens → are_few_in lists (tokens_in l text) ≡ false
many_in l lists text tokens t many = ap (are_few_in lists) (tokens_complete l text tokens t) ∙ too_many lists tokens many

within : (l : Language) (lists : List GivenList) (text : Text) → IsWithin l lists text → is_within l lists text ≡ true
within l lists text fits = λ i. (short text fits.0 fits.1 i) && (few_in l lists text fits.2 i)

not_true : (b : Bool) → not b ≡ true → b ≡ false
not_true false h = refl
not_true true h = absurd cc

first : (a b : Bool) → (a && b) ≡ true → a ≡ true
first true b h = refl
first false b h = absurd cc

second : (a b : Bool) → (a && b) ≡ true → b ≡ true
second true b h = h
second false b h = absurd cc

is_so : (l : Language) (lists : List GivenList) (text : Text) → is_within l lists text ≡ true → IsWithin l lists text
is_so l lists text h =
    let fits = first (is_short text) _ h in (
      leb-true (length text) most_query_bytes (first _ (not (nests_over most_open_parentheses false 0 text)) fits),
      not_true _ (second (nat_le (length text) most_query_bytes) _ fits),
      few_of l lists text (second (is_short text) _ h),
    )

-- what is said of a text
abbrev said : Option Query → Bool → Reading
said tree uses = record { tree = tree; uses_lists = uses }

-- reading by its two tests
abbrev reading : Bool → Reading → Bool → Op Reading
reading b found few w = after (require b Cause.Limit w) (λ _ v. after (require few Cause.Limit v) (λ _. give found))

-- ---- what is read

pub read_tree : (l : Language) (lists : List GivenList) (text : Text) (uses : Bool) (q : Query) (w : Work) → UsesLists l lists text uses → IsRead l lists text q
    → read_of l lists text w ≡ Done (record { tree = Some q; uses_lists = uses }) w
read_tree l lists text uses q w u (is, fits, few) =
    let tree = whole_read l lists text q is in
    let used = sym (used_so l lists text uses u) in
    (λ i. reading (within l lists text fits i) (said (tree i) (used i)) (declares_few (tree i)) w)
    ∙ ap (λ b. reading true (said (Some q) uses) b w) (le-leb (declared_variables q) most_query_variables few)

pub read_none : (l : Language) (lists : List GivenList) (text : Text) (uses : Bool) (w : Work) → UsesLists l lists text uses → IsWithin l lists text → ((q : Query) → IsQuery l lists text q → ⊥)
    → read_of l lists text w ≡ Done (record { tree = None; uses_lists = uses }) w
read_none l lists text uses w u fits never =
    let tree = none_read l lists text never in
    let used = sym (used_so l lists text uses u) in
    λ i. reading (within l lists text fits i) (said (tree i) (used i)) (declares_few (tree i)) w

-- where the text is not within the limits
not_within : (l : Language) (lists : List GivenList) (text : Text) (w : Work) → is_within l lists text ≡ false → read_of l lists text w ≡ Refused Cause.Limit w.events
not_within l lists text w e = ap (λ b. reading b (said (query_of l lists text) (are_used_in lists (tokens_in l text))) (declares_few (query_of l lists text)) w) e

pub read_over : (l : Language) (lists : List GivenList) (text : Text) (w : Work) → IsOverLimit l lists text → read_of l lists text w ≡ Refused Cause.Limit w.events
read_over l lists text w (inl long) =
    not_within l lists text w (ap (λ b. (b && not (nests_over most_open_parentheses false 0 text)) && are_few_in lists (tokens_in l text)) (lt-leb (length text) most_query_bytes long))
read_over l lists text w (inr (inl deep)) =
    not_within l lists text w
    (ap (λ b. (nat_le (length text) most_query_bytes && not b) && are_few_in lists (tokens_in l text)) deep ∙ ap (λ b. b && are_few_in lists (tokens_in l text)) (and_false (nat_le (length text) most_query_bytes)))
read_over l lists text w (inr (inr (inl (tokens, t, many)))) =
    not_within l lists text w (ap (λ b. is_short text && b) (many_in l lists text tokens t many) ∙ and_false (is_short text))
read_over l lists text w (inr (inr (inr (q, is, many)))) = by_limits (is_within l lists text) refl
  where
    by_limits : (b : Bool) → is_within l lists text ≡ b → read_of l lists text w ≡ Refused Cause.Limit w.events
    by_limits false e = not_within l lists text w e
    by_limits true e =
        let tree = whole_read l lists text q is in
        (λ i. reading (e i) (said (tree i) (are_used_in lists (tokens_in l text))) (declares_few (tree i)) w)
        ∙ ap (λ b. reading true (said (Some q) (are_used_in lists (tokens_in l text))) b w) (lt-leb (declared_variables q) most_query_variables many)

-- outside the grammar
pub read_argument : (l : Language) (lists : List GivenList) (text : Text) (uses : Bool) (w : Work) (a : Argument) → UsesLists l lists text uses → IsRefused l lists text (Cause.IllegalArgument a)
    → read_of l lists text w ≡ Done (record { tree = None; uses_lists = uses }) w
read_argument l lists text uses w Argument.Syntax u h = read_none l lists text uses w u h.0 h.1
read_argument l lists text uses w a u h = absurd h

-- or for another cause
abbrev pub is_argument : Cause → Bool
is_argument (Cause.IllegalArgument a) = true
is_argument _ = false

pub read_refused : (l : Language) (lists : List GivenList) (text : Text) (w : Work) (r : Cause) → is_argument r ≡ false → IsRefused l lists text r → IsRefusedAs r w.events (read_of l lists text w)
read_refused l lists text w Cause.OutOfMemory e h = tt
read_refused l lists text w Cause.Limit e h = read_over l lists text w h
read_refused l lists text w (Cause.IllegalArgument a) e h = absurd cc
read_refused l lists text w r e h = absurd h

pub not_argument : (r : Cause) → ((a : Argument) → r ≡ Cause.IllegalArgument a → ⊥) → is_argument r ≡ false
not_argument (Cause.IllegalArgument a) never = absurd (never a refl)
not_argument r never = refl

-- ---- what was read is of the grammar

by_parts : (b : Bool) (one : Reading) (few : Bool) (other : Reading) (w : Work) → reading b one few w ≡ Done other w → (b ≡ true) × (one ≡ other) × (few ≡ true)
by_parts true one true other w h = (refl, cc, refl)
by_parts true one false other w h = absurd cc
by_parts false one few other w h = absurd cc

pub tree_read : (l : Language) (lists : List GivenList) (text : Text) (found : Reading) (q : Query) (w : Work) → read_of l lists text w ≡ Done found w → found.tree ≡ Some q → IsRead l lists text q
tree_read l lists text found q w h t =
    let (fits, same, few) = by_parts (is_within l lists text) (said (query_of l lists text) (are_used_in lists (tokens_in l text))) (declares_few (query_of l lists text)) found w h in
    let is = ap (λ (r : Reading). r.tree) same ∙ t in
    (read_whole l lists text q is, is_so l lists text fits, leb-true (declared_variables q) most_query_variables (ap declares_few (sym is) ∙ few))

-- so it is used as its tokens say
own_uses : (l : Language) (lists : List GivenList) (text : Text) → UsesLists l lists text (are_used_in lists (tokens_in l text))
own_uses l lists text = record {
  used = λ tokens t. ap (are_used_in lists) (tokens_complete l text tokens t);
  none = λ never. from (tokens_in l text) refl never;
}
  where
    from : (o : Option (List Token)) → tokens_in l text ≡ o → ((tokens : List Token) → IsText l text tokens → ⊥) → are_used_in lists o ≡ true
    from None e never = refl
    from (Some tokens) e never = absurd (never tokens (tokens_sound l text tokens e))

pub reads_as : (l : Language) (lists : List GivenList) (text : Text) (q : Query) (w : Work) → IsRead l lists text q → ReadsAs l lists text w q
reads_as l lists text q w is = (said (Some q) _, read_tree l lists text _ q w (own_uses l lists text) is, refl)

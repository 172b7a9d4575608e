-- Runs of bytes: where they may be cut off, and how the text between quotes is read in runs.
use Rattle.std.proofs.lemmas.Bool.{cases_lt}
use Rattle.std.proofs.lemmas.Bool.Decides.{nat_tests}
use Rattle.std.proofs.lemmas.List.Sums.{prefix_len-le-length, prefix_len_passes, prefix_len_stops}
use Rattle.std.proofs.lemmas.Str.{IsCharBoundary-start, IsCharBoundary-end, IsCharBoundary-before_ascii, IsCharBoundary-after_ascii}
use Rattle.std.proofs.Common.{◌≡◌, ℕ, zero, suc, ◌+◌, ◌-◌, ◌<◌, ◌≤◌, ◌==◌, Bool, true, false, List, [], ◌∷◌, ◌++◌, length, get_or, take, drop, IsUtf8, Option, Some, None, Result, Ok, Err, ℤ, nat_le, refl, ap, ◌∙◌, subst, inl, inr, arith, rules, append_assoc, add-one}
use Rattle.std.proofs.lemmas.Bool.{le-leb, lt-leb}
use Rattle.std.proofs.lemmas.Result.{OkIff-at_ok, OkIff-at_err}
use Rattle.std.proofs.lemmas.Str.Parse.{parse_signed_digits, numerals_by_fold, IsNumeralModel}
use Rattle.std.specs.Str.Parse.{ParsesSigned}
use Rattle.std.specs.Char.{is_ascii_digit}
use Rattle.std.specs.List.{prefix_len, list_all}
use mir.Syntax.{w64}
use Rattle.std.specs.Str.{IsCharBoundary}
use Rattle.jpql_trees.specs.tree.Names.{Text}
use Rattle.jpql_trees.specs.declared.tree.Language.{Language}
use Rattle.jpql_grammar.specs.declared.grammar.token.Token.{Token}
use Rattle.jpql_grammar.specs.grammar.Text.{begins, digits_value, greatest_integer, Piece}
use Rattle.jpql_grammar.proofs.grammar.Tools.{same}
use Rattle.jpql_grammar.proofs.grammar.LexingLaws.{one_piece}
use Rattle.jpql_grammar.specs.grammar.Lexing.{run, with_front, quoted_at, first, number_of, piece_at, tokens_at}
use Rattle.jpql_grammar.specs.declared.lexer.cut.Class.{Class}
use Rattle.jpql_grammar.specs.declared.lexer.cut.Class.TheVariants as class
use Rattle.jpql_grammar.specs.lexer.Classes.{is_in, as_tokens}

pub run_is : (p : ℕ → Bool) (xs : Text) → run p xs ≡ (take (prefix_len p xs) xs, drop (prefix_len p xs) xs)
unfolding run
run_is p [] = refl
run_is p (b ∷ bs) = by_test (p b) refl (run_is p bs)
  where
    by_test : (c : Bool) → p b ≡ c → run p bs ≡ (take (prefix_len p bs) bs, drop (prefix_len p bs) bs) → run p (b ∷ bs) ≡ (take (prefix_len p (b ∷ bs)) (b ∷ bs), drop (prefix_len p (b ∷ bs)) (b ∷ bs))
    by_test true e ih = let one : 1 + prefix_len p bs ≡ suc (prefix_len p bs) = omega arith in rw (e, ih) (rw one)
    by_test false e ih = rw e

after_ascii_run : (p : ℕ → Bool) (bs : List ℕ) (n : ℕ) → prefix_len p bs ≡ n → IsUtf8 bs → ((c : ℕ) → p c ≡ true → c < 128) → IsCharBoundary bs n
after_ascii_run p bs zero e utf8 ascii = IsCharBoundary-start bs utf8
after_ascii_run p bs (suc k) e utf8 ascii =
    rw (← add-one) (IsCharBoundary-after_ascii bs k utf8 (omega (arith, prefix_len-le-length p bs)) (ascii _ (prefix_len_passes p bs k 0 (omega arith))))

-- a run of ASCII bytes ends where a character does
ascii_run : (p : ℕ → Bool) (bs : List ℕ) → IsUtf8 bs → ((c : ℕ) → p c ≡ true → c < 128) → IsCharBoundary bs (prefix_len p bs)
ascii_run p bs = after_ascii_run p bs _ refl

-- and so does a run that only an ASCII byte stops
wide_run : (p : ℕ → Bool) (bs : List ℕ) → ((c : ℕ) → p c ≡ false → c < 128) → IsCharBoundary bs (prefix_len p bs)
wide_run p bs ascii =
    elim (cases_lt (prefix_len p bs) (length bs)) [
      | inl within ↦ IsCharBoundary-before_ascii bs _ within (ascii _ (prefix_len_stops p bs 0 within))
      | inr past ↦ subst (IsCharBoundary bs) (omega (arith, prefix_len-le-length p bs)) (IsCharBoundary-end bs)
    ]

pub run_boundary : (c : Class) (bs : List ℕ) → IsUtf8 bs → IsCharBoundary bs (prefix_len (is_in c) bs)
run_boundary class.Word bs utf8 = ascii_run (is_in class.Word) bs utf8 (λ c e. grind (arith, nat_tests))
run_boundary class.Digit bs utf8 = ascii_run (is_in class.Digit) bs utf8 (λ c e. grind (arith, nat_tests))
run_boundary class.Unquoted bs utf8 = wide_run (is_in class.Unquoted) bs (λ c e. grind (arith, nat_tests))

pub first_byte : (bs : List ℕ) → first bs ≡ get_or bs 0 0
first_byte [] = refl
first_byte (b ∷ bs) = refl

-- ---- quotes

pub front_twice : (a b : Text) (o : Option (Text × Text)) → with_front a (with_front b o) ≡ with_front (a ++ b) o
front_twice a b None = refl
front_twice a b (Some q) = rw append_assoc

pub quoted_run : (bs : Text) → quoted_at false bs ≡ with_front (run (is_in class.Unquoted) bs).0 (quoted_at false (run (is_in class.Unquoted) bs).1)
unfolding run quoted_at
quoted_run [] = refl
quoted_run (b ∷ bs) = by_test (b == 39) refl (quoted_run bs)
  where
    nothing_before : (o : Option (Text × Text)) → o ≡ with_front [] o
    nothing_before None = refl
    nothing_before (Some q) = refl

    by_test : (c : Bool) → (b == 39) ≡ c → quoted_at false bs ≡ with_front (run (is_in class.Unquoted) bs).0 (quoted_at false (run (is_in class.Unquoted) bs).1)
        → quoted_at false (b ∷ bs) ≡ with_front (run (is_in class.Unquoted) (b ∷ bs)).0 (quoted_at false (run (is_in class.Unquoted) (b ∷ bs)).1)
    by_test true e ih = rw (e, e) (nothing_before (quoted_at true bs))
    by_test false e ih = rw e (rw ih (front_twice (b ∷ []) (run (is_in class.Unquoted) bs).0 (quoted_at false (run (is_in class.Unquoted) bs).1)))

-- what stops the run is a quote
stops_at_quote : (bs : Text) → begins (is_in class.Unquoted) (run (is_in class.Unquoted) bs).1 ≡ false
unfolding run
stops_at_quote [] = refl
stops_at_quote (b ∷ bs) = by_test (is_in class.Unquoted b) refl (stops_at_quote bs)
  where
    by_test : (c : Bool) → is_in class.Unquoted b ≡ c → begins (is_in class.Unquoted) (run (is_in class.Unquoted) bs).1 ≡ false
        → begins (is_in class.Unquoted) (run (is_in class.Unquoted) (b ∷ bs)).1 ≡ false
    by_test true e ih = rw e ih
    by_test false e ih = rw (e, e)

quote_first : (rest : Text) → 0 < length rest → begins (is_in class.Unquoted) rest ≡ false → first rest ≡ 39
quote_first [] h e = absurd (omega arith)
quote_first (b ∷ rest) h e = grind (arith, nat_tests)

-- the text after the run, which is `rest`
module _ (bs plain rest : Text) (cut : (plain, rest) ≡ run (is_in class.Unquoted) bs) where
  pub rest_quote : 0 < length rest → first rest ≡ 39
  rest_quote h = quote_first rest h (rw (ap (λ (r : Text × Text). r.1) cut) (stops_at_quote bs))

  pub quoted_from : quoted_at false bs ≡ with_front plain (quoted_at false rest)
  quoted_from = rw (ap (λ (r : Text × Text). r.0) cut, ap (λ (r : Text × Text). r.1) cut) (quoted_run bs)

at_quote : (rest : Text) → first rest ≡ 39 → 0 < length rest → quoted_at false rest ≡ quoted_at true (drop 1 rest)
unfolding quoted_at
at_quote [] e h = absurd (omega arith)
at_quote (b ∷ rest) e h = rw e

no_text : (rest : Text) → length rest ≡ 0 → quoted_at false rest ≡ None
unfolding quoted_at
no_text [] h = refl
no_text (b ∷ rest) h = absurd (omega arith)

pub quoted_none : (bs plain rest : Text) → (plain, rest) ≡ run (is_in class.Unquoted) bs → length rest ≡ 0 → quoted_at false bs ≡ None
quoted_none bs plain rest cut h = quoted_from bs plain rest cut ∙ rw (no_text rest h)

pub quoted_some : (bs plain rest : Text) → (plain, rest) ≡ run (is_in class.Unquoted) bs → 0 < length rest → quoted_at false bs ≡ with_front plain (quoted_at true (drop 1 rest))
quoted_some bs plain rest cut h = quoted_from bs plain rest cut ∙ rw (at_quote rest (rest_quote bs plain rest cut h) h)

run_shorter : (p : ℕ → Bool) (bs : Text) → length (run p bs).1 ≤ length bs
unfolding run
run_shorter p [] = omega arith
run_shorter p (b ∷ bs) = by_test (p b) refl (run_shorter p bs)
  where
    by_test : (c : Bool) → p b ≡ c → length (run p bs).1 ≤ length bs → length (run p (b ∷ bs)).1 ≤ length (b ∷ bs)
    by_test true e ih = rw e (omega (arith, ih))
    by_test false e ih = rw e (omega arith)

drop_one : (bs : Text) → 0 < length bs → length (drop 1 bs) < length bs
drop_one [] h = absurd (omega arith)
drop_one (b ∷ bs) h = omega arith

pub quoted_shorter : (bs plain rest : Text) → (plain, rest) ≡ run (is_in class.Unquoted) bs → 0 < length rest → length (drop 1 rest) < length bs
quoted_shorter bs plain rest cut h = omega (arith, drop_one rest h, ap length (ap (λ (r : Text × Text). r.1) cut), run_shorter (is_in class.Unquoted) bs)

pub second_quote : (bs : Text) → first bs ≡ 39 → quoted_at true bs ≡ with_front (39 ∷ []) (quoted_at false (drop 1 bs))
unfolding quoted_at
second_quote [] e = absurd (omega arith)
second_quote (b ∷ bs) e = rw e

pub second_shorter : (bs : Text) → first bs ≡ 39 → length (drop 1 bs) < length bs
second_shorter [] e = absurd (omega arith)
second_shorter (b ∷ bs) e = omega arith

pub no_second : (bs : Text) → (first bs == 39) ≡ false → quoted_at true bs ≡ Some ([], bs)
unfolding quoted_at
no_second [] e = refl
no_second (b ∷ bs) e = rw e

-- ---- digits

digits_begin : (text : Text) → begins is_ascii_digit text ≡ true → begins is_ascii_digit (run is_ascii_digit text).0 ≡ true
unfolding run
digits_begin [] h = absurd cc
digits_begin (b ∷ bs) h = rw h h

run_passes : (p : ℕ → Bool) (xs : Text) → list_all p (run p xs).0 ≡ true
unfolding run
run_passes p [] = refl
run_passes p (b ∷ bs) = by_test (p b) refl (run_passes p bs)
  where
    by_test : (c : Bool) → p b ≡ c → list_all p (run p bs).0 ≡ true → list_all p (run p (b ∷ bs)).0 ≡ true
    by_test true e ih = rw (e, e) ih
    by_test false e ih = rw e

pub digits_run : (text front rest : Text) → (front, rest) ≡ run (is_in class.Digit) text → begins is_ascii_digit text ≡ true → begins is_ascii_digit front ≡ true
digits_run text front rest cut h = rw (ap (λ (r : Text × Text). r.0) cut) (digits_begin text h)

pub digits_all : (text front rest : Text) → (front, rest) ≡ run (is_in class.Digit) text → list_all is_ascii_digit front ≡ true
digits_all text front rest cut = rw (ap (λ (r : Text × Text). r.0) cut) (run_passes is_ascii_digit text)

own : IsNumeralModel (λ bs. list_all is_ascii_digit bs ≡ true) (digits_value 0)
own = numerals_by_fold _ (search rules) digits_value (search rules)

some_digit : (bs : Text) → begins is_ascii_digit bs ≡ true → 0 < length bs
some_digit [] h = absurd cc
some_digit (b ∷ bs) h = omega arith

module _ {E : Type 0} (bs : Text) (r : Result ℤ E) where
  pub parsed_ok : (n : ℤ) → ParsesSigned w64 10 bs r → begins is_ascii_digit bs ≡ true → list_all is_ascii_digit bs ≡ true → r ≡ Ok n → Some n ≡ number_of bs
  parsed_ok n h some all e =
      let fact = OkIff-at_ok r _ _ n (parse_signed_digits own w64 bs r h all) e in
      let small : nat_le (digits_value 0 bs) greatest_integer ≡ true = le-leb (digits_value 0 bs) greatest_integer (omega (arith, fact.0.1)) in
      rw small (ap Some fact.1)

  pub parsed_err : (e : E) → ParsesSigned w64 10 bs r → begins is_ascii_digit bs ≡ true → list_all is_ascii_digit bs ≡ true → r ≡ Err e → None ≡ number_of bs
  parsed_err d h some all e =
      let none = OkIff-at_err r _ _ d (parse_signed_digits own w64 bs r h all) e in
      let large : greatest_integer < digits_value 0 bs = elim (cases_lt (digits_value 0 bs) 9223372036854775808) [ inl low ↦ absurd (none (some_digit bs some, low)) | inr high ↦ omega (arith, high) ] in
      rw (lt-leb (digits_value 0 bs) greatest_integer large)

-- ---- pieces

from_tokens : (l : Language) (found : List Token) (n : ℕ) (text : Text) (o : Option (Piece × Text)) (ts : List Token) (rest : Text) → piece_at text ≡ o → as_tokens l o ≡ Some (ts, rest)
    → tokens_at l (suc n) found text ≡ tokens_at l n (found ++ ts) rest
from_tokens l found n text None ts rest e h = absurd cc
from_tokens l found n text (Some x) ts rest e h =
    let same_pair = same _ _ h in
    one_piece l n found text x e ∙ (ap (λ (r : List Token × Text). tokens_at l n (found ++ r.0) r.1) same_pair)

-- one turn of the loop over a text
pub one_turn : (l : Language) (found : List Token) (n : ℕ) (text : Text) (ts : List Token) (rest : Text) → as_tokens l (piece_at text) ≡ Some (ts, rest)
    → tokens_at l (suc n) found text ≡ tokens_at l n (found ++ ts) rest
one_turn l found n text ts rest h = from_tokens l found n text (piece_at text) ts rest refl h

-- a count of turns, beside a loop that counts up
pub one_more : {X : Type 0} {x : X} (f : ℕ → X) (n at : ℕ) → at < n → x ≡ f (n - at) → x ≡ f (suc (n - (at + 1)))
one_more f n at below e = let turn : n - at ≡ suc (n - (at + 1)) = omega arith in e ∙ ap f turn

-- A call, or CASE, begins with a word that calls.
use Rattle.std.proofs.Common.{◌≡◌, Bool, true, false, List, ◌∷◌, refl, ap}
use Rattle.jpql_grammar.specs.declared.grammar.token.Keyword.{Keyword}
use Rattle.jpql_grammar.specs.declared.grammar.token.Keyword.TheVariants as k
use Rattle.jpql_grammar.specs.declared.grammar.token.Token.{Token}
use Rattle.jpql_grammar.specs.declared.grammar.token.Token.TheVariants as t
use Rattle.jpql_trees.specs.declared.tree.Aggregate.TheVariants as g
use Rattle.jpql_trees.specs.tree.Names.{Text}
use Rattle.jpql_grammar.specs.grammar.ValueGrammar.{Call°, length_of, concat, substring_from, substring, locate, locate_from, abs, modulo, size, coalesce, null_if, upper, lower, trim, aggregate, aggregate_distinct, case_when, case_of, write_call}
use Rattle.jpql_grammar.specs.grammar.Values.{is_word}
use Rattle.jpql_grammar.specs.grammar.Same.{same_keyword}
use Rattle.jpql_grammar.proofs.grammar.Tools.{keyword_is}

-- a word that calls
abbrev pub is_call : Keyword → Bool
is_call k.Length = true
is_call k.Concat = true
is_call k.Substring = true
is_call k.Locate = true
is_call k.Abs = true
is_call k.Mod = true
is_call k.Size = true
is_call k.Coalesce = true
is_call k.NullIf = true
is_call k.Count = true
is_call k.Sum = true
is_call k.Min = true
is_call k.Max = true
is_call k.Upper = true
is_call k.Lower = true
is_call k.Trim = true
is_call k.Case = true
is_call _ = false

-- the tokens begin with a word that calls
abbrev pub BeginsCall : List Token → Type 0
BeginsCall ts = (j : Keyword) × (w : Text) × (rest : List Token) × (t.Key j w ∷ rest ≡ ts) × (is_call j ≡ true)

pub call_begins : (x : Call°) (rest : List Token) → BeginsCall (write_call x rest)
call_begins (length_of w a) rest = (k.Length, w, _, refl, refl)
call_begins (concat w a b all) rest = (k.Concat, w, _, refl, refl)
call_begins (substring_from w a b) rest = (k.Substring, w, _, refl, refl)
call_begins (substring w a b d) rest = (k.Substring, w, _, refl, refl)
call_begins (locate w a b) rest = (k.Locate, w, _, refl, refl)
call_begins (locate_from w a b d) rest = (k.Locate, w, _, refl, refl)
call_begins (abs w a) rest = (k.Abs, w, _, refl, refl)
call_begins (modulo w a b) rest = (k.Mod, w, _, refl, refl)
call_begins (size w p) rest = (k.Size, w, _, refl, refl)
call_begins (coalesce w a b all) rest = (k.Coalesce, w, _, refl, refl)
call_begins (null_if w a b) rest = (k.NullIf, w, _, refl, refl)
call_begins (upper w a) rest = (k.Upper, w, _, refl, refl)
call_begins (lower w a) rest = (k.Lower, w, _, refl, refl)
call_begins (trim w x a) rest = (k.Trim, w, _, refl, refl)
call_begins (aggregate g.Count w a) rest = (k.Count, w, _, refl, refl)
call_begins (aggregate g.Sum w a) rest = (k.Sum, w, _, refl, refl)
call_begins (aggregate g.Min w a) rest = (k.Min, w, _, refl, refl)
call_begins (aggregate g.Max w a) rest = (k.Max, w, _, refl, refl)
call_begins (aggregate_distinct g.Count w d a) rest = (k.Count, w, _, refl, refl)
call_begins (aggregate_distinct g.Sum w d a) rest = (k.Sum, w, _, refl, refl)
call_begins (aggregate_distinct g.Min w d a) rest = (k.Min, w, _, refl, refl)
call_begins (aggregate_distinct g.Max w d a) rest = (k.Max, w, _, refl, refl)
call_begins (case_when w u d v a bs) rest = (k.Case, w, _, refl, refl)
call_begins (case_of w x u b v a bs) rest = (k.Case, w, _, refl, refl)

-- what is so of all tokens behind such a word is so of a call
pub of_call : {A : Type 0} (f : List Token → A) (a : A) → ((j : Keyword) (w : Text) (ts : List Token) → is_call j ≡ true → f (t.Key j w ∷ ts) ≡ a)
    → (x : Call°) (rest : List Token) → f (write_call x rest) ≡ a
of_call f a each x rest = let (j, w, ts, e, b) = call_begins x rest in rw (← e) (each j w ts b)

not_called : (j c : Keyword) → is_call j ≡ false → is_call c ≡ true → same_keyword j c ≡ false
not_called j c e f = by_test (same_keyword j c) refl
  where
    by_test : (b : Bool) → same_keyword j c ≡ b → same_keyword j c ≡ false
    by_test true h = let one = ap is_call (keyword_is j c h) in absurd cc
    by_test false h = h

-- no other word begins one
pub call_no_word : (j : Keyword) → is_call j ≡ false → (x : Call°) (rest : List Token) → is_word j (write_call x rest) ≡ false
call_no_word j e = of_call (is_word j) false (λ c w ts b. not_called j c e b)

-- What a step that answered tells.
use Rattle.std.proofs.Common.{◌≡◌, Bool, true, false, ◌&&◌, ◌||◌, cond, ◌⊎◌, inl, inr, List, [], ◌∷◌, drop, Option, Some, None, refl, sym, ◌∙◌, rules}
use denote.Enum.Bare.{same_true, true_same}
use Rattle.std.specs.Option.{option_and_then}
use Rattle.jpql_grammar.specs.contracts.grammar.token.Mark as mark
use Rattle.jpql_grammar.specs.contracts.grammar.token.Keyword as keyword
use Rattle.jpql_grammar.specs.declared.grammar.token.Keyword.{Keyword}
use Rattle.jpql_grammar.specs.grammar.Same.{same_mark, same_keyword}
use Rattle.jpql_grammar.specs.declared.grammar.token.Mark.{Mark}
use Rattle.jpql_grammar.specs.declared.grammar.token.Token.{Token}
use Rattle.jpql_grammar.specs.declared.grammar.token.Token.TheVariants as t
use Rattle.jpql_grammar.specs.grammar.Tests.{Written, write_word, is_written}
use Rattle.jpql_grammar.specs.grammar.Values.{sees, after, is_word, after_word, optional_word, name_at, variable_at}
use Rattle.jpql_trees.specs.tree.Names.{Text}
use Rattle.jpql_grammar.specs.grammar.Parts.{Name, plain, word, name_token, name_text}

pub tested : (b : Bool) → (b ≡ true) ⊎ (b ≡ false)
tested true = inl refl
tested false = inr refl

-- a chain that answered: its first step did, and the rest
pub step : {A B P : Type 0} (o : Option A) (f : A → Option B) (y : B) → option_and_then f o ≡ Some y → ((a : A) → o ≡ Some a → f a ≡ Some y → P) → P
step (Some a) f y h go = go a refl h
step None f y h go = absurd cc

-- a test, and what was chosen by it
pub choice : {A P : Type 0} (b : Bool) (x y z : A) → cond b x y ≡ z → (b ≡ true → x ≡ z → P) → (b ≡ false → y ≡ z → P) → P
choice true x y z h chosen passed = chosen refl h
choice false x y z h chosen passed = passed refl h

pub both : {P : Type 0} (a b : Bool) → (a && b) ≡ true → (a ≡ true → b ≡ true → P) → P
both true b h go = go refl h
both false b h go = absurd cc

pub neither : {a b : Bool} → (a || b) ≡ false → (a ≡ false) × (b ≡ false)
neither {a = true} e = absurd cc
neither {a = false} e = (refl, e)

pub same : {A : Type 0} (x y : A) → Some x ≡ Some y → x ≡ y
same x y e = cc

pub mark_is : (a b : Mark) → same_mark a b ≡ true → a ≡ b
mark_is a b e = same_true mark.the_type (search rules) a b e

pub sees_is : (x : Mark) (ts : List Token) → sees x ts ≡ true → t.Mark x ∷ drop 1 ts ≡ ts
sees_is x [] e = absurd cc
sees_is x (t.Word w ∷ ts) e = absurd cc
sees_is x (t.Key k w ∷ ts) e = absurd cc
sees_is x (t.Number n ∷ ts) e = absurd cc
sees_is x (t.Quoted w ∷ ts) e = absurd cc
sees_is x (t.Parameter w ∷ ts) e = absurd cc
sees_is x (t.Mark y ∷ ts) e = rw (mark_is x y e)

pub after_is : (x : Mark) (ts rest : List Token) → after x ts ≡ Some rest → t.Mark x ∷ rest ≡ ts
after_is x ts rest e =
    choice (sees x ts) (Some (drop 1 ts)) None (Some rest) e (λ b h. rw (sym (same _ _ h)) (sees_is x ts b)) (λ b h. absurd cc)

pub name_sound : (ts : List Token) (x : Text × List Token) → name_at ts ≡ Some x → (n : Name) × (name_token n ∷ x.1 ≡ ts) × (name_text n ≡ x.0)
unfolding name_at
name_sound [] x e = absurd cc
name_sound (t.Word w ∷ ts) x e = (plain w, cc, cc)
name_sound (t.Key k w ∷ ts) x e = (word k w, cc, cc)
name_sound (t.Number n ∷ ts) x e = absurd cc
name_sound (t.Quoted w ∷ ts) x e = absurd cc
name_sound (t.Parameter w ∷ ts) x e = absurd cc
name_sound (t.Mark y ∷ ts) x e = absurd cc

pub variable_sound : (ts : List Token) (x : Text × List Token) → variable_at ts ≡ Some x → t.Word x.0 ∷ x.1 ≡ ts
unfolding variable_at
variable_sound [] x e = absurd cc
variable_sound (t.Word w ∷ ts) x e = cc
variable_sound (t.Key k w ∷ ts) x e = absurd cc
variable_sound (t.Number n ∷ ts) x e = absurd cc
variable_sound (t.Quoted w ∷ ts) x e = absurd cc
variable_sound (t.Parameter w ∷ ts) x e = absurd cc
variable_sound (t.Mark y ∷ ts) x e = absurd cc

pub same_keyword_refl : (x : Keyword) → same_keyword x x ≡ true
same_keyword_refl x = true_same keyword.the_type x x refl

pub keyword_is : (a b : Keyword) → same_keyword a b ≡ true → a ≡ b
keyword_is a b e = same_true keyword.the_type (search rules) a b e

pub same_keyword_turned : (a b : Keyword) → same_keyword a b ≡ same_keyword b a
same_keyword_turned a b = by_test (same_keyword a b) (same_keyword b a) refl refl
  where
    by_test : (x y : Bool) → same_keyword a b ≡ x → same_keyword b a ≡ y → same_keyword a b ≡ same_keyword b a
    by_test true y e f = let one = keyword_is a b e in rw one
    by_test false true e f = let one = keyword_is b a f in rw one
    by_test false false e f = e ∙ sym f

-- a word that comes next, as it is written
pub word_is : (x : Keyword) (ts : List Token) → is_word x ts ≡ true → (w : Text) × (t.Key x w ∷ drop 1 ts ≡ ts)
word_is x [] e = absurd cc
word_is x (t.Key k w ∷ ts) e = let same_words = keyword_is x k e in (w, rw same_words)
word_is x (_ ∷ ts) e = absurd cc

pub after_word_is : (x : Keyword) (ts rest : List Token) → after_word x ts ≡ Some rest → (w : Text) × (t.Key x w ∷ rest ≡ ts)
after_word_is x ts rest e =
    choice (is_word x ts) (Some (drop 1 ts)) None (Some rest) e (λ b h. let (w, ew) = word_is x ts b in (w, rw (sym (same _ _ h)) ew)) (λ b h. absurd cc)

-- a word that may be left out, as it is written or not
pub optional_word_is : (x : Keyword) (ts : List Token)
    → (w : Written) × (write_word x w (optional_word x ts).1 ≡ ts) × (is_written w ≡ (optional_word x ts).0)
optional_word_is x ts = by_test (is_word x ts) refl
  where
    by_test : (b : Bool) → is_word x ts ≡ b → (w : Written) × (write_word x w (optional_word x ts).1 ≡ ts) × (is_written w ≡ (optional_word x ts).0)
    by_test true e = let (w, ew) = word_is x ts e in (Some w, rw e ew, rw e)
    by_test false e = (None, rw e, rw e)

-- the word is read where it is written, and none where none is
pub word_complete : (x : Keyword) (w : Written) (rest : List Token) → is_word x rest ≡ false → optional_word x (write_word x w rest) ≡ (is_written w, rest)
word_complete x None rest e = rw e
word_complete x (Some w) rest e = rw (same_keyword_refl x)

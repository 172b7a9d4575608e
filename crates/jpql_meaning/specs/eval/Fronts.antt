-- How the marks before the first % stand to the characters that a text begins with.
use Rattle.std.specs.Prelude.{◌≡◌, ℕ, ◌≤◌, ◌<◌, Bool, true, false, List, length}
use Rattle.jpql_meaning.specs.declared.eval.patterns.Mark.{Mark}
use Rattle.jpql_meaning.specs.declared.eval.patterns.Front.{Front}
use Rattle.jpql_meaning.specs.eval.Texts.{is_matched, any_rest}

-- then the marks after the % and the characters after what was matched decide, of the text and of
-- what is left after any front of it
pub record IsOpen (ms : List Mark) (cs : List ℕ) (others : List Mark) (rest : List ℕ) : Type 0 where
  pub marks : length others < length ms
  pub text : length rest ≤ length cs
  pub here : is_matched ms cs ≡ any_rest (is_matched others) rest
  pub later : any_rest (is_matched ms) cs ≡ any_rest (is_matched others) rest

-- of the text, and of what is left after any front of it
pub record IsEither (ms : List Mark) (cs : List ℕ) (answer : Bool) : Type 0 where
  pub here : is_matched ms cs ≡ answer
  pub later : any_rest (is_matched ms) cs ≡ answer

-- what a way to stand says of whether marks match the characters
abbrev pub IsFront : List Mark → List ℕ → Front → Type 0
IsFront ms cs Front.Differs = is_matched ms cs ≡ false
IsFront ms cs Front.Short = IsEither ms cs false
IsFront ms cs Front.Whole = IsEither ms cs true
IsFront ms cs (Front.Open others rest) = IsOpen ms cs others.now rest.now

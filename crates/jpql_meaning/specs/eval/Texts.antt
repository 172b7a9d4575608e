-- Functions of texts, and LIKE (chapters 4.6.10 and 4.7.2). A text is its bytes, and its characters
-- are the Unicode scalar values that they spell.
use Rattle.std.specs.Prelude.{ℕ, zero, suc, ◌+◌, nat_le, ℤ, pos, negsuc, ◌+ℤ◌, Bool, true, false, ◌&&◌, ◌||◌, nat_eq}
use Rattle.std.specs.Prelude.{int_le, int_lt, List, [], ◌∷◌, Option, Some, None, if◌then◌else◌, chars, encode_utf8_all}
use Rattle.std.specs.List.{starts_with}
use Rattle.jpql_meaning.specs.declared.eval.patterns.Mark.{Mark}

-- a text, as its bytes
abbrev pub Text : Type 0
Text = List ℕ

-- ---- SUBSTRING

-- whether a position is before the end, where there is one
abbrev pub is_before : ℤ → Option ℤ → Bool
is_before at None = true
is_before at (Some end) = int_lt at end

-- the characters at positions from one up to below another, the first of these standing at a
-- position
abbrev pub those_from : ℕ → ℤ → Option ℤ → List ℕ → List ℕ
those_from at from end [] = []
those_from at from end (c ∷ cs) =
    let more = those_from (at + 1) from end cs in
    if int_le from (pos at) && is_before (pos at) end then c ∷ more else more

-- the position behind so many characters, where a number is given
abbrev pub end_of : ℤ → Option ℤ → Option ℤ
end_of from None = None
end_of from (Some n) = Some (from +ℤ n)

-- the characters of a text from a position on, at most so many (chapter 4.7.2)
abbrev pub substring : Text → ℤ → Option ℤ → Text
substring t from n = encode_utf8_all (those_from 1 from (end_of from n) (chars t))

-- ---- LOCATE

-- the greater of a number and 1
abbrev pub at_least_one : ℤ → ℕ
at_least_one (pos zero) = 1
at_least_one (pos (suc n)) = suc n
at_least_one (negsuc n) = 1

-- the least position from one on at which the text stands, the first of these standing at a
-- position; else 0. An empty text stands at the end too.
abbrev pub found_from : ℕ → ℕ → List ℕ → List ℕ → ℕ
found_from at from x [] = if nat_le from at && starts_with nat_eq [] x then at else 0
found_from at from x (c ∷ cs) =
    if nat_le from at && starts_with nat_eq (c ∷ cs) x then at else found_from (at + 1) from x cs

-- the position of a text in another, from one on; 0 where it isn't there (chapter 4.7.2)
abbrev pub locate : Text → Text → ℤ → ℕ
locate x t from = found_from 1 (at_least_one from) (chars x) (chars t)

-- ---- LIKE

-- _ and %
abbrev pub mark_of : ℕ → Mark
mark_of c = if nat_eq c 95 then Mark.One else if nat_eq c 37 then Mark.Many else Mark.Plain c

-- whether a character is the escape, where there is one
abbrev pub is_escape : Option ℕ → ℕ → Bool
is_escape None c = false
is_escape (Some e) c = nat_eq c e

-- the escape makes the next character plain, and at the end stands for itself
abbrev pub marks : Option ℕ → List ℕ → List Mark
marks e [] = []
marks e (c ∷ []) = if is_escape e c then Mark.Plain c ∷ [] else (mark_of c ∷ [])
marks e (c ∷ next ∷ cs) = if is_escape e c then Mark.Plain next ∷ marks e cs else (mark_of c ∷ marks e (next ∷ cs))

-- what is left of a text after any front of it
abbrev pub any_rest : (List ℕ → Bool) → List ℕ → Bool
any_rest goes [] = goes []
any_rest goes (c ∷ cs) = goes (c ∷ cs) || any_rest goes cs

-- whether there is one character more, and the rest goes on
abbrev pub takes_one : (List ℕ → Bool) → List ℕ → Bool
takes_one goes [] = false
takes_one goes (c ∷ cs) = goes cs

-- whether the next character is this one, and the rest goes on
abbrev pub takes_plain : ℕ → (List ℕ → Bool) → List ℕ → Bool
takes_plain x goes [] = false
takes_plain x goes (c ∷ cs) = nat_eq x c && goes cs

-- whether marks match all of the characters
abbrev pub is_matched : List Mark → List ℕ → Bool
is_matched [] [] = true
is_matched [] (c ∷ cs) = false
is_matched (Mark.Plain x ∷ ms) cs = takes_plain x (is_matched ms) cs
is_matched (Mark.One ∷ ms) cs = takes_one (is_matched ms) cs
is_matched (Mark.Many ∷ ms) cs = any_rest (is_matched ms) cs

-- the one character of an escape
abbrev pub only : List ℕ → Option ℕ
only [] = None
only (c ∷ []) = Some c
only (c ∷ d ∷ cs) = None

-- the escape character, where one is written
abbrev pub escape_of : Option Text → Option ℕ
escape_of None = None
escape_of (Some e) = only (chars e)

-- whether a text is like a pattern (chapter 4.6.10)
abbrev pub is_like : Text → Text → Option Text → Bool
is_like t pattern escape = is_matched (marks (escape_of escape) (chars pattern)) (chars t)

-- How a text is cut into pieces, from the left: each function gives the piece and the text after
-- it.
use Rattle.std.specs.Prelude.{ℕ, zero, suc, ◌==◌, Bool, true, false, not, ◌&&◌, nat_le, List, [], ◌∷◌, ◌++◌, drop, ℤ}
use Rattle.std.specs.Prelude.{Option, Some, None, if◌then◌else◌}
use Rattle.std.specs.Char.{is_ascii_digit}
use lib.IntN.{pos}
use Rattle.jpql_trees.specs.declared.tree.Language.{Language}
use Rattle.jpql_grammar.specs.declared.grammar.token.Mark.{Mark}
use Rattle.jpql_grammar.specs.declared.grammar.token.Mark.TheVariants as m
use Rattle.jpql_grammar.specs.declared.grammar.token.Token.{Token}
use Rattle.jpql_trees.specs.tree.Names.{Text}
use Rattle.jpql_trees.specs.tree.Steps.{◌>>=◌}
use Rattle.jpql_grammar.specs.grammar.Text.{is_blank, begins_word, is_in_word, begins, digits_value, greatest_integer}
use Rattle.jpql_grammar.specs.grammar.Text.{Piece}
use Rattle.jpql_grammar.specs.grammar.Text.{blank, bare, digits, quoted, named, numbered, mark, piece_tokens}

-- the bytes at the front that pass, and those after them
unfoldable pub run : (ℕ → Bool) → Text → Text × Text
run p [] = ([], [])
run p (b ∷ bs) = if p b then (b ∷ (run p bs).0, (run p bs).1) else ([], b ∷ bs)

-- a text read, with these bytes in front
abbrev pub with_front : Text → Option (Text × Text) → Option (Text × Text)
with_front front read = read >>= λ q. Some (front ++ q.0, q.1)

-- The text up to the quote that closes, and the text after that. The flag says that a quote was
-- just met, which closes where no second one follows.
unfoldable pub quoted_at : Bool → Text → Option (Text × Text)
quoted_at false [] = None
quoted_at true [] = Some ([], [])
quoted_at false (b ∷ bs) = if b == 39 then quoted_at true bs else with_front (b ∷ []) (quoted_at false bs)
quoted_at true (b ∷ bs) = if b == 39 then with_front (39 ∷ []) (quoted_at false bs) else Some ([], b ∷ bs)

-- the mark that "<" begins, by the byte after it
abbrev pub less_of : ℕ → Mark
less_of next = if next == 61 then m.AtMost else if next == 62 then m.Different else m.Less

-- the mark that ">" begins, by the byte after it
abbrev pub greater_of : ℕ → Mark
greater_of next = if next == 61 then m.AtLeast else m.Greater

-- the mark that these two bytes begin with, the second 0 where there is none
abbrev pub mark_of : ℕ → ℕ → Option Mark
mark_of b next =
    if b == 44 then Some m.Comma else if b == 46 then Some m.Dot else if b == 40 then Some m.Open else if b == 41
    then Some m.Close
    else if b == 43 then Some m.Plus else if b == 45 then Some m.Minus else if b == 42 then Some m.Star else if b == 61
    then Some m.Equal
    else if b == 60 then Some (less_of next)
    else if b == 62 then Some (greater_of next)
    else None

-- how many bytes a mark has
abbrev pub mark_length : Mark → ℕ
mark_length m.AtMost = 2
mark_length m.Different = 2
mark_length m.AtLeast = 2
mark_length _ = 1

-- the first byte of a text; 0 where there is none
abbrev pub first : Text → ℕ
first [] = 0
first (b ∷ bs) = b

-- one piece, and the text after it
abbrev pub Cut : Type 0
Cut = Text → Option (Piece × Text)

-- a word: as many letters, digits and `_` as there are
unfoldable pub word_at : Cut
word_at text = Some (bare (run is_in_word text).0, (run is_in_word text).1)

-- the number that digits are, where it is an integer
abbrev pub number_of : Text → Option ℤ
number_of w = if nat_le (digits_value 0 w) greatest_integer then Some (pos (digits_value 0 w)) else None

-- digits, where they are an integer of 64 bits
unfoldable pub digits_at : Cut
digits_at text = let r = run is_ascii_digit text in
    if nat_le (digits_value 0 r.0) greatest_integer then Some (digits r.0, r.1) else None

-- a text in quotes, after the first of these
unfoldable pub quotes_at : Cut
quotes_at text = quoted_at false text >>= λ q. Some (quoted q.0, q.1)

-- the name of a parameter, after ":"
unfoldable pub named_at : Cut
named_at text = if begins begins_word text then Some (named (run is_in_word text).0, (run is_in_word text).1) else None

-- the number of a parameter, after "?"; it begins with no 0
unfoldable pub numbered_at : Cut
numbered_at text =
    if begins is_ascii_digit text && not (begins (λ b. b == 48) text)
    then Some (numbered (run is_ascii_digit text).0, (run is_ascii_digit text).1) else None

-- a mark, as long as it can be
unfoldable pub mark_at : Cut
mark_at text = mark_of (first text) (first (drop 1 text)) >>= λ x. Some (mark x, drop (mark_length x) text)

-- the piece that a text begins with
unfoldable pub piece_at : Cut
piece_at [] = None
piece_at (b ∷ bs) =
    if is_blank b then Some (blank b, bs)
    else if begins_word b then word_at (b ∷ bs)
    else if is_ascii_digit b then digits_at (b ∷ bs)
    else if b == 39 then quotes_at bs
    else if b == 58 then named_at bs
    else if b == 63 then numbered_at bs
    else mark_at (b ∷ bs)

-- the tokens in a language of a text of at most so many bytes, after those that were found
unfoldable pub tokens_at : Language → ℕ → List Token → Text → Option (List Token)
tokens_at l n found [] = Some found
tokens_at l zero found (b ∷ bs) = Some found
tokens_at l (suc n) found (b ∷ bs) = piece_at (b ∷ bs) >>= λ x. tokens_at l n (found ++ piece_tokens l x.0) x.1

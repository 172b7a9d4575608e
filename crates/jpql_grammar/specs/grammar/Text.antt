-- Text as tokens. A text is pieces, one after the other; `write_piece` is a piece's bytes in front
-- of those that follow, and `Spelled` says how it is spelled and what may follow it: each piece
-- goes as far as it can.
use Rattle.std.specs.Prelude.{◌≡◌, ℕ, ◌+◌, ◌-◌, ◌*◌, ◌==◌, Bool, true, false, ◌||◌, nat_le, List, [], ◌∷◌, ◌++◌, codes}
use Rattle.std.specs.Prelude.{Option, Some, None, if◌then◌else◌}
use Rattle.std.specs.List.{list_all}
use Rattle.std.specs.Char.{is_ascii_digit, is_ascii_alphabetic, is_ascii_alphanumeric}
use Rattle.std.specs.Str.{str_eq_ignore_ascii_case}
use lib.IntN.{pos}
use Rattle.jpql_trees.specs.declared.tree.Language.{Language}
use Rattle.jpql_trees.specs.declared.tree.Language.TheVariants as language
use Rattle.jpql_grammar.specs.declared.grammar.token.Keyword.{Keyword}
use Rattle.jpql_grammar.specs.declared.grammar.token.Keyword.TheVariants as k
use Rattle.jpql_grammar.specs.declared.grammar.token.Mark.{Mark}
use Rattle.jpql_grammar.specs.declared.grammar.token.Mark.TheVariants as m
use Rattle.jpql_grammar.specs.declared.grammar.token.Token.{Token}
use Rattle.jpql_grammar.specs.declared.grammar.token.Token.TheVariants as t
use Rattle.jpql_trees.specs.tree.Names.{Text}

-- ---- characters; all that matter are ASCII

-- space, tab, CR or LF
abbrev pub is_blank : ℕ → Bool
is_blank b = b == 32 || b == 9 || b == 13 || b == 10

-- a letter of ASCII, or `_`
abbrev pub begins_word : ℕ → Bool
begins_word b = is_ascii_alphabetic b || b == 95

-- a letter or a digit of ASCII, or `_`
abbrev pub is_in_word : ℕ → Bool
is_in_word b = is_ascii_alphanumeric b || b == 95

-- whether a text's first byte passes
abbrev pub begins : (ℕ → Bool) → Text → Bool
begins p [] = false
begins p (b ∷ rest) = p b

-- ---- words

-- a word of the grammar, in capitals
abbrev pub spelling : Keyword → Text
spelling k.Select = codes "SELECT"
spelling k.Distinct = codes "DISTINCT"
spelling k.From = codes "FROM"
spelling k.Where = codes "WHERE"
spelling k.Group = codes "GROUP"
spelling k.By = codes "BY"
spelling k.Having = codes "HAVING"
spelling k.Order = codes "ORDER"
spelling k.As = codes "AS"
spelling k.Inner = codes "INNER"
spelling k.Left = codes "LEFT"
spelling k.Outer = codes "OUTER"
spelling k.Join = codes "JOIN"
spelling k.On = codes "ON"
spelling k.Asc = codes "ASC"
spelling k.Desc = codes "DESC"
spelling k.Update = codes "UPDATE"
spelling k.Set = codes "SET"
spelling k.Null = codes "NULL"
spelling k.Delete = codes "DELETE"
spelling k.Or = codes "OR"
spelling k.And = codes "AND"
spelling k.Not = codes "NOT"
spelling k.Between = codes "BETWEEN"
spelling k.In = codes "IN"
spelling k.Like = codes "LIKE"
spelling k.Escape = codes "ESCAPE"
spelling k.Is = codes "IS"
spelling k.Empty = codes "EMPTY"
spelling k.Member = codes "MEMBER"
spelling k.Of = codes "OF"
spelling k.Exists = codes "EXISTS"
spelling k.Type = codes "TYPE"
spelling k.Length = codes "LENGTH"
spelling k.Concat = codes "CONCAT"
spelling k.Substring = codes "SUBSTRING"
spelling k.Locate = codes "LOCATE"
spelling k.Abs = codes "ABS"
spelling k.Mod = codes "MOD"
spelling k.Size = codes "SIZE"
spelling k.Coalesce = codes "COALESCE"
spelling k.NullIf = codes "NULLIF"
spelling k.Count = codes "COUNT"
spelling k.Sum = codes "SUM"
spelling k.Min = codes "MIN"
spelling k.Max = codes "MAX"
spelling k.Upper = codes "UPPER"
spelling k.Lower = codes "LOWER"
spelling k.Trim = codes "TRIM"
spelling k.Leading = codes "LEADING"
spelling k.Trailing = codes "TRAILING"
spelling k.Both = codes "BOTH"
spelling k.Case = codes "CASE"
spelling k.When = codes "WHEN"
spelling k.Then = codes "THEN"
spelling k.Else = codes "ELSE"
spelling k.End = codes "END"
spelling k.All = codes "ALL"
spelling k.Any = codes "ANY"
spelling k.Some = codes "SOME"

-- the words of the profile's grammar (chapter 4.4.1)
abbrev pub profile_keywords : List Keyword
profile_keywords =
    k.Select ∷ k.Distinct ∷ k.From ∷ k.Where ∷ k.Group ∷ k.By ∷ k.Having ∷ k.Order ∷ k.As ∷ k.Inner ∷ k.Left ∷ k.Outer
    ∷ k.Join ∷ k.On ∷ k.Asc ∷ k.Desc
    ∷ k.Update ∷ k.Set ∷ k.Null ∷ k.Delete ∷ k.Or ∷ k.And ∷ k.Not ∷ k.Between ∷ k.In ∷ k.Like ∷ k.Escape ∷ k.Is
    ∷ k.Empty ∷ k.Member ∷ k.Of ∷ k.Exists ∷ k.Type
    ∷ k.Length ∷ k.Concat ∷ k.Substring ∷ k.Locate ∷ k.Abs ∷ k.Mod ∷ k.Size ∷ k.Coalesce ∷ k.NullIf ∷ k.Count ∷ k.Sum
    ∷ k.Min ∷ k.Max ∷ []

-- the words that the wider language has besides
abbrev pub wide_keywords : List Keyword
wide_keywords =
    k.Upper ∷ k.Lower ∷ k.Trim ∷ k.Leading ∷ k.Trailing ∷ k.Both ∷ k.Case ∷ k.When ∷ k.Then ∷ k.Else ∷ k.End
    ∷ k.All ∷ k.Any ∷ k.Some ∷ []

-- the words of a language's grammar; each other word is a name
abbrev pub keywords : Language → List Keyword
keywords language.Profile = profile_keywords
keywords language.Wide = profile_keywords ++ wide_keywords

-- the first of these words that a text is, whatever its case
abbrev pub first_keyword : List Keyword → Text → Option Keyword
first_keyword [] w = None
first_keyword (j ∷ js) w = if str_eq_ignore_ascii_case (spelling j) w then Some j else first_keyword js w

-- the word of a language's grammar that a word is, whatever its case
unfoldable pub keyword_of : Language → Text → Option Keyword
keyword_of l = first_keyword (keywords l)

-- the token of a word: one of the grammar, or a name
abbrev pub word_of : Option Keyword → Text → Token
word_of None w = t.Word w
word_of (Some j) w = t.Key j w

-- ---- numbers, quotes and marks

-- the number that digits stand for, after others that stand for n
abbrev pub digits_value : ℕ → Text → ℕ
digits_value n [] = n
digits_value n (b ∷ bs) = digits_value (10 * n + (b - 48)) bs

-- the greatest integer, 2^63 - 1
abbrev pub greatest_integer : ℕ
greatest_integer = 9223372036854775807

-- a quote inside quotes is doubled
abbrev pub doubled : Text → Text
doubled [] = []
doubled (b ∷ bs) = if b == 39 then 39 ∷ 39 ∷ doubled bs else b ∷ doubled bs

-- a mark, as it is written
abbrev pub mark_text : Mark → Text
mark_text m.Comma = codes ","
mark_text m.Dot = codes "."
mark_text m.Open = codes "("
mark_text m.Close = codes ")"
mark_text m.Plus = codes "+"
mark_text m.Minus = codes "-"
mark_text m.Star = codes "*"
mark_text m.Equal = codes "="
mark_text m.Different = codes "<>"
mark_text m.Less = codes "<"
mark_text m.AtMost = codes "<="
mark_text m.Greater = codes ">"
mark_text m.AtLeast = codes ">="

-- a byte that makes a longer mark of this one
abbrev pub lengthens : Mark → ℕ → Bool
lengthens m.Less b = b == 61 || b == 62
lengthens m.Greater b = b == 61
lengthens _ b = false

-- ---- pieces

-- a piece of a text: a blank, a word, digits, a quoted text, a parameter or a mark
pub data Piece : Type 0 where
  -- space, tab, CR or LF
  blank : ℕ → Piece
  bare : Text → Piece
  digits : Text → Piece
  -- the text between quotes
  quoted : Text → Piece
  -- ":" word, and "?" number
  named : Text → Piece
  numbered : Text → Piece
  mark : Mark → Piece

-- a piece's bytes, in front of those that follow
abbrev pub write_piece : Piece → Text → Text
write_piece (blank b) rest = b ∷ rest
write_piece (bare w) rest = w ++ rest
write_piece (digits w) rest = w ++ rest
write_piece (quoted w) rest = 39 ∷ doubled w ++ 39 ∷ rest
write_piece (named w) rest = 58 ∷ w ++ rest
write_piece (numbered w) rest = 63 ∷ w ++ rest
write_piece (mark x) rest = mark_text x ++ rest

-- a word begins with a letter or `_`, and has letters, digits and `_` alone
abbrev pub IsWord : Text → Type 0
IsWord w = (begins begins_word w ≡ true) × (list_all is_in_word w ≡ true)

-- there are digits, and nothing else
abbrev pub IsDigits : Text → Type 0
IsDigits w = (begins is_ascii_digit w ≡ true) × (list_all is_ascii_digit w ≡ true)

-- how a piece is spelled, and what may follow it
abbrev pub Spelled : Piece → Text → Type 0
Spelled (blank b) rest = is_blank b ≡ true
Spelled (bare w) rest = IsWord w × (begins is_in_word rest ≡ false)
Spelled (digits w) rest =
    IsDigits w × (nat_le (digits_value 0 w) greatest_integer ≡ true) × (begins is_ascii_digit rest ≡ false)
Spelled (quoted w) rest = begins (λ b. b == 39) rest ≡ false
Spelled (named w) rest = IsWord w × (begins is_in_word rest ≡ false)
Spelled (numbered w) rest = IsDigits w × (begins (λ b. b == 48) w ≡ false) × (begins is_ascii_digit rest ≡ false)
Spelled (mark x) rest = begins (lengthens x) rest ≡ false

-- the token of a piece in a language; a blank has none
abbrev pub piece_tokens : Language → Piece → List Token
piece_tokens l (blank b) = []
piece_tokens l (bare w) = word_of (keyword_of l w) w ∷ []
piece_tokens l (digits w) = t.Number (pos (digits_value 0 w)) ∷ []
piece_tokens l (quoted w) = t.Quoted w ∷ []
piece_tokens l (named w) = t.Parameter w ∷ []
piece_tokens l (numbered w) = t.Parameter w ∷ []
piece_tokens l (mark x) = t.Mark x ∷ []

-- the bytes of pieces, one after the other
abbrev pub write_pieces : List Piece → Text
write_pieces [] = []
write_pieces (p ∷ ps) = write_piece p (write_pieces ps)

-- each piece is spelled well before those that follow
abbrev pub AllSpelled : List Piece → Type 0
AllSpelled [] = Unit {0}
AllSpelled (p ∷ ps) = Spelled p (write_pieces ps) × AllSpelled ps

-- the tokens of pieces in a language
abbrev pub tokens_of : Language → List Piece → List Token
tokens_of l [] = []
tokens_of l (p ∷ ps) = piece_tokens l p ++ tokens_of l ps

-- The text is these tokens in the language.
abbrev pub IsText : Language → Text → List Token → Type 0
IsText l text tokens = (ps : List Piece) × AllSpelled ps × (write_pieces ps ≡ text) × (tokens_of l ps ≡ tokens)

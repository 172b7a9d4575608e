-- What a collection that is handed in for a parameter stands for: behind IN, `:p` and `(:p)` are its
-- values in parentheses (chapter 4.6.9), each as a parameter of its own.
use Rattle.std.specs.Prelude.{ℕ, zero, suc, Bool, false, ◌||◌, List, [], ◌∷◌, ◌++◌, find, codes, decimal}
use Rattle.std.specs.Prelude.{Option, Some, None, if◌then◌else◌}
use Rattle.std.specs.List.{list_all}
use Rattle.std.specs.Str.{bytes_eq}
use Rattle.jpql_grammar.specs.declared.grammar.lists.Before.{Before}
use Rattle.jpql_grammar.specs.declared.grammar.lists.GivenList.{GivenList}
use Rattle.jpql_grammar.specs.declared.grammar.token.Keyword.TheVariants as k
use Rattle.jpql_grammar.specs.declared.grammar.token.Mark.TheVariants as m
use Rattle.jpql_grammar.specs.declared.grammar.token.Token.{Token}
use Rattle.jpql_grammar.specs.declared.grammar.token.Token.TheVariants as t
use Rattle.jpql_trees.specs.tree.Names.{Text}
use Rattle.jpql_trees.specs.tree.Steps.{◌>>=◌}
use Rattle.jpql_grammar.specs.grammar.Values.{is_mark, is_key, sees}

-- ---- the values of a list

-- the name of the value at a place, from 1; no parameter of a text has a comma in its name
abbrev pub value_name : Text → ℕ → Text
value_name name place = name ++ codes "," ++ decimal place

-- the comma behind so many values
abbrev pub comma_behind : ℕ → List Token
comma_behind zero = []
comma_behind (suc n) = t.Mark m.Comma ∷ []

-- the first so many values of a list, with commas between them
abbrev pub values_of : Text → ℕ → List Token
values_of name zero = []
values_of name (suc n) = values_of name n ++ comma_behind n ++ t.Parameter (value_name name (suc n)) ∷ []

-- the list of this name, if there is one
abbrev pub list_named : List GivenList → Text → Option GivenList
list_named lists name = find (λ (l : GivenList). bytes_eq l.name name) lists

-- ---- where lists may stand

-- what stands before the token after a parenthesis that opens
abbrev pub opened : Before → Before
opened Before.In = Before.InParenthesis
opened Before.InParenthesis = Before.Other
opened Before.Other = Before.Other

-- what stands before the token after this one
abbrev pub behind : Before → Token → Before
behind before x = if is_key k.In x then Before.In else if is_mark m.Open x then opened before else Before.Other

-- the parameter that a token is, if it is one
abbrev pub parameter_in : Token → Option Text
parameter_in (t.Parameter name) = Some name
parameter_in _ = None

-- the parameter that a token is where it stands alone behind IN, or alone in parentheses there; the
-- flag says that a parenthesis closes right after it
abbrev pub lone_parameter : Before → Token → Bool → Option Text
lone_parameter Before.In x closes = parameter_in x
lone_parameter Before.InParenthesis x closes = if closes then parameter_in x else None
lone_parameter Before.Other x closes = None

-- whether a parenthesis closes where nothing stands in it behind IN
abbrev pub closes_nothing : Before → Token → Bool
closes_nothing Before.InParenthesis x = is_mark m.Close x
closes_nothing Before.In x = false
closes_nothing Before.Other x = false

-- ---- texts with lists

-- the values of a list in the parentheses that stand there, or in new ones
abbrev pub in_parentheses : Before → List Token → List Token
in_parentheses Before.In all = t.Mark m.Open ∷ all ++ t.Mark m.Close ∷ []
in_parentheses Before.InParenthesis all = all
in_parentheses Before.Other all = all

-- a list's values in a token's place, or the token itself
abbrev pub in_place : Before → Token → Option GivenList → List Token
in_place before x None = x ∷ []
in_place before x (Some l) = in_parentheses before (values_of l.name l.count)

-- what a token stands for; nothing where it closes a parenthesis behind IN that has nothing in it
abbrev pub spread_token : List GivenList → Before → Token → Bool → Option (List Token)
spread_token lists before x closes =
    if closes_nothing before x then None
    else Some (in_place before x (lone_parameter before x closes >>= list_named lists))

-- the same of all tokens, behind what stands before them
unfoldable pub spread_from : List GivenList → Before → List Token → Option (List Token)
spread_from lists before [] = Some []
spread_from lists before (x ∷ rest) =
    spread_token lists before x (sees m.Close rest) >>= λ front. spread_from lists (behind before x) rest
    >>= λ more. Some (front ++ more)

-- The tokens that a text's tokens stand for: the values of each list behind IN, in parentheses. A text
-- that writes IN "(" ")" itself stands for nothing.
abbrev pub spread : List GivenList → List Token → Option (List Token)
spread lists tokens = spread_from lists Before.Other tokens

-- ---- which lists a text has

-- whether a parameter is there, and has this name
abbrev pub is_named : Text → Option Text → Bool
is_named name None = false
is_named name (Some own) = bytes_eq name own

-- whether a parameter of this name stands behind IN as a list does, behind what stands before the
-- tokens
unfoldable pub stands_from : Text → Before → List Token → Bool
stands_from name before [] = false
stands_from name before (x ∷ rest) =
    is_named name (lone_parameter before x (sees m.Close rest)) || stands_from name (behind before x) rest

-- whether each list stands somewhere in a text's tokens
abbrev pub are_used : List GivenList → List Token → Bool
are_used lists tokens = list_all (λ (l : GivenList). stands_from l.name Before.Other tokens) lists

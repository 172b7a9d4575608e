-- Three-valued logic (chapters 4.6.5 and 4.12).
use Rattle.std.specs.Prelude.{Bool, true, false, List, [], ◌∷◌}
use Rattle.jpql_meaning.specs.declared.eval.datum.Truth.{Truth}

-- true or false, as a truth
abbrev pub truth_of : Bool → Truth
truth_of true = Truth.Yes
truth_of false = Truth.No

-- NOT: unknown stays unknown (chapter 4.6.5)
abbrev pub not3 : Truth → Truth
not3 Truth.Yes = Truth.No
not3 Truth.No = Truth.Yes
not3 Truth.Unknown = Truth.Unknown

-- AND: false with anything is false (chapter 4.6.5)
abbrev pub and3 : Truth → Truth → Truth
and3 Truth.No b = Truth.No
and3 Truth.Yes b = b
and3 Truth.Unknown Truth.No = Truth.No
and3 Truth.Unknown _ = Truth.Unknown

-- OR: true with anything is true (chapter 4.6.5)
abbrev pub or3 : Truth → Truth → Truth
or3 Truth.Yes b = Truth.Yes
or3 Truth.No b = b
or3 Truth.Unknown Truth.Yes = Truth.Yes
or3 Truth.Unknown _ = Truth.Unknown

-- whether a truth is true
abbrev pub is_yes : Truth → Bool
is_yes Truth.Yes = true
is_yes _ = false

-- OR of a list; of none it is false
abbrev pub any3 : List Truth → Truth
any3 [] = Truth.No
any3 (t ∷ ts) = or3 t (any3 ts)

-- AND of a list; of none it is true
abbrev pub all3 : List Truth → Truth
all3 [] = Truth.Yes
all3 (t ∷ ts) = and3 t (all3 ts)

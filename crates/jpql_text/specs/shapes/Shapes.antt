-- What the functions of the language take and give, as a table (chapters 4.7.2, 4.7.3 and 4.7.4).
use Rattle.std.specs.Prelude.{◌≡◌, IfSome, ℕ, nat_le, length, Bool, true, false, ◌&&◌, List, [], ◌∷◌}
use Rattle.std.specs.Prelude.{if◌then◌else◌, Option, Some, None}
use Rattle.jpql_trees.specs.declared.tree.Function.{Function}
use Rattle.jpql_trees.specs.declared.tree.Function.TheVariants as f
use Rattle.jpql_trees.specs.tree.Calls.{takes}
use Rattle.jpql_types.specs.declared.sort.Sort.{Sort}
use Rattle.jpql_types.specs.Scope.{when}
use Rattle.jpql_types.specs.Sorts as sorts

-- what an argument is, or what a function gives: a text, an integer, or any value that is no entity
pub data ArgumentKind : Type 0 where
  text : ArgumentKind
  integer : ArgumentKind
  any : ArgumentKind

-- what a function takes and gives: arguments of these kinds, of which the last one repeats, so many
-- of them at least and at most, and what it gives of them
pub record Shape : Type 0 where
  pub arguments : List ArgumentKind
  pub least : ℕ
  pub most : Option ℕ
  pub result : ArgumentKind

-- the shape of a function that takes just as many arguments as these
abbrev pub of_all : List ArgumentKind → ArgumentKind → Shape
of_all kinds result = record { arguments = kinds; least = length kinds; most = Some (length kinds); result = result }

-- the same, where the last of them may be left out
abbrev pub of_one_fewer : ℕ → List ArgumentKind → ArgumentKind → Shape
of_one_fewer least kinds result = record (of_all kinds result) { least = least }

-- the same, where more of the last may follow
abbrev pub of_more : List ArgumentKind → ArgumentKind → Shape
of_more kinds result = record (of_all kinds result) { most = None }

-- the shape of a function that is called by its name; CASE and the tests inside one aren't
abbrev pub shape : Function → Option Shape
shape f.Length = Some (of_all (text ∷ []) integer)
shape f.Concat = Some (of_more (text ∷ text ∷ []) text)
shape f.Substring = Some (of_one_fewer 2 (text ∷ integer ∷ integer ∷ []) text)
shape f.Locate = Some (of_one_fewer 2 (text ∷ text ∷ integer ∷ []) integer)
shape f.Abs = Some (of_all (integer ∷ []) integer)
shape f.Mod = Some (of_all (integer ∷ integer ∷ []) integer)
shape f.Coalesce = Some (of_more (any ∷ any ∷ []) any)
shape f.NullIf = Some (of_all (any ∷ any ∷ []) any)
shape f.Upper = Some (of_all (text ∷ []) text)
shape f.Lower = Some (of_all (text ∷ []) text)
shape (f.Trim sides) = Some (of_one_fewer 1 (text ∷ text ∷ []) text)
shape _ = None

-- ---- what a shape says of calls

-- whether a number is at most the bound, if there is one
abbrev pub is_within : Option ℕ → ℕ → Bool
is_within (Some most) n = nat_le n most
is_within None n = true

-- whether a function of this shape takes so many arguments
abbrev pub takes_by : Shape → ℕ → Bool
takes_by h n = nat_le h.least n && is_within h.most n

-- the sort of a kind; null's goes with each
abbrev pub sort_of : ArgumentKind → Sort
sort_of text = sorts.text
sort_of integer = sorts.integer
sort_of any = Sort.Null

-- whether arguments are of these kinds, of which the last one repeats
abbrev pub are_of : List ArgumentKind → List Sort → Bool
are_of kinds [] = true
are_of [] (s ∷ all) = false
are_of (k ∷ []) (s ∷ all) = sorts.goes_with (sort_of k) s && are_of (k ∷ []) all
are_of (k ∷ j ∷ kinds) (s ∷ all) = sorts.goes_with (sort_of k) s && are_of (j ∷ kinds) all

-- what a function of this shape gives of arguments that it takes as many of: where any is asked, what
-- is asked is one sort, which isn't an entity's
abbrev pub given_by : List ArgumentKind → ArgumentKind → List Sort → Option Sort
given_by kinds text all = when (are_of kinds all) sorts.text
given_by kinds integer all = when (are_of kinds all) sorts.integer
given_by kinds any all = sorts.joined_basic all

-- what a call of a function of this shape is, where it is well typed
abbrev pub call_by : Shape → List Sort → Option Sort
call_by h all = if takes_by h (length all) then given_by h.arguments h.result all else None

-- a function takes just as many arguments as its shape says
abbrev pub IsCountedBy : Function → Type 0
IsCountedBy f = (n : ℕ) → IfSome (shape f) (λ h. takes f n ≡ takes_by h n)

-- a call of a function is of the sort that its shape gives, where that gives one
abbrev pub IsTypedBy : Function → Type 0
IsTypedBy f = (all : List Sort) → IfSome (shape f) (λ h. sorts.call_sort f all ≡ call_by h all)

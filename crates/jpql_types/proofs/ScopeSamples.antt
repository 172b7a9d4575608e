-- Which names a variable may have, by samples.
use Rattle.std.proofs.Common.{◌≡◌, refl, true, false, [], ◌∷◌, Some, None}
use Rattle.jpql_trees.specs.declared.tree.Language.{Language}
use Rattle.jpql_trees.specs.tree.Names.{Text}
use Rattle.jpql_types.specs.Scope.{Scope, is_new}
use Rattle.jpql_types.specs.Statements.{are_variables_distinct}
use Rattle.jpql_types.specs.Typing.{when_new, with_variable}

abbrev o : Text
o = 111 ∷ []

abbrev capital_o : Text
capital_o = 79 ∷ []

abbrev p : Text
p = 112 ∷ []

-- the scope of FROM Person p, and of a nested FROM p.orders o
abbrev outer : Scope
outer = with_variable [] p 3

abbrev inner : Scope
inner = with_variable outer o 4

-- a nested SELECT declares o, and so does the next one, since the first one's is not in scope there
first_of_two : when_new outer o (Some 4) ≡ Some 4
unfolding when_new
first_of_two = refl

-- but none within it, in either case
within : when_new inner capital_o (Some 4) ≡ None
unfolding when_new
within = refl

outer_name : is_new inner p ≡ false
outer_name = refl

-- the profile asks it of the whole statement
profile_twice : are_variables_distinct Language.Profile (p ∷ o ∷ capital_o ∷ []) ≡ false
profile_twice = refl

wide_twice : are_variables_distinct Language.Wide (p ∷ o ∷ capital_o ∷ []) ≡ true
wide_twice = refl

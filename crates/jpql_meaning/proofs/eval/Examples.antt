-- Functions, LIKE and aggregates evaluated.
use Rattle.std.proofs.Common.{◌≡◌, pos, negsuc, true, false, [], ◌∷◌, Some, None, refl, codes}
use Rattle.std.specs.Str.{chars}
use Rattle.jpql_trees.specs.declared.tree.Against.{Against}
use Rattle.jpql_trees.specs.declared.tree.Aggregate.{Aggregate}
use Rattle.jpql_trees.specs.declared.tree.Comparison.{Comparison}
use Rattle.jpql_trees.specs.declared.tree.Function.{Function}
use Rattle.jpql_trees.specs.declared.tree.Arithmetic.{Arithmetic}
use Rattle.jpql_trees.specs.declared.tree.Trimmed.{Trimmed}
use Rattle.jpql_meaning.specs.declared.eval.datum.Truth.{Truth}
use Rattle.jpql_meaning.specs.eval.Answers.{gives, overflows, under, ◌>>=◌}
use Rattle.jpql_meaning.specs.eval.Truths.{not3}
use Rattle.jpql_meaning.specs.eval.Data.{null, between}
use Rattle.jpql_meaning.specs.eval.Numbers.{number, arithmetic}
use Rattle.jpql_meaning.specs.eval.Calls.{text, applied, like}
use Rattle.jpql_meaning.specs.eval.Aggregates.{aggregated, counted}
use Rattle.jpql_meaning.specs.eval.Judged.{judged}

-- SUBSTRING('abc', 0, 2) is 'a'
before_the_first : applied Function.Substring (text (codes "abc") ∷ number (pos 0) ∷ number (pos 2) ∷ []) ≡ gives (text (codes "a"))
unfolding chars lib.Utf8.encode
before_the_first = refl

-- LOCATE('', 'ab', 3) is 3 and LOCATE('', 'ab', 4) is 0
at_the_end : applied Function.Locate (text [] ∷ text (codes "ab") ∷ number (pos 3) ∷ []) ≡ gives (number (pos 3))
unfolding chars
at_the_end = refl

behind_the_end : applied Function.Locate (text [] ∷ text (codes "ab") ∷ number (pos 4) ∷ []) ≡ gives (number (pos 0))
unfolding chars
behind_the_end = refl

-- a character of two bytes
two_bytes : applied Function.Length (text (195 ∷ 164 ∷ 98 ∷ []) ∷ []) ≡ gives (number (pos 2))
unfolding chars
two_bytes = refl

-- MOD(-7, 2) is -1, by 0 it is null, and of the least integer by -1 it is 0
remainder : applied Function.Mod (number (negsuc 6) ∷ number (pos 2) ∷ []) ≡ gives (number (negsuc 0))
remainder = refl

by_zero : applied Function.Mod (number (pos 7) ∷ number (pos 0) ∷ []) ≡ gives null
by_zero = refl

least_by : applied Function.Mod (number (negsuc 9223372036854775807) ∷ number (negsuc 0) ∷ []) ≡ gives (number (pos 0))
least_by = refl

null_if_null : applied Function.NullIf (null ∷ null ∷ []) ≡ gives null
null_if_null = refl

no_text : applied Function.Concat (text (codes "a") ∷ null ∷ []) ≡ gives null
no_text = refl

no_case : applied Function.Upper (null ∷ []) ≡ gives null
no_case = refl

no_number_case : applied Function.Lower (number (pos 7) ∷ []) ≡ gives null
no_number_case = refl

-- TRIM('  a b ') is 'a b'
both_sides : applied (Function.Trim Trimmed.Both) (text (codes "  a b ") ∷ []) ≡ gives (text (codes "a b"))
both_sides = refl

front_alone : applied (Function.Trim Trimmed.Leading) (text (codes "  a b ") ∷ []) ≡ gives (text (codes "a b "))
front_alone = refl

end_alone : applied (Function.Trim Trimmed.Trailing) (text (codes "  a b ") ∷ []) ≡ gives (text (codes "  a b"))
end_alone = refl

only_blanks : applied (Function.Trim Trimmed.Both) (text (codes "   ") ∷ []) ≡ gives (text [])
only_blanks = refl

-- no other white space is a blank
not_blank : applied (Function.Trim Trimmed.Both) (text (9 ∷ 97 ∷ 10 ∷ []) ∷ []) ≡ gives (text (9 ∷ 97 ∷ 10 ∷ []))
not_blank = refl

-- TRIM('xx' FROM 'xxxaxx') is 'xa'
pairs : applied (Function.Trim Trimmed.Both) (text (codes "xxxaxx") ∷ text (codes "xx") ∷ []) ≡ gives (text (codes "xa"))
pairs = refl

-- TRIM('aba' FROM 'ababa') is 'ba': the front comes first
front_first : applied (Function.Trim Trimmed.Both) (text (codes "ababa") ∷ text (codes "aba") ∷ []) ≡ gives (text (codes "ba"))
front_first = refl

nothing_off : applied (Function.Trim Trimmed.Both) (text (codes " a ") ∷ text [] ∷ []) ≡ gives (text (codes " a "))
nothing_off = refl

all_off : applied (Function.Trim Trimmed.Trailing) (text (codes "abab") ∷ text (codes "ab") ∷ []) ≡ gives (text [])
all_off = refl

null_off : applied (Function.Trim Trimmed.Both) (text (codes "a") ∷ null ∷ []) ≡ gives null
null_off = refl

off_null : applied (Function.Trim Trimmed.Leading) (null ∷ []) ≡ gives null
off_null = refl

-- 'a%' LIKE 'a%' ESCAPE '%'
escape_at_the_end : like (Some (codes "%")) (text (codes "a%")) (text (codes "a%")) ≡ Truth.Yes
unfolding chars
escape_at_the_end = refl

escaped : like (Some (codes "!")) (text (codes "ab")) (text (codes "a!_")) ≡ Truth.No
unfolding chars
escaped = refl

later_place : like None (text (codes "aabab")) (text (codes "%a_b")) ≡ Truth.No
unfolding chars
later_place = refl

several : like None (text (codes "aabab")) (text (codes "%ab%b")) ≡ Truth.Yes
unfolding chars
several = refl

not_unknown : not3 (like None null (text (codes "%"))) ≡ Truth.Unknown
not_unknown = refl

-- 5 BETWEEN NULL AND 3
beyond_one_end : between (number (pos 5)) null (number (pos 3)) ≡ Truth.No
beyond_one_end = refl

-- the greatest integer and 1
too_much : arithmetic Arithmetic.Plus (number (pos 9223372036854775807)) (number (pos 1)) ≡ overflows
too_much = refl

-- the total alone is judged, and with DISTINCT that of the first ones
total_fits : aggregated Aggregate.Sum (counted false (number (pos 9223372036854775807) ∷ number (pos 1) ∷ null ∷ number (negsuc 0) ∷ [])) ≡ gives (number (pos 9223372036854775807))
total_fits = refl

once_each : aggregated Aggregate.Sum (counted true (number (pos 2) ∷ number (pos 2) ∷ number (pos 3) ∷ [])) ≡ gives (number (pos 5))
once_each = refl

of_nothing : aggregated Aggregate.Max (counted false (null ∷ [])) ≡ gives null
of_nothing = refl

-- ANY of no rows is false, ALL of none true
any_of_none : judged Against.Any Comparison.Equal (number (pos 1)) [] ≡ gives Truth.No
any_of_none = refl

all_of_none : judged Against.All Comparison.Equal (number (pos 1)) [] ≡ gives Truth.Yes
all_of_none = refl

-- a null among the rows: one that holds decides ANY, one that doesn't ALL, else it is unknown
any_beside_null : judged Against.Any Comparison.Equal (number (pos 2)) (null ∷ number (pos 2) ∷ []) ≡ gives Truth.Yes
any_beside_null = refl

any_unknown : judged Against.Any Comparison.Equal (number (pos 1)) (null ∷ number (pos 2) ∷ []) ≡ gives Truth.Unknown
any_unknown = refl

all_beside_null : judged Against.All Comparison.Less (number (pos 2)) (null ∷ number (pos 2) ∷ []) ≡ gives Truth.No
all_beside_null = refl

all_unknown : judged Against.All Comparison.Less (number (pos 1)) (number (pos 2) ∷ null ∷ []) ≡ gives Truth.Unknown
all_unknown = refl

-- 1 NOT IN (rows), with a null among them
not_in : under not3 (judged Against.Any Comparison.Equal (number (pos 1)) (number (pos 2) ∷ null ∷ [])) ≡ gives Truth.Unknown
not_in = refl

-- null with any of no rows is false still, and with some rows unknown
null_of_none : judged Against.Any Comparison.Equal null [] ≡ gives Truth.No
null_of_none = refl

null_of_some : judged Against.All Comparison.Equal null (number (pos 2) ∷ []) ≡ gives Truth.Unknown
null_of_some = refl

-- 1 < MAX of 2, null and 3; of none it is unknown
below_greatest : judged (Against.One Aggregate.Max false) Comparison.Less (number (pos 1)) (number (pos 2) ∷ null ∷ number (pos 3) ∷ []) ≡ gives Truth.Yes
below_greatest = refl

greatest_of_none : judged (Against.One Aggregate.Max false) Comparison.Less (number (pos 1)) [] ≡ gives Truth.Unknown
greatest_of_none = refl

-- 0 = COUNT of none, and 1 = COUNT(DISTINCT) of 2, 2 and null
count_of_none : judged (Against.One Aggregate.Count false) Comparison.Equal (number (pos 0)) [] ≡ gives Truth.Yes
count_of_none = refl

count_of_each : judged (Against.One Aggregate.Count true) Comparison.Equal (number (pos 1)) (number (pos 2) ∷ number (pos 2) ∷ null ∷ []) ≡ gives Truth.Yes
count_of_each = refl

-- a total outside 64 bits, also beside null
sum_overflows : judged (Against.One Aggregate.Sum false) Comparison.Less null (number (pos 9223372036854775807) ∷ number (pos 1) ∷ []) ≡ overflows
sum_overflows = refl

-- CASE WHEN no THEN 1 WHEN yes THEN 2 WHEN yes THEN 3 ELSE 4 END: the first test that is true
first_true : applied Function.Case (number (pos 0) ∷ number (pos 1) ∷ number (pos 1) ∷ number (pos 2) ∷ number (pos 1) ∷ number (pos 3) ∷ number (pos 4) ∷ []) ≡ gives (number (pos 2))
first_true = refl

-- a test that is unknown isn't true
unknown_when : applied Function.Case (null ∷ text (codes "a") ∷ text (codes "b") ∷ []) ≡ gives (text (codes "b"))
unknown_when = refl

-- null behind THEN is what CASE gives
null_then : applied Function.Case (number (pos 1) ∷ null ∷ text (codes "b") ∷ []) ≡ gives null
null_then = refl

null_else : applied Function.Case (number (pos 0) ∷ text (codes "a") ∷ null ∷ []) ≡ gives null
null_else = refl

-- CASE 2 WHEN null THEN 'a' WHEN 2 THEN 'b' ELSE 'c' END
beside_null : applied Function.Match (number (pos 2) ∷ null ∷ text (codes "a") ∷ number (pos 2) ∷ text (codes "b") ∷ text (codes "c") ∷ []) ≡ gives (text (codes "b"))
beside_null = refl

-- null equals nothing, null included
match_null : applied Function.Match (null ∷ null ∷ text (codes "a") ∷ text (codes "b") ∷ []) ≡ gives (text (codes "b"))
match_null = refl

-- 1 is what it is in a CASE of a value, and no truth
match_zero : applied Function.Match (number (pos 0) ∷ number (pos 1) ∷ text (codes "a") ∷ number (pos 0) ∷ text (codes "b") ∷ text (codes "c") ∷ []) ≡ gives (text (codes "b"))
match_zero = refl

-- CASE (CASE WHEN yes THEN 5 ELSE null END) WHEN 5 THEN 'a' ELSE 'b' END
case_of_case : (applied Function.Case (number (pos 1) ∷ number (pos 5) ∷ null ∷ []) >>= λ x. applied Function.Match (x ∷ number (pos 5) ∷ text (codes "a") ∷ text (codes "b") ∷ [])) ≡ gives (text (codes "a"))
case_of_case = refl

-- CASE WHEN 1 < 2 THEN 'a' ELSE 'b' END
less_chosen : (applied (Function.Test Comparison.Less) (number (pos 1) ∷ number (pos 2) ∷ []) >>= λ w. applied Function.Case (w ∷ text (codes "a") ∷ text (codes "b") ∷ [])) ≡ gives (text (codes "a"))
less_chosen = refl

-- the truth of a test as a value
not_less : applied (Function.Test Comparison.Less) (number (pos 2) ∷ number (pos 2) ∷ []) ≡ gives (number (pos 0))
not_less = refl

less_unknown : applied (Function.Test Comparison.Less) (number (pos 1) ∷ null ∷ []) ≡ gives null
less_unknown = refl

between_one_end : applied Function.IsBetween (number (pos 5) ∷ null ∷ number (pos 3) ∷ []) ≡ gives (number (pos 0))
between_one_end = refl

among_beside_null : applied Function.IsAmong (number (pos 2) ∷ null ∷ number (pos 2) ∷ []) ≡ gives (number (pos 1))
among_beside_null = refl

among_unknown : applied Function.IsAmong (number (pos 1) ∷ null ∷ number (pos 2) ∷ []) ≡ gives null
among_unknown = refl

-- IN of none is false, of null too
among_none : applied Function.IsAmong (number (pos 1) ∷ []) ≡ gives (number (pos 0))
among_none = refl

null_among_none : applied Function.IsAmong (null ∷ []) ≡ gives (number (pos 0))
null_among_none = refl

is_null : applied Function.IsNull (null ∷ []) ≡ gives (number (pos 1))
is_null = refl

zero_is_not_null : applied Function.IsNull (number (pos 0) ∷ []) ≡ gives (number (pos 0))
zero_is_not_null = refl

-- NOT of unknown, unknown AND false, unknown OR true
not_of_unknown : applied Function.Not (null ∷ []) ≡ gives null
not_of_unknown = refl

unknown_and_false : applied Function.And (null ∷ number (pos 0) ∷ []) ≡ gives (number (pos 0))
unknown_and_false = refl

unknown_and_true : applied Function.And (null ∷ number (pos 1) ∷ []) ≡ gives null
unknown_and_true = refl

unknown_or_true : applied Function.Or (null ∷ number (pos 1) ∷ []) ≡ gives (number (pos 1))
unknown_or_true = refl

-- 'a!b' LIKE 'a!b', and with ESCAPE '!': that pattern is 'ab' then
like_inside : applied Function.IsLike (text (codes "a!b") ∷ text (codes "a!b") ∷ []) ≡ gives (number (pos 1))
unfolding chars
like_inside = refl

like_escaped : applied Function.IsLike (text (codes "a!b") ∷ text (codes "a!b") ∷ text (codes "!") ∷ []) ≡ gives (number (pos 0))
unfolding chars
like_escaped = refl

-- what isn't one character escapes nothing
like_two : applied Function.IsLike (text (codes "a!b") ∷ text (codes "a!b") ∷ text (codes "!!") ∷ []) ≡ gives (number (pos 1))
unfolding chars
like_two = refl

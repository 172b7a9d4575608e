-- CASE, and the tests inside one, whose truth is a value (chapter 4.7.4).
use Rattle.std.specs.Prelude.{pos, List, [], ◌∷◌, if◌then◌else◌}
use Rattle.jpql_trees.specs.declared.tree.Comparison.{Comparison}
use Rattle.jpql_meaning.specs.declared.eval.datum.Datum.{Datum}
use Rattle.jpql_meaning.specs.declared.eval.datum.Truth.{Truth}
use Rattle.jpql_meaning.specs.eval.Truths.{is_yes}
use Rattle.jpql_meaning.specs.eval.Data.{null, compared, among}
use Rattle.jpql_meaning.specs.eval.Numbers.{number}

-- a truth as a value: null where it is unknown
abbrev pub truth_datum : Truth → Datum
truth_datum Truth.Yes = number (pos 1)
truth_datum Truth.No = number (pos 0)
truth_datum Truth.Unknown = null

-- the truth that a value is
abbrev pub truth_in : Datum → Truth
truth_in d = compared Comparison.Equal (number (pos 1)) d

-- of WHENs with their THENs, and ELSE: the value behind the first that equals x, else ELSE's
abbrev pub matched : Datum → List Datum → Datum
matched x [] = null
matched x (otherwise ∷ []) = otherwise
matched x (w ∷ a ∷ more) = if is_yes (compared Comparison.Equal x w) then a else matched x more

-- CASE WHEN: the value behind the first test that is true, else ELSE's
abbrev pub chosen : List Datum → Datum
chosen all = matched (truth_datum Truth.Yes) all

-- CASE of a value, which comes first
abbrev pub chosen_of : List Datum → Datum
chosen_of [] = null
chosen_of (x ∷ all) = matched x all

-- IN of the first and the others
abbrev pub is_among : List Datum → Datum
is_among [] = null
is_among (x ∷ all) = truth_datum (among x all)

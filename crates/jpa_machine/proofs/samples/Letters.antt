-- UPPER and LOWER evaluated, by Unicode's rows (chapter 4.7.2).
use Rattle.std.proofs.Common.{◌≡◌, [], ◌∷◌, ◌++◌, refl, codes}
use Rattle.std.specs.Char.Unicode.CaseIgnorable.{is_case_ignorable, case_ignorable_ranges}
use Rattle.std.specs.Char.Unicode.Cased.{is_cased, cased_ranges}
use Rattle.std.specs.Char.Unicode.Rows.{by_runs, by_strings, in_ranges}
use Rattle.std.specs.Char.Unicode.ToLowercase.{to_lowercase, lowercase_runs, lowercase_strings}
use Rattle.std.specs.Char.Unicode.ToUppercase.{to_uppercase, uppercase_runs, uppercase_strings}
use Rattle.std.specs.Str.{chars}
use Rattle.std.specs.StrCase.Lower.{str_to_lowercase}
use Rattle.std.specs.StrCase.Upper.{str_to_uppercase}
use Rattle.jpql_trees.specs.declared.tree.Function.{Function}
use Rattle.jpql_meaning.specs.eval.Answers.{gives}
use Rattle.jpql_meaning.specs.eval.Calls.{text, applied}

-- UPPER('straße') is 'STRASSE'
sharp : applied Function.Upper (text (codes "stra" ++ (195 ∷ 159 ∷ codes "e")) ∷ []) ≡ gives (text (codes "STRASSE"))
unfolding str_to_uppercase to_uppercase by_strings uppercase_strings by_runs uppercase_runs chars lib.Utf8.encode
sharp = refl

-- LOWER('ΔΣ Σ') is 'δς σ': the Σ that ends a word has a form of its own
end_of_word : applied Function.Lower (text (206 ∷ 148 ∷ 206 ∷ 163 ∷ 32 ∷ 206 ∷ 163 ∷ []) ∷ []) ≡ gives (text (206 ∷ 180 ∷ 207 ∷ 130 ∷ 32 ∷ 207 ∷ 131 ∷ []))
unfolding str_to_lowercase to_lowercase by_strings lowercase_strings by_runs lowercase_runs is_case_ignorable case_ignorable_ranges in_ranges is_cased cased_ranges
    chars lib.Utf8.encode
end_of_word = refl

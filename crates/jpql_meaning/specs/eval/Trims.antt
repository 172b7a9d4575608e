-- TRIM (chapter 4.7.2). What is taken off is a text of any length, and it is taken off as often as
-- it stands at the side.
use Rattle.std.specs.Prelude.{ℕ, zero, suc, nat_eq, List, [], ◌∷◌, length, drop, reverse, if◌then◌else◌}
use Rattle.std.specs.List.{starts_with}
use Rattle.jpql_trees.specs.declared.tree.Trimmed.{Trimmed}
use Rattle.jpql_meaning.specs.eval.Texts.{Text}

-- the blank, which is taken off where no other text is given (chapter 4.7.2)
abbrev pub blank : Text
blank = 32 ∷ []

-- a text without another at its front, taken off at most so many times
abbrev pub without_front : ℕ → Text → Text → Text
without_front zero off t = t
without_front (suc n) off t = if starts_with nat_eq t off then without_front n off (drop (length off) t) else t

-- a text without another at its front, as often as it stands there; an empty one takes off nothing
abbrev pub trimmed_front : Text → Text → Text
trimmed_front off t = without_front (length t) off t

-- the same at the end: that is the front of both turned round
abbrev pub trimmed_end : Text → Text → Text
trimmed_end off t = reverse (trimmed_front (reverse off) (reverse t))

-- a text without another at these sides, of both the front first (chapter 4.7.2)
abbrev pub trimmed : Trimmed → Text → Text → Text
trimmed Trimmed.Leading off t = trimmed_front off t
trimmed Trimmed.Trailing off t = trimmed_end off t
trimmed Trimmed.Both off t = trimmed_end off (trimmed_front off t)

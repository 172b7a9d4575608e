-- What names and paths are found by, where no list is walked.
use Rattle.std.specs.Prelude.{Bool, List, ◌∷◌, Option, Some, None}
use Rattle.std.specs.Cmp.{IsTotalOrder}
use Rattle.std.specs.Cmp.Lexicographic.{slice_cmp, lists_total, nat_list_cmp_total}
use Rattle.std.specs.Ordering.{is_eq, nat_cmp}
use Rattle.std.specs.Str.{str_to_ascii_lowercase}
use Rattle.std.specs.declared.cmp.Ordering.{Ordering}
use Rattle.jpa_model.specs.Chains.{same_name}
use Rattle.jpa_model.specs.WellFormed.{is_some_that}
use Rattle.jpql_trees.specs.declared.tree.Path.{Path}
use Rattle.jpql_trees.specs.declared.tree.Value.{Value}
use Rattle.jpql_trees.specs.tree.Names.{Text}
use Rattle.jpql_types.specs.Scope.{same_path}

-- ---- names

-- whether there is a name, and it is this one
abbrev pub has_name : Text → Option Text → Bool
has_name q = is_some_that (λ name. same_name name q)

-- ---- paths

-- whether there is a path, and it is the same as this one
abbrev pub is_path : Path → Option Path → Bool
is_path q = is_some_that (same_path q)

-- the path that a value is, if it is one
abbrev pub path_in : Value → Option Path
path_in (Value.Path p) = Some p
path_in _ = None

-- the words of a path: its variable in lower case, and its names
abbrev pub Words : Type 0
Words = List Text

-- a path's variable in lower case, then its names
abbrev pub words_of : Path → Words
words_of p = str_to_ascii_lowercase p.variable ∷ p.names

-- the order of words: by their texts one after the other, each by its bytes
abbrev pub words_cmp : Words → Words → Ordering
words_cmp = slice_cmp (slice_cmp nat_cmp)

-- whether words are equal in that order
abbrev pub same_words : Words → Words → Bool
same_words a b = is_eq (words_cmp a b)

-- whether there is a path, and it has these words
abbrev pub has_words : Words → Option Path → Bool
has_words q = is_some_that (λ p. same_words (words_of p) q)

-- the order of words is total
pub words_total : IsTotalOrder words_cmp
words_total = lists_total nat_list_cmp_total

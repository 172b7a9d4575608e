use Rattle.std.proofs.Common.{◌≡◌, ℕ, List, take}
use Rattle.std.specs.BTreeSet.{contains}
use Rattle.std.specs.List.{list_any}
use Rattle.jpql_types.specs.Indexes.{has_words, words_cmp}
use Rattle.jpql_types.proofs.index.by_path.paths_of.Given as goal

abbrev pub invariant-loop-item : goal.invariant-loop-item
invariant-loop-item g l = (q : List (List ℕ)) → contains words_cmp l.paths q ≡ list_any (λ x. has_words q (g.T.Pathed.path_of x)) (take l.item-index l.items)

-- Values beside rows of subqueries: which sorts are compared, by samples.
use Rattle.std.proofs.Common.{◌≡◌, refl, true, false, Some, None}
use Rattle.jpql_trees.specs.declared.tree.Aggregate.{Aggregate}
use Rattle.jpql_trees.specs.declared.tree.Against.{Against}
use Rattle.jpql_trees.specs.declared.tree.Comparison.{Comparison}
use Rattle.jpql_types.specs.declared.sort.Sort.{Sort}
use Rattle.jpql_types.specs.Sorts.{integer, text, sort_against, are_comparable}
use Rattle.jpql_types.specs.Typing.{pass_both}

sum_of_integers : sort_against (Against.One Aggregate.Sum true) integer ≡ Some integer
sum_of_integers = refl

sum_of_texts : sort_against (Against.One Aggregate.Sum false) text ≡ None
sum_of_texts = refl

count_of_entities : sort_against (Against.One Aggregate.Count false) (Sort.Entity 0) ≡ Some integer
count_of_entities = refl

max_of_texts : sort_against (Against.One Aggregate.Max false) text ≡ Some text
max_of_texts = refl

min_of_entities : sort_against (Against.One Aggregate.Min false) (Sort.Entity 0) ≡ None
min_of_entities = refl

entities_alike : pass_both (are_comparable Comparison.Equal) (Some (Sort.Entity 3)) (sort_against Against.Any (Sort.Entity 3)) ≡ true
entities_alike = refl

entities_in_order : pass_both (are_comparable Comparison.Less) (Some (Sort.Entity 3)) (sort_against Against.Any (Sort.Entity 3)) ≡ false
entities_in_order = refl

entities_of_two_hierarchies : pass_both (are_comparable Comparison.Different) (Some (Sort.Entity 3)) (sort_against Against.All (Sort.Entity 4)) ≡ false
entities_of_two_hierarchies = refl

use Rattle.std.proofs.Common.{◌≡◌, ◌≤◌, ℕ, List, length, drop}
use Rattle.std.specs.BTreeMap.{get_by_text}
use Rattle.std.specs.List.{position_from}
use Rattle.jpql_types.specs.Indexes.{has_name}
use Rattle.jpql_types.proofs.index.by_name.places_of.Given as goal

abbrev pub invariant-loop-left : goal.invariant-loop-left
invariant-loop-left g l = record {
  within : l.left ≤ length l.items;
  found : (q : List ℕ) → get_by_text l.places q ≡ position_from (λ x. has_name q (g.T.Named.name_of x)) l.left (drop l.left l.items);
}

abbrev pub decreases-loop-left : goal.decreases-loop-left
decreases-loop-left g l = l.left

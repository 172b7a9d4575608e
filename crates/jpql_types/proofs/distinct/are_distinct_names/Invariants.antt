use Rattle.std.proofs.Common.{◌≡◌, ◌≤◌, ℕ, true, List, length, drop}
use Rattle.std.specs.BTreeSet.{contains_text}
use Rattle.std.specs.List.{list_any}
use Rattle.jpa_model.specs.Chains.{same_name}
use Rattle.jpql_types.specs.Statements.{are_distinct}
use Rattle.jpql_types.proofs.distinct.are_distinct_names.Given as goal

abbrev pub invariant-loop-left : goal.invariant-loop-left
invariant-loop-left l = record {
  within : l.left ≤ length l.names;
  met : (q : List ℕ) → contains_text l.later q ≡ list_any (same_name q) (drop l.left l.names);
  distinct : are_distinct same_name (drop l.left l.names) ≡ true;
}

abbrev pub decreases-loop-left : goal.decreases-loop-left
decreases-loop-left l = l.left

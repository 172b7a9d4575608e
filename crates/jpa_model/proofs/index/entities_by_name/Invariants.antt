use Rattle.std.proofs.Common.{◌≡◌, ◌≤◌, ℕ, List, length, drop}
use Rattle.std.specs.List.{position_from}
use Rattle.std.specs.BTreeMap.{get_by_text}
use Rattle.jpa_model.specs.Chains.{same_name}
use Rattle.jpa_model.proofs.index.entities_by_name.Given as goal

abbrev pub invariant-loop-left : goal.invariant-loop-left
invariant-loop-left l = record {
  within : l.left ≤ length l.entities;
  found : (q : List ℕ) → get_by_text l.names q ≡ position_from (λ e. same_name e.name q) l.left (drop l.left l.entities);
}

abbrev pub decreases-loop-left : goal.decreases-loop-left
decreases-loop-left l = l.left

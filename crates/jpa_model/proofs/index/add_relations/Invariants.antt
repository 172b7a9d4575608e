use Rattle.std.proofs.Common.{◌≡◌, ◌≤◌, ℕ, List, length, drop}
use Rattle.std.specs.Prelude.{option_map}
use Rattle.std.specs.List.{position_from}
use Rattle.std.specs.BTreeMap.{get_by_text}
use Rattle.jpa_model.specs.Chains.{same_name, or_else}
use Rattle.jpa_model.specs.declared.unit.Member.{Member}
use Rattle.jpa_model.proofs.index.add_relations.Given as goal

abbrev pub invariant-loop-left : goal.invariant-loop-left
invariant-loop-left l = record {
  within : l.left ≤ length l.relations;
  found : (q : List ℕ) → get_by_text l.members q
      ≡ or_else (option_map Member.Relation (position_from (λ r. same_name r.name q) l.left (drop l.left l.relations))) (get_by_text l.fn.members q);
}

abbrev pub decreases-loop-left : goal.decreases-loop-left
decreases-loop-left l = l.left

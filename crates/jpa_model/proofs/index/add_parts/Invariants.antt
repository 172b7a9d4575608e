use Rattle.std.proofs.Common.{◌≡◌, ◌≤◌, ℕ, List, length, drop}
use Rattle.std.specs.Prelude.{option_map}
use Rattle.std.specs.List.{position_from}
use Rattle.std.specs.BTreeMap.{get_by_text}
use Rattle.jpa_model.specs.Chains.{same_name, or_else, part_name}
use Rattle.jpa_model.specs.declared.unit.Member.{Member}
use Rattle.jpa_model.proofs.index.add_parts.Given as goal

abbrev pub invariant-loop-left : goal.invariant-loop-left
invariant-loop-left l = record {
  within : l.left ≤ length l.root.key;
  found : (q : List ℕ) → get_by_text l.members q
      ≡ or_else (option_map Member.KeyPart (position_from (λ part. same_name (part_name l.root part) q) l.left (drop l.left l.root.key))) (get_by_text l.fn.members q);
}

abbrev pub decreases-loop-left : goal.decreases-loop-left
decreases-loop-left l = l.left

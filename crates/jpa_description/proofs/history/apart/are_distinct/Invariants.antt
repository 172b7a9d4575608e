use Rattle.std.proofs.Common.{◌≡◌, ℕ, take, true}
use Rattle.std.specs.Prelude.{◌==◌}
use Rattle.std.specs.List.{list_any}
use Rattle.std.specs.Ordering.{nat_cmp}
use Rattle.std.specs.BTreeSet.{contains}
use Rattle.jpa_description.specs.history.Condition.{are_distinct}
use Rattle.jpa_description.proofs.history.apart.are_distinct.Given as goal

abbrev pub invariant-loop-number : goal.invariant-loop-number
invariant-loop-number l = record {
  distinct : are_distinct (take l.number-index l.numbers) ≡ true;
  seen : (q : ℕ) → contains nat_cmp l.seen q ≡ list_any (λ k. q == k) (take l.number-index l.numbers);
}

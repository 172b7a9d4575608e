use Rattle.std.proofs.Common.{◌≡◌, drop}
use Rattle.jpa_model.specs.WellFormed.{are_distinct_numbers}
use Rattle.jpa_description.proofs.description.numbers.are_distinct_numbers.Given as goal

abbrev pub invariant-loop-i : goal.invariant-loop-i
invariant-loop-i l = are_distinct_numbers (drop l.i l.numbers) ≡ are_distinct_numbers l.numbers

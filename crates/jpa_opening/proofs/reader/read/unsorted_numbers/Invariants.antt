use Rattle.std.proofs.Common.{◌≡◌, map, take}
use Rattle.jpa_opening.proofs.reader.read.unsorted_numbers.Given as goal

abbrev pub invariant-loop-table : goal.invariant-loop-table
invariant-loop-table l = l.numbers.items ≡ map (λ t. t.table) (take l.table-index l.table-items)

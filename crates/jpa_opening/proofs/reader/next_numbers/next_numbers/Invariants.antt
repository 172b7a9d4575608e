use Rattle.std.proofs.Common.{◌≡◌, ◌++◌, map, drop}
use Rattle.jpa_object_rows.specs.meaning.Sets.{next_at, numbers_in}
use Rattle.jpa_opening.proofs.reader.next_numbers.next_numbers.Given as goal

abbrev pub invariant-loop-class : goal.invariant-loop-class
invariant-loop-class l = l.numbers ++ map (λ e. next_at l.rows e.origin) (drop l.class l.metamodel.entities) ≡ numbers_in l.metamodel l.rows

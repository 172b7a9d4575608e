use Rattle.std.proofs.Common.{◌≡◌, drop}
use Rattle.jpa_rows.specs.rows.Cells.{keys_given}
use Rattle.jpa_opening.proofs.reader.keys.are_keys_given.Given as goal

abbrev pub invariant-loop-entry : goal.invariant-loop-entry
invariant-loop-entry l =
    keys_given l.metamodel (drop l.entry-index l.entry-items) l.numbers ≡ keys_given l.metamodel l.entry-items l.numbers

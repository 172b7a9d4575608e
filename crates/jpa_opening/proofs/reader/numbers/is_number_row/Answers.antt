use Rattle.jpa_opening.proofs.reader.Said.{number_row_told}
use Rattle.jpa_opening.proofs.reader.numbers.is_number_row.Goals as goal

pub returns-then-next-gt1 : goal.returns-then-next-gt1
returns-then-next-gt1 c =
    let w = c.in-Some-Some in
    number_row_told c.args.metamodel.now c.args.id.now c.args.row.now w.table w.next c.has_generator.result w.ensures w.ensures'.number w.ensures'.small c.if-next-gt1.true c.has_generator.ensures

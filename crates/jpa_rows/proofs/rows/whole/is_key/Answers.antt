use Rattle.jpa_rows.proofs.rows.Judged.{parts_are, other_length}
use Rattle.jpa_rows.proofs.rows.whole.is_key.Goals as goal

pub returns-then-kinds-len : goal.returns-then-kinds-len
returns-then-kinds-len c =
    parts_are c.args.kinds.now c.as_slice.result.now c.args.key.now c.len.result c.are_parts.result c.are_parts.ensures c.as_slice.ensures c.if-kinds-len.true c.len.ensures

pub returns-else-kinds-len : goal.returns-else-kinds-len
returns-else-kinds-len c = other_length c.args.kinds.now c.args.key.now c.len.result c.if-kinds-len.false c.len.ensures

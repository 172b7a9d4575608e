use Rattle.std.proofs.Common.{[], arith}
use Rattle.jpa_lines.specs.lines.ReplyText.{row_data}
use Rattle.jpa_lines.proofs.lines.Told.{whole_list}
use Rattle.jpa_lines.proofs.lines.writing.tell_rows.Goals as goal

pub returns : goal.returns
returns c = whole_list _ row_data c.args.out.now c.loop-row.out c.end_array.new.self [] c.args.rows.now c.loop-row.row-index (omega arith) c.loop-row.invariant c.in_ok-end_array.ensures

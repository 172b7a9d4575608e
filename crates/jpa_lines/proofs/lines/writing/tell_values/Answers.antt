use Rattle.std.proofs.Common.{[], arith}
use Rattle.jpa_lines.specs.lines.ReplyText.{value_data}
use Rattle.jpa_lines.proofs.lines.Told.{whole_list}
use Rattle.jpa_lines.proofs.lines.writing.tell_values.Goals as goal

pub returns : goal.returns
returns c = whole_list _ value_data c.args.out.now c.loop-value.out c.end_array.new.self [] c.args.values.now c.loop-value.value-index (omega arith) c.loop-value.invariant c.in_ok-end_array.ensures

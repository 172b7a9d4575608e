use Rattle.std.proofs.Common.{[], arith}
use Rattle.jpa_lines.specs.lines.ReplyText.{object_data}
use Rattle.jpa_lines.proofs.lines.Told.{whole_list}
use Rattle.jpa_lines.proofs.lines.writing.tell_objects.Goals as goal

pub returns : goal.returns
returns c = whole_list _ object_data c.args.out.now c.loop-number.out c.end_array.new.self [] c.args.numbers.now c.loop-number.number-index (omega arith) c.loop-number.invariant c.in_ok-end_array.ensures

use Rattle.std.proofs.Common.{[], arith}
use Rattle.jpa_lines.specs.lines.ReplyText.{due_data}
use Rattle.jpa_lines.proofs.lines.Told.{whole_list}
use Rattle.jpa_lines.proofs.lines.writing.tell_dues.Goals as goal

pub returns : goal.returns
returns c = whole_list _ due_data c.args.out.now c.loop-due.out c.end_array.new.self [] c.args.events.now c.loop-due.due-index (omega arith) c.loop-due.invariant c.in_ok-end_array.ensures

use Rattle.std.proofs.Common.{[], arith}
use Rattle.jpa_lines.specs.lines.ReplyText.{value_data}
use Rattle.jpa_lines.proofs.lines.Told.{whole_list}
use Rattle.jpa_questions.proofs.questions.line.tell_key.Goals as goal

pub returns : goal.returns
returns c = whole_list _ value_data c.args.out.now c.loop-part.out c.end_array.new.self [] c.args.key.now c.loop-part.part-index (omega arith) c.loop-part.invariant c.in_ok-end_array.ensures

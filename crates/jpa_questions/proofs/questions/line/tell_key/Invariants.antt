use Rattle.std.proofs.Common.{map, take}
use Rattle.jpa_lines.specs.lines.Outcome.{Adds}
use Rattle.jpa_lines.specs.lines.ReplyText.{value_data}
use Rattle.jpa_lines.proofs.lines.Told.{begun}
use Rattle.jpa_questions.proofs.questions.line.tell_key.Given as goal

abbrev pub invariant-loop-part : goal.invariant-loop-part
invariant-loop-part l = Adds l.fn.out l.out (begun (map value_data (take l.part-index l.key)))

use Rattle.std.proofs.Common.{map, take}
use Rattle.jpa_lines.specs.lines.Outcome.{Adds}
use Rattle.jpa_lines.specs.lines.ReplyText.{due_data}
use Rattle.jpa_lines.proofs.lines.Told.{begun}
use Rattle.jpa_lines.proofs.lines.writing.tell_dues.Given as goal

abbrev pub invariant-loop-due : goal.invariant-loop-due
invariant-loop-due l = Adds l.fn.out l.out (begun (map due_data (take l.due-index l.events)))

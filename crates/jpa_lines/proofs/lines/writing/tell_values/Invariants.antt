use Rattle.std.proofs.Common.{map, take}
use Rattle.jpa_lines.specs.lines.Outcome.{Adds}
use Rattle.jpa_lines.specs.lines.ReplyText.{value_data}
use Rattle.jpa_lines.proofs.lines.Told.{begun}
use Rattle.jpa_lines.proofs.lines.writing.tell_values.Given as goal

abbrev pub invariant-loop-value : goal.invariant-loop-value
invariant-loop-value l = Adds l.fn.out l.out (begun (map value_data (take l.value-index l.values)))

use Rattle.std.proofs.Common.{map, take}
use Rattle.jpa_lines.specs.lines.Outcome.{Adds}
use Rattle.jpa_lines.specs.lines.ReplyText.{reached_data}
use Rattle.jpa_lines.proofs.lines.Told.{begun}
use Rattle.jpa_lines.proofs.lines.writing.tell_relations.Given as goal

abbrev pub invariant-loop-reached : goal.invariant-loop-reached
invariant-loop-reached l = Adds l.fn.out l.out (begun (map reached_data (take l.reached-index l.relations)))

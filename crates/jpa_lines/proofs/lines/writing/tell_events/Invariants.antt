use Rattle.std.proofs.Common.{map, take}
use Rattle.jpa_lines.specs.lines.Outcome.{Adds}
use Rattle.jpa_lines.specs.lines.ReplyText.{event_data}
use Rattle.jpa_lines.proofs.lines.Told.{begun}
use Rattle.jpa_lines.proofs.lines.writing.tell_events.Given as goal

abbrev pub invariant-loop-told : goal.invariant-loop-told
invariant-loop-told l = Adds l.fn.out l.out (begun (map event_data (take l.told-index l.events)))

use Rattle.std.proofs.Common.{[], arith}
use Rattle.jpa_lines.specs.lines.ReplyText.{event_data}
use Rattle.jpa_lines.proofs.lines.Told.{whole_list}
use Rattle.jpa_lines.proofs.lines.writing.tell_events.Goals as goal

pub returns : goal.returns
returns c = whole_list _ event_data c.args.out.now c.loop-told.out c.end_array.new.self [] c.args.events.now c.loop-told.told-index (omega arith) c.loop-told.invariant c.in_ok-end_array.ensures

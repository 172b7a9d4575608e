use Rattle.std.proofs.Common.{[], arith}
use Rattle.jpa_lines.specs.lines.ReplyText.{shown_data}
use Rattle.jpa_lines.proofs.lines.Told.{whole_list}
use Rattle.jpa_lines.proofs.lines.writing.tell_all_shown.Goals as goal

pub returns : goal.returns
returns c = whole_list _ shown_data c.args.out.now c.loop-shown.out c.end_array.new.self [] c.args.objects.now c.loop-shown.shown-index (omega arith) c.loop-shown.invariant c.in_ok-end_array.ensures

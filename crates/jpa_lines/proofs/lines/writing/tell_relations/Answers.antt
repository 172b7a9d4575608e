use Rattle.std.proofs.Common.{[], arith}
use Rattle.jpa_lines.specs.lines.ReplyText.{reached_data}
use Rattle.jpa_lines.proofs.lines.Told.{whole_list}
use Rattle.jpa_lines.proofs.lines.writing.tell_relations.Goals as goal

pub returns : goal.returns
returns c = whole_list _ reached_data c.args.out.now c.loop-reached.out c.end_array.new.self [] c.args.relations.now c.loop-reached.reached-index (omega arith) c.loop-reached.invariant c.in_ok-end_array.ensures

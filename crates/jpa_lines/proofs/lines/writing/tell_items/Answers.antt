use Rattle.std.proofs.Common.{[], arith}
use Rattle.jpa_lines.specs.lines.ReplyText.{item_data}
use Rattle.jpa_lines.proofs.lines.Told.{whole_list}
use Rattle.jpa_lines.proofs.lines.writing.tell_items.Goals as goal

pub returns : goal.returns
returns c = whole_list _ item_data c.args.out.now c.loop-item.out c.end_array.new.self [] c.args.items.now c.loop-item.item-index (omega arith) c.loop-item.invariant c.in_ok-end_array.ensures

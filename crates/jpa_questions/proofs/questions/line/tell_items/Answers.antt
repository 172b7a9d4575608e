use Rattle.std.proofs.Common.{[], arith}
use Rattle.jpa_questions.specs.questions.Lines.{datum_data}
use Rattle.jpa_lines.proofs.lines.Told.{whole_list}
use Rattle.jpa_questions.proofs.questions.line.tell_items.Goals as goal

pub returns : goal.returns
returns c = whole_list _ (datum_data c.args.metamodel.now) c.args.out.now c.loop-item.out c.end_array.new.self [] c.args.items.now c.loop-item.item-index (omega arith) c.loop-item.invariant c.in_ok-end_array.ensures

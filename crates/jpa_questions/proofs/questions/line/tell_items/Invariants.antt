use Rattle.std.proofs.Common.{map, take}
use Rattle.jpa_lines.specs.lines.Outcome.{Adds}
use Rattle.jpa_questions.specs.questions.Lines.{datum_data}
use Rattle.jpa_lines.proofs.lines.Told.{begun}
use Rattle.jpa_questions.proofs.questions.line.tell_items.Given as goal

abbrev pub invariant-loop-item : goal.invariant-loop-item
invariant-loop-item l = Adds l.fn.out l.out (begun (map (datum_data l.metamodel) (take l.item-index l.items)))

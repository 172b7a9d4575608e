use Rattle.std.proofs.Common.{◌≡◌, take, flat_map}
use Rattle.jpa_questions.specs.questions.Lines.{row_text}
use Rattle.jpa_questions.proofs.questions.line.write_rows.Given as goal

abbrev pub invariant-loop-row : goal.invariant-loop-row
invariant-loop-row l = l.text.items ≡ flat_map (row_text l.metamodel) (take l.row-index l.rows)

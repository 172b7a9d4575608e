use Rattle.jpa_lines.proofs.lines.OneLine.{one_line_each}
use Rattle.jpa_lines.proofs.lines.laws.one_line_each.Goals as goal

pub returns : goal.returns
returns c = one_line_each

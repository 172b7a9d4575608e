use Rattle.jpa_lines.proofs.lines.InOrder.{names_rise}
use Rattle.jpa_lines.proofs.lines.laws.each_parameter_once.Goals as goal

pub returns : goal.returns
returns c = names_rise

use Rattle.jpa_cells.proofs.rowspace.Whole.{reads_all}
use Rattle.jpa_cells.proofs.rowspace.laws.reading_law.Goals as goal

pub returns : goal.returns
returns c = reads_all

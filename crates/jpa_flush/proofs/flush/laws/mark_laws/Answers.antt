use Rattle.jpa_flush.proofs.flush.Noted.{links_kept, marks_go_on, names_kept}
use Rattle.jpa_flush.proofs.flush.laws.mark_laws.Goals as goal

pub returns-clause-marks : goal.returns-clause-marks
returns-clause-marks c = marks_go_on

pub returns-clause-names : goal.returns-clause-names
returns-clause-names c = names_kept

pub returns-clause-links : goal.returns-clause-links
returns-clause-links c = links_kept

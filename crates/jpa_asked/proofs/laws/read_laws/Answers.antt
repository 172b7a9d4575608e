use Rattle.jpa_asked.proofs.Read.{reads_as, tree_read}
use Rattle.jpa_asked.proofs.laws.read_laws.Goals as goal

pub returns : goal.returns
returns c = record { found = tree_read; only = reads_as }

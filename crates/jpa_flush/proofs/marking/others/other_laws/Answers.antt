use Rattle.jpa_flush.proofs.marking.LetGo.{own_stay, theirs_stay}
use Rattle.jpa_flush.proofs.marking.Theirs.{others_go_on}
use Rattle.jpa_flush.proofs.marking.others.other_laws.Goals as goal

pub returns : goal.returns
returns c = record { stay = others_go_on; own = own_stay; let_go = theirs_stay }

use Rattle.jpa_work.proofs.context.First.{first_entry}
use Rattle.jpa_work.proofs.context.Staying.{one_leaves, leave_in_turn}
use Rattle.jpa_work.proofs.context.laws.place_laws.Goals as goal

pub returns-clause-entry : goal.returns-clause-entry
returns-clause-entry c = λ w n. first_entry n w.context

pub returns-clause-one : goal.returns-clause-one
returns-clause-one c = one_leaves

pub returns-clause-more : goal.returns-clause-more
returns-clause-more c = leave_in_turn

use Rattle.jpa_flush.proofs.flush.Below.{one_keeps}
use Rattle.jpa_flush.proofs.flush.touched.add.Goals as goal

pub returns-clause-kept : goal.returns-clause-kept
returns-clause-kept c = one_keeps c.args.place c.args.places.now c.insert.new.self c.in_ok-insert.ensures.updates

use Rattle.jpa_flush.proofs.flush.Same.{identities_of_lengths}
use Rattle.jpa_flush.proofs.flush.still.are_same_identities.Goals as goal

pub returns-then-a-b : goal.returns-then-a-b
returns-then-a-b c = identities_of_lengths c.args.a.now c.args.b.now c.if-a-b.true

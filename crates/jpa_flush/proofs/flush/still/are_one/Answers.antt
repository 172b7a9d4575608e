use Rattle.std.proofs.Common.{◌∷◌, []}
use Rattle.jpa_flush.proofs.flush.Same.{identities_of_lengths}
use Rattle.jpa_flush.proofs.flush.still.are_one.Goals as goal

pub returns-then-ids-ne1 : goal.returns-then-ids-ne1
returns-then-ids-ne1 c = identities_of_lengths c.args.ids.now (c.args.id.now ∷ []) c.if-ids-ne1.true

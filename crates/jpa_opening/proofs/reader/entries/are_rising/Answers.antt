use Rattle.std.proofs.Common.{sym, ◌∙◌, arith}
use Rattle.jpa_opening.proofs.reader.Rising.{adjacent_rise, not_risen}
use Rattle.jpa_opening.proofs.reader.entries.are_rising.Goals as goal

pub returns-then-ne : goal.returns-then-ne
returns-then-ne c = (
  λ t. cc,
  λ rise. absurd (not_risen c.args.rows.now c.loop-i.i (omega arith) (omega arith) c.index-rows-i.result c.index-rows-i-in-loop-i.result c.order_identities.result c.order_identities.ensures (sym c.ne.ensures ∙ c.if-ne.true) rise),
)

pub returns : goal.returns
returns c = (λ t. adjacent_rise c.args.rows.now (λ k d less. c.loop-i.invariant k d (omega arith)), λ rise. cc)

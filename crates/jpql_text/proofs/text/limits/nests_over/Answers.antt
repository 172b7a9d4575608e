use Rattle.std.proofs.Common.{sym, ◌∙◌}
use Rattle.jpql_text.proofs.text.Places.{deep_here, deep_on, nothing_deep}
use Rattle.jpql_text.proofs.text.limits.nests_over.Goals as goal

pub returns-in-None : goal.returns-in-None
returns-in-None c =
    sym (c.loop-byte.invariant.1
    ∙ deep_here c.args.text.now c.loop-byte.byte-index _ c.loop-byte.opened c.loop-byte.is_quoted c.loop-byte-test.true (sym c.after_byte.ensures.value ∙ c.in-None.is))

pub loop-byte-preserved : goal.loop-byte-preserved
loop-byte-preserved c = (
  c.in-Some.ensures.few,
  c.loop-byte.invariant.1
      ∙ deep_on c.args.text.now c.loop-byte.byte-index _ c.loop-byte.opened c.in-Some.open_after c.loop-byte.is_quoted c.in-Some.quoted_after c.loop-byte-test.true (sym c.after_byte.ensures.value ∙ c.in-Some.is),
)

pub returns : goal.returns
returns c = sym (c.loop-byte.invariant.1 ∙ nothing_deep 32 c.loop-byte.opened c.loop-byte.is_quoted c.args.text.now c.loop-byte.byte-index c.loop-byte-test.false)

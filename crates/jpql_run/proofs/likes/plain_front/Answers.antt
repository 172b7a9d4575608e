use Rattle.std.proofs.Common.{arith}
use Rattle.jpql_run.proofs.Alike.{front_taken}
use Rattle.jpql_run.proofs.likes.plain_front.Goals as goal

pub returns-then-not-is_plain : goal.returns-then-not-is_plain
returns-then-not-is_plain c = front_taken c.args.escape.now c.args.pattern.now c.loop-i.i c.loop-i.invariant

pub returns : goal.returns
returns c = front_taken c.args.escape.now c.args.pattern.now c.min-most.result (λ k l. c.loop-i.invariant k (omega (arith, l, c.loop-i-test.false)))

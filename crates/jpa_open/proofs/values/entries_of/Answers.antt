use Rattle.std.proofs.Common.{arith}
use Rattle.jpa_open.proofs.Indexed.{stands_at}
use Rattle.jpa_open.proofs.values.entries_of.Goals as goal

pub returns-clause-all : goal.returns-clause-all
returns-clause-all c id x found =
    let at = stands_at c.args.objects.now id x found in
    c.loop-object.invariant at.0 (id, x) (let l = at.1 in omega (arith, l, c.loop-object-test.false)) at.2

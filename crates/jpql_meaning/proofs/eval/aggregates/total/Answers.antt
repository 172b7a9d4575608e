use Rattle.std.proofs.Common.{arith}
use Rattle.std.proofs.lemmas.Int.{ints}
use Rattle.jpql_meaning.specs.eval.Seen.{seen}
use Rattle.jpql_meaning.proofs.eval.Totals.{total_more}
use Rattle.jpql_meaning.proofs.eval.aggregates.total.Goals as goal

pub loop-one-preserved : goal.loop-one-preserved
loop-one-preserved c = record {
  sum =
      total_more seen c.args.all.now c.loop-one.one-index c.one-item.result c.addend-total.result _ _ _ c.loop-one-test.true c.one-item.is c.addend-total.ensures.value
      (omega (arith, ints)) c.loop-one.invariant.sum;
  least = omega (arith, ints);
  most = omega (arith, ints);
}

use Rattle.std.proofs.Common.{◌≡◌, ◌*◌, ◌^◌, ◌+ℤ◌, ◌≤ℤ◌, neg_ℤ, pos, drop, map}
use Rattle.jpql_meaning.specs.eval.Aggregates.{total}
use Rattle.jpql_meaning.specs.eval.Seen.{seen}
use Rattle.jpql_meaning.proofs.eval.aggregates.total.Given as goal

abbrev pub invariant-loop-one : goal.invariant-loop-one
invariant-loop-one l = record {
  sum : total (map seen l.all) ≡ l.total +ℤ total (map seen (drop l.one-index l.all));
  least : neg_ℤ (pos (2 ^ 63 * l.one-index)) ≤ℤ l.total;
  most : l.total ≤ℤ pos (2 ^ 63 * l.one-index);
}

use Rattle.std.proofs.Common.{◌≡◌, ◌++◌, drop, map, reverse}
use Rattle.std.specs.List.{list_any}
use Rattle.std.specs.BTreeSet.{contains}
use Rattle.jpql_meaning.specs.eval.Aggregates as aggregates
use Rattle.jpql_meaning.specs.eval.Data.{same_datum}
use Rattle.jpql_meaning.specs.eval.Seen.{seen}
use Rattle.jpql_meaning.specs.eval.SeenOrder.{seen_cmp}
use Rattle.jpql_meaning.specs.declared.eval.seen.Seen.{Seen}
use Rattle.jpql_meaning.proofs.eval.aggregates.once.Given as goal

abbrev pub invariant-loop-one : goal.invariant-loop-one
invariant-loop-one l = record {
  kept :
      aggregates.once same_datum (map seen l.all)
      ≡ map seen l.kept.items ++ aggregates.first_ones same_datum (reverse (map seen l.kept.items)) (map seen (drop l.one-index l.all));
  met : (q : Seen) → contains seen_cmp l.met q ≡ list_any (λ b. same_datum b (seen q)) (reverse (map seen l.kept.items));
}

use Rattle.std.proofs.Common.{◌≡◌, ◌++◌, zip}
use Rattle.jpa_object_rows.specs.meaning.Objects.{as_pairs, pairs_along}
use Rattle.jpa_object_rows.proofs.mapper.pair_rows.push_pairs_along.Given as goal

abbrev pub invariant-loop-relation : goal.invariant-loop-relation
invariant-loop-relation l =
    l.rows ++ as_pairs (pairs_along l.owner (zip l.relation-iterator.a.rest.now l.relation-iterator.b.rest.now))
    ≡ l.fn.rows ++ as_pairs (pairs_along l.owner (zip l.fn.relations l.fn.owned))

use Rattle.std.proofs.Common.{◌≡◌, ◌++◌, zip}
use Rattle.jpa_object_rows.specs.meaning.Objects.{relation_places}
use Rattle.jpa_object_rows.specs.mapper.Narrow.{HaveNarrowLinks}
use Rattle.jpa_object_rows.proofs.mapper.places.push_links.Given as goal

abbrev pub invariant-loop-relation : goal.invariant-loop-relation
invariant-loop-relation l = record {
  narrow : HaveNarrowLinks l.relation-iterator.a.rest.now;
  rest : l.places ++ relation_places (zip l.relation-iterator.a.rest.now l.relation-iterator.b.rest.now)
      ≡ l.fn.places ++ relation_places (zip l.fn.relations l.fn.owned);
}

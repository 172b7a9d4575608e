use Rattle.std.proofs.Common.{◌≡◌, ◌++◌, zip}
use Rattle.std.specs.List.{list_all}
use Rattle.jpa_model.specs.declared.unit.PersistenceUnit.{PersistenceUnit}
use Rattle.jpa_behaviour.specs.Registered.{world_of}
use Rattle.jpa_rows.specs.rows.Cells.{passes}
use Rattle.jpa_object_rows.specs.mapper.Narrow.{HaveNarrowColumns}
use Rattle.jpa_object_rows.specs.meaning.Objects.{attribute_places}
use Rattle.jpa_object_rows.proofs.mapper.places.push_attributes.Given as goal

abbrev pub invariant-loop-attribute : goal.invariant-loop-attribute
invariant-loop-attribute g l = record {
  narrow : HaveNarrowColumns l.attribute-iterator.a.rest.now;
  rest : (m : PersistenceUnit) → l.places ++ attribute_places (world_of g.B.Behaviour.meaning m l.registry) (zip l.attribute-iterator.a.rest.now l.attribute-iterator.b.rest.now)
      ≡ l.fn.places ++ attribute_places (world_of g.B.Behaviour.meaning m l.registry) (zip l.fn.attributes l.fn.values);
  passed : (m : PersistenceUnit) → list_all (λ p. passes (world_of g.B.Behaviour.meaning m l.registry) p.0 p.1) (zip l.attribute-iterator.a.rest.now l.attribute-iterator.b.rest.now)
      ≡ list_all (λ p. passes (world_of g.B.Behaviour.meaning m l.registry) p.0 p.1) (zip l.fn.attributes l.fn.values);
}

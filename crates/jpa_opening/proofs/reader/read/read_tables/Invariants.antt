use Rattle.jpa_behaviour.specs.Registered.{world_of}
use Rattle.jpa_opening.proofs.reader.Steps.{SoFar}
use Rattle.jpa_opening.proofs.reader.read.read_tables.Given as goal

abbrev pub invariant-tables : goal.invariant-tables
invariant-tables g l = SoFar g.S.Store (world_of g.B.Behaviour.meaning l.metamodel l.registry) l.history l.fn.space l.space l.numbers l.table-index l.migration l.rows

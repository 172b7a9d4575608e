use Rattle.jpql_text.proofs.shapes.Typed.{counted, typed}
use Rattle.jpql_text.proofs.shapes.laws.calls_are_typed_by_shape.Goals as goal

pub returns-clause-counts : goal.returns-clause-counts
returns-clause-counts c = counted

pub returns-clause-sorts : goal.returns-clause-sorts
returns-clause-sorts c = typed

use Rattle.jpa_open.proofs.Entered.{HaveBelow}
use Rattle.jpa_open.proofs.values.columns_with.Given as goal

abbrev pub invariant-loop-class : goal.invariant-loop-class
invariant-loop-class l = HaveBelow l.metamodel l.all.items l.column l.class

use Rattle.std.proofs.Common.{drop}
use Rattle.jpql_select.specs.select.Selects.{row_of}
use Rattle.jpql_select.specs.first.First.{AreInFront}
use Rattle.jpql_select.proofs.first.Firsts.{Rest}
use Rattle.jpql_select.proofs.first.best.best_rows.Given as goal

-- the first rows so far, and the tuples that are left
abbrev pub invariant-loop-tuple : goal.invariant-loop-tuple
invariant-loop-tuple l =
    record {
      rest : Rest l.select.order l.count (row_of l.run l.select) l.best.items (drop l.tuple-index l.tuples) l.tuples;
      front : AreInFront l.select.order l.count l.best.items;
    }

use Rattle.std.proofs.Common.{◌≡◌, ◌++◌, List, drop, length, reverse}
use Rattle.std.specs.BTreeSet.{contains}
use Rattle.std.specs.List.{list_any}
use Rattle.jpql_meaning.specs.eval.Aggregates as aggregates
use Rattle.jpql_meaning.specs.eval.Data.{same_data}
use Rattle.jpql_meaning.specs.declared.eval.datum.Datum.{Datum}
use Rattle.jpql_meaning.specs.plan.Laws.{is_same_row}
use Rattle.jpql_meaning.specs.plan.Selection.{Row}
use Rattle.jpql_select.specs.select.Keys.{data_cmp}
use Rattle.jpql_select.proofs.select.distinct.once.Given as goal

abbrev pub invariant-loop-row : goal.invariant-loop-row
invariant-loop-row l = record {
  kept :
      aggregates.once is_same_row l.fn.rows.items
      ≡ l.kept.items ++ aggregates.first_ones is_same_row (reverse l.kept.items) (drop (length l.yielded) l.fn.rows.items);
  met : (q : List Datum) → contains data_cmp l.met q ≡ list_any (λ (b : Row). same_data b.items q) (reverse l.kept.items);
}

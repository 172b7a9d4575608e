use Rattle.std.proofs.Common.{◌∙◌, ap, map, sym}
use Rattle.jpql_trees.specs.declared.tree.Comparison.{Comparison}
use Rattle.jpql_meaning.specs.eval.Data.{compared}
use Rattle.jpql_meaning.specs.eval.Seen.{seen}
use Rattle.jpql_meaning.specs.eval.Truths.{not3}
use Rattle.jpql_run.proofs.Decided.{all_by_any, compared_opposite}
use Rattle.jpql_run.proofs.rows_told.told_outside.Goals as goal

pub returns : goal.returns
returns c = λ x.
    let rows = map seen c.args.rows.items in
    all_by_any (compared Comparison.Equal x) (compared Comparison.Different x) (compared_opposite Comparison.Equal x) rows ∙ ap not3 (sym (c.in_ok-of.ensures x))

use Rattle.std.proofs.Common.{◌≡◌, map, subst}
use Rattle.jpql_meaning.specs.eval.Data.{compared}
use Rattle.jpql_meaning.specs.eval.Seen.{seen}
use Rattle.jpql_meaning.specs.eval.Truths.{all3}
use Rattle.jpql_run.proofs.Decided.{any_opposite}
use Rattle.jpql_run.proofs.rows_told.told_of_any.Goals as goal

pub returns : goal.returns
returns c = λ x.
    let rows = map seen c.args.rows.items in
    let found = map seen c.in_ok-hardest.field-0.items in
    any_opposite c.args.comparison x rows found (subst (λ o. all3 (map (compared o x) found) ≡ all3 (map (compared o x) rows)) c.opposite.ensures (c.in_ok-hardest.ensures x))

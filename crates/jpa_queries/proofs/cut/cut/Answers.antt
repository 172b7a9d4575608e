use Rattle.std.proofs.Common.{◌≡◌, ◌∙◌, IfOk, List, map, ap, subst}
use Rattle.std.specs.Global.{Vec}
use Rattle.jpql_meaning.specs.declared.eval.datum.Datum.{Datum}
use Rattle.jpql_meaning.specs.declared.eval.seen.Seen.{Seen}
use Rattle.jpql_meaning.specs.eval.Seen.{seen}
use Rattle.jpa_queries.specs.Queries.{limited}
use Rattle.jpa_queries.proofs.Viewed.{cut_as}
use Rattle.jpa_queries.proofs.cut.cut.Goals as goal

pub returns-clause-ok : goal.returns-clause-ok
returns-clause-ok c =
    let kept : Vec Seen → List Datum = λ row. map seen row.items in
    let same = c.limited.ensures ∙ ap (limited c.args.max) c.skipped.ensures in
    subst (λ (ys : List (List Datum)). IfOk c.rows_of.result (λ rows. rows ≡ ys)) (ap (map kept) same ∙ cut_as kept c.args.first c.args.max c.args.table.items) c.rows_of.ensures.ok

use Rattle.std.proofs.Common.{◌∙◌, ap, sym, List, map, take}
use Rattle.std.specs.Global.{Vec}
use Rattle.std.proofs.lemmas.List.{take-map}
use Rattle.jpql_meaning.specs.declared.eval.datum.Datum.{Datum}
use Rattle.jpql_meaning.specs.declared.eval.seen.Seen.{Seen}
use Rattle.jpql_meaning.specs.eval.Answers.{gives, under}
use Rattle.jpql_meaning.specs.eval.Seen.{seen}
use Rattle.jpql_select.proofs.first.statement.cut_rows.Goals as goal

pub returns : goal.returns
returns c =
    let row : Vec Seen → List Datum = λ one. map seen one.items in
    ap (under (take c.args.count)) c.in_ok-table.ensures
    ∙ ap gives (take-map row c.args.count c.in_ok-table.table.items ∙ ap (map row) (sym c.truncate.ensures.items))

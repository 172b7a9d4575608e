use Rattle.std.proofs.Common.{◌≡◌, ◌∙◌, ap, map, cond, List}
use Rattle.std.specs.Prelude.{nat_eq}
use Rattle.std.specs.List.{filter, list_any}
use Rattle.indexmap.specs.IndexMap.{get}
use Rattle.jpql_meaning.specs.eval.Data.{is_nothing, same_datum}
use Rattle.jpql_meaning.specs.eval.Seen.{seen}
use Rattle.jpql_meaning.specs.declared.eval.datum.Datum.{Datum}
use Rattle.jpql_meaning.specs.declared.eval.datum.Truth.{Truth}
use Rattle.jpql_meaning.specs.declared.eval.seen.Seen.{Seen}
use Rattle.jpql_meaning.specs.plan.Meaning.{is_any}
use Rattle.jpql_run.specs.ByValue.{print}
use Rattle.jpql_run.specs.Ready.{is_printed_as, rows_under}
use Rattle.jpql_run.proofs.AmongRows.{among_told}
use Rattle.jpql_run.proofs.row_index.RowIndex.of.Goals as goal

pub returns : goal.returns
returns c = λ x.
    let rows : List Datum = map seen c.args.rows.items in
    let under = rows_under (get nat_eq c.in_ok-under.under (print x)) in
    let any : c.is_any-is_any.result ≡ is_any rows = c.is_any-is_any.ensures ∙ ap (λ (rs : List Seen). is_any (map seen rs)) c.deref.ensures.value in
    let nothing : c.any_nothing-has_null.result ≡ list_any is_nothing rows =
    c.any_nothing-has_null.ensures ∙ ap (λ (rs : List Seen). list_any is_nothing (map seen rs)) c.deref-2.ensures.value in
    let found : under ≡ filter (is_printed_as (print x)) rows = c.in_ok-under.ensures (print x) in
    (λ i. cond (is_nothing x) (cond (any i) Truth.Unknown Truth.No) (cond (list_any (same_datum x) under) Truth.Yes (cond (nothing i) Truth.Unknown Truth.No)))
    ∙ among_told x rows under found

use Rattle.std.proofs.Common.{◌∙◌, arith}
use Rattle.std.specs.BTreeSet.{IsFromIterResult}
use Rattle.std.proofs.lemmas.Iterator.Adapters.{YieldsList-from_vec, fact_from_collect}
use Rattle.std.proofs.lemmas.Result.{IfOk-at_ok}
use Rattle.jpa_stored.specs.ordered.Values.{valued_cmp}
use Rattle.jpa_stored.proofs.ordered.values.Values.made.Goals as goal

-- what is in the list is among the keys
pub returns-clause-kept : goal.returns-clause-kept
returns-clause-kept c v there =
    let items = c.args.entries.items in
    let road = YieldsList-from_vec items c.into_iter.ensures.rest (omega (arith, c.into_iter.ensures.len, c.args.entries.ok.0)) in
    let got = fact_from_collect (IsFromIterResult valued_cmp) c.collect.result c.collect.ensures.ran road in
    let h = IfOk-at_ok (IsFromIterResult valued_cmp items) c.in_ok-entries.was got in
    h.0 v ∙ there

use Rattle.std.proofs.Common.{◌≡◌, ◌∙◌, true, arith, List, map, sym, ap, subst}
use Rattle.std.proofs.lemmas.List.Elements.{All-more}
use Rattle.jpql_meaning.specs.plan.Paths.{Tuple}
use Rattle.jpql_meaning.specs.declared.eval.datum.Datum.{Datum}
use Rattle.jpql_meaning.specs.eval.Data.{same_data}
use Rattle.jpql_meaning.specs.eval.Seen.{seen}
use Rattle.jpql_select.specs.select.Selects.{group_key}
use Rattle.jpql_select.proofs.select.groups.alike.Goals as goal

pub loop-tuple-preserved : goal.loop-tuple-preserved
loop-tuple-preserved c =
    let key = group_key c.args.run.now c.args.paths.now in
    let P = λ (t : Tuple). same_data c.args.key.now (key t) ≡ true in
    let item = c.tuple-item.result in
    let viewed = c.key.view_is in
    let lent = ap (map seen) c.deref.ensures.value in
    let same : c.args.key.now ≡ map seen c.deref.result.now = cc in
    record {
      count = omega (arith, c.loop-tuple.invariant.count);
      alike = All-more P c.args.tuples.now c.loop-tuple.tuple-index item c.loop-tuple-test.true c.loop-tuple.invariant.alike
          (subst P c.tuple-item.is (ap (λ (k : List Datum). same_data k (key item)) same ∙ sym c.is_grouped_by.ensures ∙ c.if-not-is_grouped_by.false));
    }

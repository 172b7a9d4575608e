use Rattle.std.proofs.Common.{◌∙◌, ◌+◌, ap, sym, drop, ◌∷◌}
use Rattle.std.proofs.lemmas.List.{drop_more}
use Rattle.jpql_select.specs.select.Selects.{row_of}
use Rattle.jpql_select.proofs.first.Firsts.{one_more}
use Rattle.jpql_select.proofs.first.best.best_rows.Goals as goal

pub loop-tuple-preserved : goal.loop-tuple-preserved
loop-tuple-preserved c =
    let of = row_of c.args.run.now c.args.select.now in
    let all = c.args.tuples.now in
    let i = c.loop-tuple.tuple-index in
    let t = c.tuple-item.result in
    record {
      rest = one_more c.args.select.now.order c.args.count of c.loop-tuple.best.items c.put.new.best.items all (drop i all) (drop (i + 1) all) t
          (drop_more all i t c.loop-tuple-test.true ∙ ap (λ x. x ∷ drop (i + 1) all) (sym c.tuple-item.is)) c.in_ok-put.ensures.ok c.loop-tuple.invariant.rest;
      front = c.in_ok-put.ensures.front;
    }

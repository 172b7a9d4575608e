use Rattle.std.proofs.Common.{◌∙◌, arith}
use Rattle.jpa_provider.proofs.Marked.{marked_whole, whole_more}
use Rattle.jpa_provider.proofs.at_work.mark_all.Goals as goal

pub loop-manager-preserved : goal.loop-manager-preserved
loop-manager-preserved c =
    let i = c.loop-manager.invariant in
    let whole = c.mark_whole.ensures in
    record {
      machine = whole.machine ∙ i.machine;
      settled = λ settled. whole.settled (i.settled settled);
      count = whole.count ∙ i.count;
      whole = whole_more c.loop-manager.session c.mark_whole.new.session c.loop-manager.manager whole.own whole.others i.whole;
    }

pub returns-clause-marked : goal.returns-clause-marked
returns-clause-marked c = λ model.
    let i = c.loop-manager.invariant in
    let test = c.loop-manager-test.false in
    let counted = c.len-manager-end.ensures in
    let count = i.count in
    marked_whole model c.loop-manager.session (λ k l. i.whole k (omega (arith, l, test, counted, count)))

use Rattle.std.proofs.Common.{◌∙◌, ℕ}
use Rattle.jpa_work.specs.context.Undo.{now}
use Rattle.jpa_work.specs.context.Work.{identity_at}
use Rattle.jpa_flush.specs.flush.Flush.{listed}
use Rattle.jpa_flush.proofs.flush.Rising.{all_risen}
use Rattle.jpa_flush.proofs.flush.held.rising.Goals as goal

pub returns-clause-ok : goal.returns-clause-ok
returns-clause-ok c =
    let named = λ (k : ℕ). listed (identity_at c.args.metamodel.now (now c.args.work.now) k) in
    c.of.ensures ∙ all_risen named c.args.objects.now c.loop-object.object-index c.loop-object.ids.items c.loop-object-test.false c.loop-object.invariant.rest

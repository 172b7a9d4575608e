use Rattle.std.proofs.Common.{ap, sym, subst, ◌∙◌}
use Rattle.jpa_work.specs.declared.context.work.UnitOfWork.{UnitOfWork}
use Rattle.jpa_work.specs.context.Undo.{now}
use Rattle.jpa_work.specs.context.Work.{Work}
use Rattle.jpa_flush.specs.flush.Marked.{AreMarked, before}
use Rattle.jpa_flush.specs.marking.Shared.{seen_by}
use Rattle.jpa_machine.specs.machine.Invariant.{context_of}
use Rattle.jpa_machine.specs.machine.Machine.{kept}
use Rattle.jpa_provider.specs.Serving.{marks_in}
use Rattle.jpa_provider.proofs.Marked.{remarked_away}
use Rattle.jpa_provider.proofs.at_work.keep_marked.Goals as goal

pub returns-clause-kept : goal.returns-clause-kept
returns-clause-kept c = λ M away.
    let e = c.mark_anew.ensures.others in
    c.mark_unless.ensures.machine ∙ c.keep_work.ensures.kept M (remarked_away c.args.session.now c.mark_anew.new.work away e) ∙ ap (kept M c.args.manager) (ap now e)

pub returns-clause-settled : goal.returns-clause-settled
returns-clause-settled c = λ M away quiet.
    let e = c.mark_anew.ensures.others in
    c.mark_unless.ensures.settled (c.keep_work.ensures.settled M (remarked_away c.args.session.now c.mark_anew.new.work away e) (ap (λ (v : UnitOfWork). v.events) e ∙ quiet))

pub returns-clause-marked : goal.returns-clause-marked
returns-clause-marked c = λ M away marked.
    let s = c.args.session.now in
    let model = c.args.metamodel.now in
    let u = c.mark_anew.new.work in
    let e = c.mark_anew.ensures.others in
    let at = ap (λ (v : UnitOfWork). v.manager) e ∙ marked.manager in
    c.mark_unless.ensures.marked model (λ stay. c.keep_work.ensures.marked model M (remarked_away s u away e)
    (record {
      manager = at;
      own = c.mark_anew.ensures.marked;
      others = λ k n. c.keep_others-stay.ensures stay model k (context_of M k) (marks_in s k) (λ q. n (q ∙ at))
          (subst (λ (w : Work). AreMarked model (seen_by k (context_of M k) w) (marks_in s k)) (sym (ap before e)) (marked.others k n));
    }))

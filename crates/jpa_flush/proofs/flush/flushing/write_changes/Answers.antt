use Rattle.std.proofs.Common.{◌≡◌, ◌∙◌, true, List, ap, sym, subst}
use Rattle.std.specs.Prelude.{All}
use Rattle.std.proofs.lemmas.Result.{err_from_is_err_and}
use Rattle.jpa_behaviour.specs.Served.{world_of_unit}
use Rattle.jpa_work.specs.declared.context.Entry.{Entry}
use Rattle.jpa_work.specs.context.Steps.{Meets}
use Rattle.jpa_work.specs.context.Undo.{now}
use Rattle.jpa_work.specs.context.Work.{Work}
use Rattle.jpa_flush.specs.declared.flush.planning.Planned.{Planned}
use Rattle.jpa_flush.specs.flush.Flush.{check_actions, remembered, write_all}
use Rattle.jpa_flush.specs.flush.Entered.{are_entered}
use Rattle.jpa_flush.specs.flush.Marked.{AreLooked}
use Rattle.jpa_flush.specs.flush.Plan.{is_planned, learned_by, plan_of, written_by}
use Rattle.jpa_flush.proofs.flush.Flushed.{new_view, made, applied_shapes, applied_within, written_of, refused_at_fault, told_at_end}
use Rattle.jpa_flush.proofs.flush.Learned.{learned_by_ready}
use Rattle.jpa_flush.proofs.flush.OneEntry.{plan_entered}
use Rattle.jpa_flush.proofs.flush.Rounds.{refused_after}
use Rattle.jpa_flush.proofs.flush.Unplanned.{silent_elsewhere, silent_planned}
use Rattle.jpa_flush.proofs.flush.flushing.write_changes.Goals as goal

pub returns-in_err-plan-clause-meets : goal.returns-in_err-plan-clause-meets
returns-in_err-plan-clause-meets g c =
    let world = world_of_unit g.B.Behaviour.meaning c.args.unit.now in
    let w = now c.args.work.now in
    let p = err_from_is_err_and c.from_residual.result c.from_residual.ensures.1 in
    rw (p.1, p.2) (refused_after c.in_err-plan.field-0.0 w.events (check_actions world w) (λ _. write_all world) c.in_err-plan.ensures.ends)

-- each object of the plan has an entry
pub settle-requires-clause-entered : goal.settle-requires-clause-entered
settle-requires-clause-entered g c =
    let m = c.args.unit.now.metamodel in
    let w = now c.args.work.now in
    ap (λ ps. are_entered ps w.context) (c.as_slice.ensures ∙ c.in_ok-plan.ensures.planned) ∙ plan_entered m w

pub remember_at-requires : goal.remember_at-requires
remember_at-requires g c =
    let m = c.args.unit.now.metamodel in
    let w = now c.args.work.now in
    let u = now c.settle.new.work in
    let plan = c.as_slice.result.now in
    let ps = c.as_slice-2.result.now in
    let v = learned_by m plan w in
    let same : u ≡ v = c.in_ok-settle.ensures.ok in
    let all : ps ≡ plan = c.as_slice-2.ensures ∙ sym c.as_slice.ensures in
    record {
      ready = learned_by_ready m w u plan same c.requires.writable.ready;
      looked =
          subst (λ (x : Work). AreLooked (λ (e : Entry). remembered m x e ≡ e) x.context c.args.places.now) (sym same)
          (silent_elsewhere m w c.requires.writable.ready.distinct c.args.places.now c.requires.looked plan (c.as_slice.ensures ∙ c.in_ok-plan.ensures.planned));
      settled =
          subst (λ (x : Work). All (λ e. is_planned ps e ≡ true → remembered m x e ≡ e) x.context) (sym same)
          (subst (λ (qs : List Planned). All (λ e. is_planned qs e ≡ true → remembered m v e ≡ e) v.context) (sym all) (silent_planned m w plan));
    }

pub judge_written-requires : goal.judge_written-requires
judge_written-requires g c =
    let m = c.args.unit.now.metamodel in
    let w = now c.args.work.now in
    let plan = c.in_ok-plan.ensures.planned in
    let v3 = now c.write_all.new.work in
    let same = made m w (now c.settle.new.work) (now c.remember_at.new.work) v3 c.as_slice.result.now c.in_ok-plan.plan (c.as_slice.ensures ∙ plan) plan c.in_ok-settle.ensures.ok c.in_ok-remember_at.ensures.ok c.in_ok-written.ensures.ok in
    record {
      written = (w, c.in_ok-plan.plan, written_of m w v3 c.in_ok-plan.plan c.as_slice-3.result.now plan (c.as_slice-3.ensures ∙ c.in_ok-written.ensures.written) same c.requires.writable.rising c.requires.writable.sound);
    }

pub returns-in_err-judge_written-clause-meets : goal.returns-in_err-judge_written-clause-meets
returns-in_err-judge_written-clause-meets g c =
    let m = c.args.unit.now.metamodel in
    let world = world_of_unit g.B.Behaviour.meaning c.args.unit.now in
    let w = now c.args.work.now in
    let plan = c.in_ok-plan.ensures.planned in
    let v3 = now c.write_all.new.work in
    let same = made m w (now c.settle.new.work) (now c.remember_at.new.work) v3 c.as_slice.result.now c.in_ok-plan.plan (c.as_slice.ensures ∙ plan) plan c.in_ok-settle.ensures.ok c.in_ok-remember_at.ensures.ok c.in_ok-written.ensures.ok in
    let p = err_from_is_err_and c.from_residual-in_err-judge_written.result c.from_residual-in_err-judge_written.ensures.1 in
    rw (p.1, p.2) (refused_at_fault world w v3 c.in_err-judge_written.field-0.0 c.requires.writable.rising c.requires.writable.distinct c.in_ok-plan.ensures.ends same c.in_err-judge_written.ensures.meets)

pub tell_written-requires : goal.tell_written-requires
tell_written-requires g c =
    let m = c.args.unit.now.metamodel in
    let w = now c.args.work.now in
    let plan = c.in_ok-plan.ensures.planned in
    let v3 = now c.write_all.new.work in
    let same = made m w (now c.settle.new.work) (now c.remember_at.new.work) v3 c.as_slice.result.now c.in_ok-plan.plan (c.as_slice.ensures ∙ plan) plan c.in_ok-settle.ensures.ok c.in_ok-remember_at.ensures.ok c.in_ok-written.ensures.ok in
    record {
      shaped = applied_shapes m w v3 (plan_of m w) (new_view m w) same c.requires.writable.ready;
      objects = applied_within m w v3 (plan_of m w) c.in_ok-plan.plan c.as_slice-4.result.now (new_view m w) (c.as_slice-4.ensures ∙ c.in_ok-written.ensures.written) same c.in_ok-plan.ensures.objects;
    }

pub returns-clause-meets : goal.returns-clause-meets
returns-clause-meets g c =
    let m = c.args.unit.now.metamodel in
    let world = world_of_unit g.B.Behaviour.meaning c.args.unit.now in
    let w = now c.args.work.now in
    let plan = c.in_ok-plan.ensures.planned in
    let last = c.as_slice-4.ensures ∙ c.in_ok-written.ensures.written ∙ ap written_by plan in
    let v3 = now c.write_all.new.work in
    let same = made m w (now c.settle.new.work) (now c.remember_at.new.work) v3 c.as_slice.result.now c.in_ok-plan.plan (c.as_slice.ensures ∙ plan) plan c.in_ok-settle.ensures.ok c.in_ok-remember_at.ensures.ok c.in_ok-written.ensures.ok in
    subst (Meets c.tell_written.result (now c.tell_written.new.work))
    (told_at_end world w v3 c.as_slice-4.result.now c.requires.writable.rising c.requires.writable.distinct c.in_ok-plan.ensures.ends last same c.in_ok-judge_written.ensures.meets) c.tell_written.ensures.meets

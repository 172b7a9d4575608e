use Rattle.std.proofs.Common.{◌≡◌, false, refl, ap, sym, subst, ◌∙◌, arith}
use Rattle.std.specs.Prelude.{length, Ok, Err, OnErr}
use Rattle.jpa_value.specs.declared.refusal.Refusal.{Refusal}
use Rattle.jpa_open.specs.Opened.{Opened, with_seen, after_keeping, after_undoing}
use Rattle.jpa_work.specs.context.Undo as undoing
use Rattle.jpa_behaviour.specs.Served.{world_of_unit}
use Rattle.jpa_work.specs.context.Work.{Work}
use Rattle.jpa_work.specs.context.Steps.{Meets}
use Rattle.jpa_work.specs.context.Undo.{now, Since}
use Rattle.jpa_operations.specs.fetch.Grown.{IsReady}
use Rattle.jpa_provider.specs.declared.replies.Rule.{Rule}
use Rattle.jpa_provider.specs.declared.session.EntityManager.{EntityManager}
use Rattle.jpa_provider.specs.declared.session.Session.{Session}
use Rattle.jpa_work.specs.declared.context.work.UnitOfWork.{UnitOfWork}
use Rattle.jpa_machine.specs.machine.Machine.{work_of}
use Rattle.jpa_provider.specs.Operations.{at_object, is_marked_by, told_of}
use Rattle.jpa_provider.specs.Serving.{machine_of}
use Rattle.jpa_machine.proofs.machine.AtWork.{work_ready}
use Rattle.jpa_provider.proofs.Counted.{counted_here}
use Rattle.jpa_provider.proofs.Marked.{keeps_away, marked_away, nobody_in, nobody_marked, same_marked}
use Rattle.jpa_provider.proofs.Unheld.{still_resting, nobody_works, nobody_keeps, nobody_restores}
use Rattle.jpa_provider.proofs.Worked.{ends_so}
use Rattle.jpa_provider.proofs.working.unheld.Goals as goal

pub operate-answered-requires : goal.operate-answered-requires
operate-answered-requires g c =
    let s = c.args.session.now in
    let n = length s.managers.items in
    let w : Work = record { manager = c.len-session.result; objects = s.work.objects.now; context = c.new.result.now; numbers = s.work.numbers.now; view = (s.work.view).seen; events = s.work.events } in
    let counted : c.len-session.result ≡ n = let a = c.len-session.ensures in omega (arith, a) in
    let same : w ≡ work_of (machine_of s) n = nobody_works s w (c.requires.serving).settled (λ i. record w { manager = counted i; context = c.new.ensures.now i }) in
    let kept = ((c.requires.serving).settled).kept in
    record {
      orderly = (c.requires.serving).orderly;
      ready = subst (IsReady c.args.unit.now.metamodel) (sym same) (work_ready n (c.requires.serving).machine);
      object = c.requires.object;
      kept = record { objects = kept.objects; context = c.new.ensures.since ∙ sym c.new.ensures.now; numbers = kept.numbers; view = kept.view };
    }

pub returns-in-Ok-clause-ends : goal.returns-in-Ok-clause-ends
returns-in-Ok-clause-ends g c =
    let s = c.args.session.now in
    let M = machine_of s in
    let n = length s.managers.items in
    let world = world_of_unit g.B.Behaviour.meaning c.args.unit.now in
    let op = at_object c.args.call world c.args.place in
    let done = c.operate-answered in
    let w = now done.new.work in
    let v : Work = record { manager = c.len-session.result; objects = s.work.objects.now; context = c.new.result.now; numbers = s.work.numbers.now; view = (s.work.view).seen; events = s.work.events } in
    let counted : c.len-session.result ≡ n = let a = c.len-session.ensures in omega (arith, a) in
    let same : v ≡ work_of M n = nobody_works s v (c.requires.serving).settled (λ i. record v { manager = counted i; context = c.new.ensures.now i }) in
    let met : Meets (Ok c.in-Ok.answer) w (op (work_of M n)) = subst (λ (u : Work). Meets (Ok c.in-Ok.answer) w (op u)) same (subst (λ r. Meets r w (op v)) c.in-Ok.is done.ensures.meets) in
    let t : Session = record s { work = c.keep.new.self } in
    let kept = c.keep.ensures.now in
    let view : c.keep.new.self.view ≡ with_seen (s.work.view).kept s.work.view = c.keep.ensures.view ∙ ap (after_keeping false) done.ensures.view in
    ends_so Rule.OfObject M (machine_of c.mark_unless.new.session) n (op (work_of M n)) (Ok c.in-Ok.answer) w (record { events = c.replace-events.result; answer = Ok c.in-Ok.answer }) met (
      (λ i. record { events = c.replace-events.ensures.value i; answer = Ok c.in-Ok.answer }),
      c.mark_unless.ensures.machine ∙ nobody_keeps s t refl refl (ap (λ (x : Opened). x.committed) view) w (ap (λ (x : Work). x.objects) kept) (ap (λ (x : Work). x.numbers) kept),
    )

pub returns-in-Err-clause-ends : goal.returns-in-Err-clause-ends
returns-in-Err-clause-ends g c =
    let s = c.args.session.now in
    let M = machine_of s in
    let n = length s.managers.items in
    let world = world_of_unit g.B.Behaviour.meaning c.args.unit.now in
    let op = at_object c.args.call world c.args.place in
    let done = c.operate-answered in
    let r = c.in-Err.cause in
    let w = now done.new.work in
    let v : Work = record { manager = c.len-session.result; objects = s.work.objects.now; context = c.new.result.now; numbers = s.work.numbers.now; view = (s.work.view).seen; events = s.work.events } in
    let counted : c.len-session.result ≡ n = let a = c.len-session.ensures in omega (arith, a) in
    let same : v ≡ work_of M n = nobody_works s v (c.requires.serving).settled (λ i. record v { manager = counted i; context = c.new.ensures.now i }) in
    let met : Meets (Err r) w (op (work_of M n)) = subst (λ (u : Work). Meets (Err r) w (op u)) same (subst (λ x. Meets x w (op v)) c.in-Err.is done.ensures.meets) in
    let t : Session = record s { work = c.undo.new.self } in
    let back = c.undo.ensures.now in
    let since = subst (λ x. OnErr x (undoing.since done.new.work ≡ undoing.since (record s.work { manager = c.len-session.result; context = c.new.result }))) c.in-Err.is done.ensures.since in
    let settled = ((c.requires.serving).settled).kept in
    let view : c.undo.new.self.view ≡ with_seen (s.work.view).kept s.work.view = c.undo.ensures.view ∙ ap after_undoing done.ensures.view in
    ends_so Rule.OfObject M (machine_of t) n (op (work_of M n)) (Err r) w (record { events = c.told_of.result; answer = Err (Refusal.Because r) }) met (
      (λ i. record { events = (c.told_of.ensures ∙ ap (told_of r) c.replace-events.ensures.value) i; answer = Err (Refusal.Because r) }),
      nobody_restores s t refl refl (ap (λ (x : Opened). x.committed) view) (is_marked_by Rule.OfObject r)
          (ap (λ (u : Work). u.objects) back ∙ ap (λ (x : Since). x.objects) since ∙ settled.objects) (ap (λ (u : Work). u.numbers) back ∙ ap (λ (x : Since). x.numbers) since ∙ settled.numbers),
    )

pub returns-in-Ok-clause-rest : goal.returns-in-Ok-clause-rest
returns-in-Ok-clause-rest g c =
    let s = c.args.session.now in
    let n = length s.managers.items in
    let model = c.args.unit.now.metamodel in
    let serving = c.requires.serving in
    let settled = serving.settled in
    let done = c.operate-answered in
    let counted : c.len-session.result ≡ n = let a = c.len-session.ensures in omega (arith, a) in
    let nowhere = nobody_in s.managers.items n (omega arith) in
    let t : Session = record s { work = record s.work { manager = c.len-session.result; context = c.new.result } } in
    let kept : Session = record s { work = c.keep.new.self } in
    let away = keeps_away t done.new.work done.ensures.marked
    (marked_away model s t n settled.kept counted refl (c.new.ensures.since ∙ sym (ap (λ (x : EntityManager). x.context.now) nowhere))
    (c.new.ensures.marks ∙ sym (ap (λ (x : EntityManager). (x.context).marks) nowhere)) (λ k d. refl) serving.marked) in
    let silent : UnitOfWork = record (done.new.work) { events = c.replace-events.new.dest } in
    record {
      settled = c.mark_unless.ensures.settled
          (record {
            kept = c.keep.ensures.kept;
            quiet = ap (λ (u : Work). u.events) c.keep.ensures.now ∙ c.replace-events.ensures.after ∙ c.new-2.ensures;
            resting = still_resting s.work.view c.keep.new.self.view settled.resting (c.keep.ensures.view ∙ ap (after_keeping false) done.ensures.view);
            idle = settled.idle;
            counted = counted_here s kept settled.counted refl refl;
          });
      marked = c.mark_unless.ensures.marked model (λ stay. nobody_marked model s c.keep.new.self silent (ap (λ (w : Work). w.objects) c.keep.ensures.now) away.manager
          (λ k es marks d h. c.keep_others-stay.ensures stay model k es marks d h) (λ k d. away.others k d));
    }

pub returns-in-Err-clause-rest : goal.returns-in-Err-clause-rest
returns-in-Err-clause-rest g c =
    let s = c.args.session.now in
    let done = c.operate-answered in
    let serving = c.requires.serving in
    let settled = serving.settled in
    let t : Session = record s { work = c.undo.new.self } in
    let since = subst (λ x. OnErr x (undoing.since done.new.work ≡ undoing.since (record s.work { manager = c.len-session.result; context = c.new.result }))) c.in-Err.is done.ensures.since in
    record {
      settled = record {
        kept = c.undo.ensures.kept;
        quiet = ap (λ (u : Work). u.events) c.undo.ensures.now;
        resting = still_resting s.work.view c.undo.new.self.view settled.resting (c.undo.ensures.view ∙ ap after_undoing done.ensures.view);
        idle = settled.idle;
        counted = counted_here s t settled.counted refl refl;
      };
      marked = same_marked c.args.unit.now.metamodel s t (ap (λ (u : Work). u.objects) c.undo.ensures.now ∙ ap (λ (x : Since). x.objects) since ∙ settled.kept.objects) (λ k. refl) serving.marked;
    }

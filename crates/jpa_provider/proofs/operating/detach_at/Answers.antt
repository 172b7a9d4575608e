use Rattle.std.proofs.Common.{rules, List, ap, sym, subst, ◌∙◌}
use Rattle.jpa_behaviour.specs.Served.{world_of_unit}
use Rattle.jpa_work.specs.context.Steps.{after, give, Done, IsRefusedAs}
use Rattle.jpa_work.specs.declared.context.work.UnitOfWork.{UnitOfWork}
use Rattle.jpa_work.specs.context.Undo.{now, since}
use Rattle.jpa_flush.specs.flush.Marked.{before}
use Rattle.jpa_work.specs.declared.heap.LiveObject.{LiveObject}
use Rattle.jpa_flush.specs.marking.Shared.{LetsGo, is_held_by}
use Rattle.jpa_protocol.specs.declared.reply.Answer.{Answer}
use Rattle.jpa_operations.specs.ops.States.{detach}
use Rattle.jpa_machine.specs.machine.Calls.{nothing, told_as}
use Rattle.jpa_provider.proofs.Called.{refused_on}
use Rattle.jpa_provider.proofs.LetGo.{detach_lets_go}
use Rattle.jpa_provider.proofs.Marked.{whole_marked}
use Rattle.jpa_provider.proofs.operating.detach_at.Goals as goal

pub returns-in_err-detach-clause-meets : goal.returns-in_err-detach-clause-meets
returns-in_err-detach-clause-meets g c =
    let world = world_of_unit g.B.Behaviour.meaning c.args.unit.now in
    let w = now c.args.work.now in
    let r = c.in_err-detach.field-0.0 in
    let events = (now c.detach.new.work).events in
    let refused : IsRefusedAs r events (told_as nothing (detach world c.args.place) w) =
    refused_on r events (detach world c.args.place w) (λ u. give (nothing u)) (c.in_err-detach.ensures.meets world) in
    search (rules, refused)

pub returns-clause-meets : goal.returns-clause-meets
returns-clause-meets g c =
    let world = world_of_unit g.B.Behaviour.meaning c.args.unit.now in
    ap (λ o. after o (λ u. give (nothing u))) (c.in_ok-detach.ensures.meets world) ∙ ap (Done Answer.Null) (λ i. record (now c.detach.new.work) { context = sym c.mark.ensures.now i })

pub returns-clause-marked : goal.returns-clause-marked
returns-clause-marked g c =
    let world = world_of_unit g.B.Behaviour.meaning c.args.unit.now in
    let old = c.args.work.now in
    let mid = c.detach.new.work in
    let new : UnitOfWork = record mid { context = c.mark.new.self } in
    let model = c.args.unit.now.metamodel in
    let kept = c.in_ok-detach.ensures.kept c.requires.kept in
    let let_go = detach_lets_go world c.args.place (now old) (now mid) (c.in_ok-detach.ensures.meets world) in
    let since_then : LetsGo (is_held_by old.manager) (before old).objects (before new).objects =
    subst (λ (p : List LiveObject × List LiveObject). LetsGo (is_held_by old.manager) p.0 p.1) (λ i. (sym (c.requires.kept).objects i, sym kept.objects i)) let_go in
    record {
      manager = ap (λ (u : UnitOfWork). u.manager) c.detach.ensures.others;
      own = λ h. whole_marked model (since new).marks (before new) (c.mark.ensures.marks ∙ c.all.ensures);
      others = λ k es marks d h. c.other_laws.ensures.let_go model k es marks (before old) (before new) d since_then h;
    }

use Rattle.std.proofs.Common.{sym, ◌∙◌}
use Rattle.jpa_behaviour.specs.Registered.{world_of}
use Rattle.jpa_opening.proofs.migration.Adding.{class_added, class_passed}
use Rattle.jpa_opening.proofs.migration.planning.plan_of.Goals as goal
use Rattle.jpa_opening.proofs.migration.planning.plan_of.Goals.{then-root_class-root+in_ok-push_class, else-root_class-root}

pub loop-class-preserved : goal.loop-class-preserved
loop-class-preserved g c =
    let world = world_of g.B.Behaviour.meaning c.args.metamodel.now c.args.registry.now in
    let added = class_added world c.args.history.now c.args.root c.loop-class.class c.loop-class.plan in
    let passed = class_passed world c.args.history.now c.args.root c.loop-class.class c.loop-class.plan in
    elim c.if-root_class-root.branch [
      | then-root_class-root+in_ok-push_class w ↦ w.plan-is ∙ added w.push_class.new.plan c.loop-class.invariant (sym c.root_class.ensures ∙ w.if-root_class-root.true) w.in_ok-push_class.ensures.ok
      | else-root_class-root w ↦ w.plan-is ∙ passed c.loop-class.invariant (λ e. w.if-root_class-root.false (c.root_class.ensures ∙ e))
    ]

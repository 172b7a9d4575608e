use Rattle.std.proofs.Common.{◌<◌, length, sym, subst, ◌∙◌, zero-add}
use Rattle.jpa_model.proofs.Chained.{range_more}
use Rattle.jpa_model.specs.declared.unit.Entity.{Entity}
use Rattle.std.specs.Prelude.{List}
use Rattle.jpa_behaviour.specs.Registered.{world_of}
use Rattle.jpa_opening.specs.migration.Changed.{class_passes}
use Rattle.jpa_opening.proofs.migration.Attributes.{passes_more, class_fails}
use Rattle.jpa_opening.proofs.migration.defaults.defaults_pass.Goals as goal

pub returns-then-not-branch-clause-pass : goal.returns-then-not-branch-clause-pass
returns-then-not-branch-clause-pass g c =
    let m = c.args.metamodel.now in
    let world = world_of g.B.Behaviour.meaning m c.args.registry.now in
    let within = subst (λ (es : List Entity). c.loop-class.class < length es) c.entities-class-end.ensures c.loop-class-test.true in
    sym (class_fails (class_passes world c.args.history.now) (length m.entities) c.loop-class.class within (sym c.in_ok-class_passes.ensures.ok ∙ c.if-not-branch.true))

pub loop-class-preserved : goal.loop-class-preserved
loop-class-preserved g c =
    let world = world_of g.B.Behaviour.meaning c.args.metamodel.now c.args.registry.now in
    let n = c.loop-class.class in
    passes_more (class_passes world c.args.history.now) _ _ n (range_more 0 n n (zero-add n)) c.loop-class.invariant (sym c.in_ok-class_passes.ensures.ok ∙ c.if-not-branch.false)

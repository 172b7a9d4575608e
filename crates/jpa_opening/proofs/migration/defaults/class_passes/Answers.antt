use Rattle.std.proofs.Common.{sym, ap, ◌∙◌}
use Rattle.std.specs.List.{list_all}
use Rattle.std.specs.Option.{option_copied}
use Rattle.jpa_model.specs.declared.unit.Entity.{Entity}
use Rattle.jpa_behaviour.specs.Registered.{world_of}
use Rattle.jpa_description.specs.declared.history.history.Change.{Change}
use Rattle.jpa_description.specs.history.History.{changes_of}
use Rattle.jpa_opening.specs.migration.Migration.{default_passes, default_in}
use Rattle.jpa_opening.specs.migration.Changed.{change_at}
use Rattle.jpa_opening.proofs.migration.Attributes.{within, at_place, one_more, no_more, passes_more, fails_at}
use Rattle.jpa_opening.proofs.migration.defaults.class_passes.Goals as goal
use Rattle.jpa_opening.proofs.migration.defaults.class_passes.Goals.{in-Some+in_ok-passes+else-not-branch, in_default}

pub returns-then-not-branch-clause-ok : goal.returns-then-not-branch-clause-ok
returns-then-not-branch-clause-ok g c =
    let m = c.args.metamodel.now in
    let h = c.args.history.now in
    let world = world_of g.B.Behaviour.meaning m c.args.registry.now in
    let a = c.index-attributes-i.result in
    let i = c.loop-i.i in
    let own = c.as_slice-attributes.ensures ∙ ap (λ (e : Entity). e.attributes) c.entity.ensures in
    let found = c.as_slice-attributes.result.now in
    let fails = ap (default_passes world a) (sym c.default_at.ensures ∙ ap option_copied c.in-Some.is) ∙ sym (c.in_ok-passes.ensures.ok m) ∙ c.if-not-branch.true in
    sym (fails_at (λ p. default_passes world p.0 (default_in p.1)) (changes_of m h c.args.class) i (a, Change.Kept) (a, change_at h c.args.class i)
    (within m h c.args.class found own i c.loop-i-test.true) (at_place m h c.args.class found own i a c.loop-i-test.true c.index-attributes-i.is) fails)

pub loop-i-preserved : goal.loop-i-preserved
loop-i-preserved g c =
    let m = c.args.metamodel.now in
    let h = c.args.history.now in
    let world = world_of g.B.Behaviour.meaning m c.args.registry.now in
    let a = c.index-attributes-i.result in
    let i = c.loop-i.i in
    let own = c.as_slice-attributes.ensures ∙ ap (λ (e : Entity). e.attributes) c.entity.ensures in
    let more = one_more m h c.args.class c.as_slice-attributes.result.now own i a c.loop-i-test.true c.index-attributes-i.is in
    elim c.match-default_at.branch [
      | in-Some+in_ok-passes+else-not-branch w ↦
          passes_more (λ p. default_passes world p.0 (default_in p.1)) _ _ (a, change_at h c.args.class i) more c.loop-i.invariant
          (ap (default_passes world a) (sym c.default_at.ensures ∙ ap option_copied w.in-Some.is) ∙ sym (w.in_ok-passes.ensures.ok m) ∙ w.if-not-branch.false)
      | in_default w ↦
          passes_more (λ p. default_passes world p.0 (default_in p.1)) _ _ (a, change_at h c.args.class i) more c.loop-i.invariant
          (ap (default_passes world a) (sym c.default_at.ensures ∙ ap option_copied w.in_default.is))
    ]

pub returns-clause-ok : goal.returns-clause-ok
returns-clause-ok g c =
    let m = c.args.metamodel.now in
    let world = world_of g.B.Behaviour.meaning m c.args.registry.now in
    let own = c.as_slice-attributes.ensures ∙ ap (λ (e : Entity). e.attributes) c.entity.ensures in
    sym c.loop-i.invariant ∙ ap (list_all (λ p. default_passes world p.0 (default_in p.1))) (no_more m c.args.history.now c.args.class c.as_slice-attributes.result.now own c.loop-i.i c.loop-i-test.false)

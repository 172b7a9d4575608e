use Rattle.std.specs.Prelude.{◌++◌}
use Rattle.std.proofs.Common.{sym, ap, ◌∙◌}
use Rattle.std.specs.List.{flat_map}
use Rattle.std.specs.Option.{option_copied}
use Rattle.jpa_model.specs.declared.unit.Entity.{Entity}
use Rattle.jpa_behaviour.specs.Registered.{world_of}
use Rattle.jpa_opening.specs.migration.Migration.{cell_if, default_bytes}
use Rattle.jpa_opening.specs.migration.Changed.{change_at, default_cell}
use Rattle.jpa_opening.proofs.migration.Attributes.{one_more, no_more, joined_more, joined_less}
use Rattle.jpa_opening.proofs.migration.planning.push_own_defaults.Goals as goal
use Rattle.jpa_opening.proofs.migration.planning.push_own_defaults.Goals.{in-Some+in_ok-push_default, in_default}

pub loop-i-preserved : goal.loop-i-preserved
loop-i-preserved g c =
    let m = c.args.metamodel.now in
    let h = c.args.history.now in
    let world = world_of g.B.Behaviour.meaning m c.args.registry.now in
    let a = c.index-attributes-i.result in
    let i = c.loop-i.i in
    let own = c.as_slice-attributes.ensures ∙ ap (λ (e : Entity). e.attributes) c.entity_at.ensures.entity in
    let more = one_more m h c.args.class c.as_slice-attributes.result.now own i a c.loop-i-test.true c.index-attributes-i.is in
    elim c.match-default_at.branch [
      | in-Some+in_ok-push_default w ↦
          joined_more (default_cell world) _ _ (a, change_at h c.args.class i) c.args.cells.now c.loop-i.cells _ more c.loop-i.invariant
          (w.cells-is ∙ w.in_ok-push_default.ensures.ok m ∙ ap (λ o. c.loop-i.cells ++ cell_if a.column (default_bytes world a o)) (ap option_copied (sym w.in-Some.is) ∙ c.default_at.ensures))
      | in_default w ↦
          joined_less (default_cell world) _ _ (a, change_at h c.args.class i) c.args.cells.now c.loop-i.cells _ more c.loop-i.invariant w.cells-is
          (ap (λ o. cell_if a.column (default_bytes world a o)) (sym c.default_at.ensures ∙ ap option_copied w.in_default.is))
    ]

pub returns-clause-ok : goal.returns-clause-ok
returns-clause-ok g c =
    let m = c.args.metamodel.now in
    let own = c.as_slice-attributes.ensures ∙ ap (λ (e : Entity). e.attributes) c.entity_at.ensures.entity in
    c.loop-i.invariant
    ∙ ap (λ xs. c.args.cells.now ++ flat_map (default_cell (world_of g.B.Behaviour.meaning m c.args.registry.now)) xs) (no_more m c.args.history.now c.args.class c.as_slice-attributes.result.now own c.loop-i.i c.loop-i-test.false)

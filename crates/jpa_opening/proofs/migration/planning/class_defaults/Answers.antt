use Rattle.std.specs.Prelude.{ℕ}
use Rattle.std.proofs.Common.{sym, ap, ◌∙◌}
use Rattle.std.proofs.lemmas.List.{take_all}
use Rattle.std.specs.List.{flat_map}
use Rattle.jpa_model.specs.Chains.{chain}
use Rattle.jpa_behaviour.specs.Registered.{world_of}
use Rattle.jpa_description.specs.history.History.{changes_of}
use Rattle.jpa_rows.proofs.laws.Lists.{flat_map-flat_map}
use Rattle.jpa_opening.specs.migration.Changed.{default_cell}
use Rattle.jpa_opening.proofs.migration.planning.class_defaults.Goals as goal

pub returns-clause-ok : goal.returns-clause-ok
returns-clause-ok g c =
    let m = c.args.metamodel.now in
    let h = c.args.history.now in
    let world = world_of g.B.Behaviour.meaning m c.args.registry.now in
    let own = λ (above : ℕ). flat_map (default_cell world) (changes_of m h above) in
    c.loop-above.invariant ∙ ap (flat_map own) (take_all c.loop-above.above-index c.chain-above-items.result.now c.loop-above-test.false ∙ c.chain-above-items.ensures.chain)
    ∙ sym (flat_map-flat_map (default_cell world) (changes_of m h) (chain m c.args.class))

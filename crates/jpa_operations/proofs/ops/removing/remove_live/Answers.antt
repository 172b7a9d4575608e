use Rattle.jpa_operations.specs.fetch.Grown.{GoesOn}
use Rattle.std.proofs.Common.{subst}
use Rattle.jpa_behaviour.specs.Served.{world_of_unit}
use Rattle.jpa_work.specs.context.Steps.{Meets}
use Rattle.jpa_work.specs.context.Undo.{now}
use Rattle.jpa_operations.specs.ops.States.{remove_live, remove_one}
use Rattle.jpa_operations.proofs.ops.Going.{met_holds}
use Rattle.jpa_operations.proofs.ops.Ready.{from_itself}
use Rattle.jpa_operations.proofs.ops.Refreshed.{remove_live_goes}
use Rattle.jpa_operations.proofs.ops.removing.remove_live.Goals as goal

pub returns-clause-goes : goal.returns-clause-goes
returns-clause-goes g c =
    let m = c.args.unit.now.metamodel in
    let world = world_of_unit g.B.Behaviour.meaning c.args.unit.now in
    let w = now c.args.work.now in
    let n = c.args.object in
    let r = c.remove_one.result in
    let v = now c.remove_one.new.work in
    let met = subst (λ s. Meets r v (remove_one world n s w)) c.state_of-state.ensures c.remove_one.ensures.meets in
    met_holds (GoesOn m w) r v (remove_live world n w) met (remove_live_goes world w n w c.requires.object (from_itself m w c.requires.ready))

use Rattle.std.proofs.Common.{◌∙◌}
use Rattle.jpa_behaviour.specs.Served.{world_of_unit}
use Rattle.jpa_work.specs.context.Undo.{now}
use Rattle.jpa_flush.specs.flush.Plan.{tell}
use Rattle.jpa_flush.proofs.flush.Rounds.{next_done}
use Rattle.jpa_flush.proofs.flush.Updated.{by_callback, updated_twice}
use Rattle.jpa_flush.proofs.flush.telling.tell_written.Goals as goal

pub loop-told-preserved : goal.loop-told-preserved
loop-told-preserved g c =
    let world = world_of_unit g.B.Behaviour.meaning c.args.unit.now in
    let w = now c.loop-told.work in
    let w' = now c.callback.new.work in
    let p = c.told-item.result in
    record {
      rest = next_done (tell world) c.args.written.now c.loop-told.told-index p w w' c.loop-told-test.true c.told-item.is c.in_ok-callback.ensures.meets ∙ c.loop-told.invariant.rest;
      same = updated_twice (now c.args.work.now) w w' c.loop-told.invariant.same (by_callback world p.event p.object w w' c.in_ok-callback.ensures.meets);
      since = c.callback.ensures.since ∙ c.loop-told.invariant.since;
    }

use Rattle.std.proofs.Common.{rules}
use Rattle.jpa_value.specs.declared.event.LifecycleEvent.{LifecycleEvent}
use Rattle.jpa_behaviour.specs.Served.{world_of_unit}
use Rattle.jpa_work.specs.context.Undo.{now}
use Rattle.jpa_merge.proofs.Kept.{told_from}
use Rattle.jpa_merge.proofs.merging.pre_persist_fresh.Goals as goal

pub returns : goal.returns
returns g c =
    let world = world_of_unit g.B.Behaviour.meaning c.args.unit.now in
    let w = now c.args.work.now in
    let v = now c.callback.new.work in
    record {
      carries = search rules;
      goes = told_from world LifecycleEvent.PrePersist (c.args.image).image w v c.callback.result c.requires.ready (c.requires.image).image c.callback.ensures.meets;
    }

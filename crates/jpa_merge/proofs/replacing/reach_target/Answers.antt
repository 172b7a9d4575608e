use Rattle.std.proofs.Common.{sym, rules}
use Rattle.jpa_value.specs.declared.refusal.Cause.{Cause}
use Rattle.jpa_value.specs.declared.refusal.State.{State}
use Rattle.jpa_behaviour.specs.Served.{world_of_unit}
use Rattle.jpa_work.specs.context.Undo.{now}
use Rattle.jpa_merge.proofs.Sought.{reaches_row}
use Rattle.jpa_merge.proofs.replacing.reach_target.Goals as goal

-- the row was loaded
pub returns-clause-carries : goal.returns-clause-carries
returns-clause-carries g c =
    let world = world_of_unit g.B.Behaviour.meaning c.args.unit.now in
    record {
      meets = reaches_row world c.args.id.now c.in_ok-row.row c.in-Some-get.row.now (now c.args.work.now) (now c.load.new.work) (sym c.in_default.ensures.instance) (sym c.in-Some-get.ensures) c.in_ok-row.ensures.equal
          (Cause.IllegalState State.Reference) c.load.result c.load.ensures.carries.meets;
      view = search rules;
      since = search rules;
    }

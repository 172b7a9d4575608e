use Rattle.std.proofs.Common.{rules, sym}
use Rattle.jpa_behaviour.specs.Served.{world_of_unit}
use Rattle.jpa_work.specs.context.Undo.{now}
use Rattle.jpa_merge.proofs.Sought.{images_row}
use Rattle.jpa_merge.proofs.imaging.image_named.Goals as goal

pub returns-in_default-get-clause-carries : goal.returns-in_default-get-clause-carries
returns-in_default-get-clause-carries g c =
    search (rules, c.fresh_image.ensures.carries.meets (world_of_unit g.B.Behaviour.meaning c.args.unit.now))

-- the row was loaded
pub returns-clause-carries : goal.returns-clause-carries
returns-clause-carries g c =
    let world = world_of_unit g.B.Behaviour.meaning c.args.unit.now in
    record {
      meets = images_row world c.args.id.now c.in_ok-row.row c.in-Some-get.row.now (now c.args.work.now) (now c.image_of_row.new.work) (sym c.in_default.ensures.instance) (sym c.in-Some-get.ensures) c.in_ok-row.ensures.equal
          c.args.node c.image_of_row.result c.image_of_row.ensures.carries.meets;
      view = search rules;
      since = search rules;
    }

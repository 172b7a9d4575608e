use Rattle.std.proofs.Common.{◌∙◌, sym, rules}
use Rattle.jpa_behaviour.specs.Served.{world_of_unit}
use Rattle.jpa_work.specs.context.Undo.{now}
use Rattle.jpa_merge.proofs.Sought.{copies}
use Rattle.jpa_merge.proofs.copying.copy_to_other.Goals as goal

pub returns : goal.returns
returns g c =
    let world = world_of_unit g.B.Behaviour.meaning c.args.unit.now in
    record {
      carries = record {
        meets = copies world c.args.images.now c.args.image (now c.args.work.now) (now c.copy_values.new.work) (now c.copy_relations.new.work) c.copy_relations.result
            (sym c.is_current.ensures ∙ c.if-not-is_current.false) c.in_ok-copy_values.ensures.carries.meets c.copy_relations.ensures.carries.meets;
        view = search rules;
        since = search rules;
      };
      goes = search rules;
    }

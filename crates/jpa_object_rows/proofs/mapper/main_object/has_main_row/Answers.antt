use Rattle.std.proofs.Common.{◌∙◌, ap}
use Rattle.jpa_behaviour.specs.Registered.{world_of}
use Rattle.jpa_rows.specs.rows.Same.{same_row}
use Rattle.jpa_object_rows.proofs.mapper.Found.{same_main}
use Rattle.jpa_object_rows.proofs.mapper.main_object.has_main_row.Goals as goal

pub returns-in-Ok-clause-ok : goal.returns-in-Ok-clause-ok
returns-in-Ok-clause-ok g c =
    let written = c.as_slice.result.now in
    same_main (world_of g.B.Behaviour.meaning c.args.metamodel.now c.args.registry.now) c.args.object.now written c.args.row.now c.is_same_row.result
    (c.is_same_row.ensures ∙ ap (same_row written) c.as_slice-in-Ok.ensures) (c.as_slice.ensures ∙ c.in-Ok.ensures.ok) c.in-Ok.ensures.passed

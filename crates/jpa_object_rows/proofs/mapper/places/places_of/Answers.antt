use Rattle.std.proofs.Common.{◌∙◌, sym, ap}
use Rattle.std.specs.List.{list_all}
use Rattle.std.proofs.lemmas.Result.{err_from_is_err_and}
use Rattle.jpa_behaviour.specs.Registered.{world_of}
use Rattle.jpa_rows.specs.rows.Cells.{passes}
use Rattle.jpa_object_rows.proofs.mapper.Zips.{zip_same, refused_with}
use Rattle.jpa_object_rows.proofs.mapper.places.places_of.Goals as goal

pub returns-in_err-push_attributes-clause-err : goal.returns-in_err-push_attributes-clause-err
returns-in_err-push_attributes-clause-err g c =
    let m = c.args.metamodel.now in
    let is = err_from_is_err_and c.from_residual-in_err-push_attributes.result c.from_residual-in_err-push_attributes.ensures.1 in
    let same = ap (list_all (λ p. passes (world_of g.B.Behaviour.meaning m c.args.registry.now) p.0 p.1)) (zip_same c.attributes_of-attributes.ensures c.as_slice.ensures) in
    rw (is.1, is.2) (refused_with c.in_err-push_attributes.field-0.0 (c.in_err-push_attributes.ensures.err m) (λ h. sym same ∙ h))

pub returns-clause-passed : goal.returns-clause-passed
returns-clause-passed g c =
    let m = c.args.metamodel.now in
    let same = ap (list_all (λ p. passes (world_of g.B.Behaviour.meaning m c.args.registry.now) p.0 p.1)) (zip_same c.attributes_of-attributes.ensures c.as_slice.ensures) in
    sym same ∙ c.in_ok-push_attributes.ensures.passed m

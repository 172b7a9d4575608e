use Rattle.std.proofs.Common.{◌≡◌, ◌∙◌, sym, ap, ◌++◌, [], zip, ⊎_elim, arith}
use Rattle.std.specs.List.{list_all}
use Rattle.std.proofs.lemmas.Grind.{common_steps}
use Rattle.std.proofs.lemmas.List.{append-nil}
use Rattle.std.proofs.lemmas.Result.{err_from_is_err_and}
use Rattle.jpa_behaviour.specs.Registered.{world_of}
use Rattle.jpa_rows.specs.rows.Cells.{passes}
use Rattle.jpa_object_rows.specs.meaning.Objects.{attribute_places}
use Rattle.jpa_object_rows.proofs.mapper.Zips.{ended_left, ended_right, next_fails, refused_with}
use Rattle.jpa_object_rows.proofs.mapper.places.push_attributes.Goals as goal

pub loop-attribute-preserved : goal.loop-attribute-preserved
loop-attribute-preserved g c = record {
  narrow = grind (arith, common_steps);
  rest = λ m. grind (arith, common_steps, c.loop-attribute.invariant.rest m, c.in_ok-push_attribute.ensures.ok m);
  passed = λ m. grind (arith, common_steps, c.loop-attribute.invariant.passed m, c.in_ok-push_attribute.ensures.passed m);
}

pub returns-in_err-push_attribute-clause-err : goal.returns-in_err-push_attribute-clause-err
returns-in_err-push_attribute-clause-err g c m =
    let steps = c.in-Some.ensures.steps in
    let is = err_from_is_err_and c.from_residual.result c.from_residual.ensures.1 in
    rw (is.1, is.2)
    (refused_with c.in_err-push_attribute.field-0.0 (c.in_err-push_attribute.ensures.err m)
    (next_fails (λ p. passes (world_of g.B.Behaviour.meaning m c.args.registry.now) p.0 p.1) steps.0 steps.1 (c.loop-attribute.invariant.passed m)))

-- nothing is left
pub returns-clause-ok : goal.returns-clause-ok
returns-clause-ok g c m =
    let left = c.loop-attribute.attribute-iterator in
    let none : zip left.a.rest.now left.b.rest.now ≡ [] =
    ⊎_elim (λ h. ended_left left.a.rest.now left.b.rest.now (h.1).0) (λ h. ended_right left.a.rest.now left.b.rest.now (h.1).0) c.in-None.ensures.steps in
    sym (append-nil c.loop-attribute.places) ∙ ap (λ ps. c.loop-attribute.places ++ attribute_places (world_of g.B.Behaviour.meaning m c.args.registry.now) ps) (sym none) ∙ c.loop-attribute.invariant.rest m

pub returns-clause-passed : goal.returns-clause-passed
returns-clause-passed g c m =
    let left = c.loop-attribute.attribute-iterator in
    let none : zip left.a.rest.now left.b.rest.now ≡ [] =
    ⊎_elim (λ h. ended_left left.a.rest.now left.b.rest.now (h.1).0) (λ h. ended_right left.a.rest.now left.b.rest.now (h.1).0) c.in-None.ensures.steps in
    sym (c.loop-attribute.invariant.passed m) ∙ ap (list_all (λ p. passes (world_of g.B.Behaviour.meaning m c.args.registry.now) p.0 p.1)) none

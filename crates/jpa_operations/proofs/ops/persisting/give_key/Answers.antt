use Rattle.std.proofs.Common.{◌≡◌, ◌∙◌, true, sym, ap, subst, get_or}
use Rattle.std.proofs.lemmas.List.{get_or_default}
use Rattle.jpa_model.specs.declared.unit.Root.{Root}
use Rattle.jpa_model.specs.Chains.{root_of}
use Rattle.jpa_work.specs.heap.Objects.{no_object}
use Rattle.jpa_work.specs.declared.heap.LiveObject.{LiveObject}
use Rattle.jpa_work.specs.context.Steps.{Meets}
use Rattle.jpa_work.specs.context.Undo.{now}
use Rattle.jpa_work.specs.context.Work.{object}
use Rattle.jpa_operations.specs.ops.States.{give_key}
use Rattle.jpa_operations.proofs.ops.persisting.give_key.Goals as goal

-- in each world with these entities
pub returns-then-root_of-clause-meets : goal.returns-then-root_of-clause-meets
returns-then-root_of-clause-meets c = λ world.
    let m = c.args.metamodel.now in
    let w = now c.args.work.now in
    let n = c.args.object in
    let x = c.index-as_slice-object.result in
    let own : x ≡ object w n = c.index-as_slice-object.is ∙ ap (λ xs. get_or xs n x) c.as_slice.ensures ∙ get_or_default w.objects n x no_object c.requires.object in
    let generated : (root_of m (object w n).class).generated ≡ true = ap (λ (y : LiveObject). (root_of m y.class).generated) (sym own) ∙ ap (λ (r : Root). r.generated) (sym c.root_of.ensures) ∙ c.if-root_of.true in
    subst (λ b. Meets c.give_number.result (now c.give_number.new.work) (give_key (record world { model = m }) n b w)) (sym generated) (c.give_number.ensures.meets world)

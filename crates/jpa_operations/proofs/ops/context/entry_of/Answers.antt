use Rattle.std.proofs.Common.{◌∙◌, ap, sym}
use Rattle.std.specs.Prelude.{slice_get}
use Rattle.jpa_work.specs.context.Places.{entry_at}
use Rattle.jpa_work.specs.context.Undo.{now}
use Rattle.jpa_operations.proofs.ops.Based.{lent}
use Rattle.jpa_operations.proofs.ops.context.entry_of.Goals as goal

-- the entry at the object's place is the object's
pub returns-in-Some : goal.returns-in-Some
returns-in-Some c =
    let w = now c.args.work.now in
    lent c.as_slice.result.now c.in-Some.place c.get.result c.get.ensures.lookup
    ∙ ap (λ es. slice_get es c.in-Some.place) c.as_slice.ensures
    ∙ ap (entry_at w.context) (sym c.in-Some.is ∙ c.place_of.ensures)
    ∙ sym (c.place_laws.ensures.entry w c.args.object)

pub returns-in-None : goal.returns-in-None
returns-in-None c =
    let w = now c.args.work.now in
    ap (entry_at w.context) (sym c.in-None.is ∙ c.place_of.ensures) ∙ sym (c.place_laws.ensures.entry w c.args.object)

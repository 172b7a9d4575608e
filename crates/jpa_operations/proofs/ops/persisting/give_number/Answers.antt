use Rattle.std.proofs.Common.{◌≡◌, ◌∙◌, ap, length, get_or}
use Rattle.std.proofs.lemmas.List.{get_or_default, length-set}
use Rattle.std.proofs.Common.{true, sym}
use Rattle.std.specs.List.{list_all}
use Rattle.jpa_value.specs.Value.{is_null}
use Rattle.jpa_work.specs.heap.Objects.{no_object}
use Rattle.jpa_work.specs.declared.heap.LiveObject.{LiveObject}
use Rattle.jpa_work.specs.context.Undo.{now}
use Rattle.jpa_work.specs.context.Work.{object}
use Rattle.jpa_operations.proofs.ops.Persisted.{numbered_places}
use Rattle.jpa_operations.proofs.ops.persisting.give_number.Goals as goal

-- the key alone was given
pub returns-in_err-set-2-clause-placed : goal.returns-in_err-set-2-clause-placed
returns-in_err-set-2-clause-placed c =
    let w = now c.args.work.now in
    let n = c.args.object in
    let x = c.index-as_slice-object.result in
    let own : x ≡ object w n = c.index-as_slice-object.is ∙ ap (λ xs. get_or xs n x) c.as_slice.ensures ∙ get_or_default w.objects n x no_object c.requires.keyless.object in
    let unset : list_all is_null (object w n).key ≡ true = ap (λ (z : LiveObject). list_all is_null z.key) (sym own) ∙ ap (list_all is_null) (sym c.as_slice-2.ensures) ∙ sym c.is_unset.ensures ∙ c.if-not-is_unset.false in
    numbered_places c.args.metamodel.now w n _ x c.in_ok-keyed.keyed c.set.new.self.now c.set-2.new.self.now c.requires.keyless.orderly c.requires.keyless.placed c.requires.keyless.object c.requires.generated unset own
    c.in_ok-keyed.ensures.ok c.in_ok-set.ensures.changed (ap length c.in_err-set-2.ensures.refused)

-- the key was given, and the number raised
pub returns-clause-placed : goal.returns-clause-placed
returns-clause-placed c =
    let w = now c.args.work.now in
    let n = c.args.object in
    let x = c.index-as_slice-object.result in
    let own : x ≡ object w n = c.index-as_slice-object.is ∙ ap (λ xs. get_or xs n x) c.as_slice.ensures ∙ get_or_default w.objects n x no_object c.requires.keyless.object in
    let unset : list_all is_null (object w n).key ≡ true = ap (λ (z : LiveObject). list_all is_null z.key) (sym own) ∙ ap (list_all is_null) (sym c.as_slice-2.ensures) ∙ sym c.is_unset.ensures ∙ c.if-not-is_unset.false in
    numbered_places c.args.metamodel.now w n _ x c.in_ok-keyed.keyed c.set.new.self.now c.set-2.new.self.now c.requires.keyless.orderly c.requires.keyless.placed c.requires.keyless.object c.requires.generated unset own
    c.in_ok-keyed.ensures.ok c.in_ok-set.ensures.changed (ap length c.in_ok-set-2.ensures.changed ∙ length-set w.numbers c.root_class-root.result _)

use Rattle.std.proofs.Common.{◌≡◌, ◌∙◌, List, ap, get_or, length, sym}
use Rattle.std.proofs.lemmas.List.{length-map, get_or_default}
use Rattle.jpa_work.specs.declared.heap.LiveObject.{LiveObject}
use Rattle.jpa_work.specs.heap.Objects.{no_object}
use Rattle.jpa_work.specs.context.Undo.{now}
use Rattle.jpa_work.specs.context.Work.{object}
use Rattle.jpa_flush.specs.flush.Flush.{held_now, members_held}
use Rattle.jpa_flush.proofs.flush.Same.{members_of_lengths}
use Rattle.jpa_flush.proofs.flush.still.knows_all_still.Goals as goal

pub returns-then-members-relations-clause-ok : goal.returns-then-members-relations-clause-ok
returns-then-members-relations-clause-ok c =
    let m = c.args.metamodel.now in
    let w = now c.args.work.now in
    let n = c.args.object in
    let x = c.index-as_slice-object.result in
    let read : c.as_slice-relations.result.now ≡ (object w n).relations =
    c.as_slice-relations.ensures
    ∙ ap (λ (y : LiveObject). y.relations)
    (ap (λ (os : List LiveObject). get_or os n x) c.as_slice.ensures ∙ get_or_default w.objects n x no_object c.requires.object) in
    let count = length-map (object w n).relations (held_now m w) ∙ ap length (sym read) in
    members_of_lengths c.args.base.now.members (members_held m w n) (λ e. c.if-members-relations.true (ap length c.as_slice-members.ensures ∙ e ∙ count))

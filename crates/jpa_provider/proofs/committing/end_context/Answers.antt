use Rattle.std.proofs.Common.{◌≡◌, ◌∙◌, List, [], ap, sym}
use Rattle.std.specs.Prelude.{map}
use Rattle.std.proofs.lemmas.Bool.{eqb-true}
use Rattle.std.proofs.lemmas.List.{nil_from_length}
use Rattle.jpa_work.specs.declared.heap.LiveObject.{LiveObject}
use Rattle.jpa_work.specs.context.Places.{without_removed}
use Rattle.jpa_work.specs.context.Undo.{now}
use Rattle.jpa_work.specs.context.Work.{is_removed, state_from, unlocked}
use Rattle.jpa_work.specs.heap.Objects.{object_at}
use Rattle.jpa_provider.proofs.Walks.{leave_unlocked, none_leaves}
use Rattle.jpa_provider.proofs.committing.end_context.Goals as goal

-- none is removed
pub returns-then-is_empty-clause-now : goal.returns-then-is_empty-clause-now
returns-then-is_empty-clause-now c =
    let w = now c.args.work.now in
    let none : c.args.gone.now ≡ [] = nil_from_length c.args.gone.now (eqb-true _ _ (sym c.is_empty.ensures ∙ c.if-is_empty.true)) in
    c.end_locks.ensures.now ∙ ap (map unlocked) (sym (none_leaves w w.context (sym c.requires.gone ∙ none)))

pub returns-clause-now : goal.returns-clause-now
returns-clause-now c =
    let u = c.args.work.now in
    c.leave_removed.ensures.now
    ∙ ap (λ (os : List LiveObject). without_removed os u.manager c.end_locks.new.context.now) c.as_slice.ensures
    ∙ ap (without_removed u.objects.now u.manager) c.end_locks.ensures.now
    ∙ leave_unlocked (λ n. is_removed (state_from u.manager (object_at u.objects.now n).life)) u.context.now

use Rattle.std.proofs.Common.{◌∙◌, get_or, ap, sym}
use Rattle.std.proofs.lemmas.Bool.{false≢true}
use Rattle.jpa_work.specs.context.Undo.{now}
use Rattle.jpa_flush.proofs.marking.Ending.{called_more}
use Rattle.jpa_flush.proofs.marking.committed.mark_at.Goals as goal

pub returns-clause-called : goal.returns-clause-called
returns-clause-called c =
    let p = c.args.place in
    let e = c.index-as_slice-place.result in
    called_more c.args.metamodel.now (now c.args.work.now) c.args.marks.now c.add.new.self p e c.requires.within
    (c.index-as_slice-place.is ∙ ap (λ es. get_or es p e) c.as_slice.ensures)
    (λ over. false≢true (sym c.if-branch.false ∙ c.in_ok-is_over.ensures.1 over)) c.in_ok-add.ensures.added

use Rattle.std.proofs.Common.{◌∙◌, ap, take}
use Rattle.jpa_work.specs.undo.Undo.{put_back}
use Rattle.jpa_work.proofs.undo.Undo.{pushed}
use Rattle.jpa_work.proofs.undo.list.UndoList.push.Goals as goal

-- the new item stands behind the kept ones
pub returns-clause-since : goal.returns-clause-since
returns-clause-since g c =
    let since = pushed _ _ c.args.item c.self.inside.overwritten.items c.self.invariant in
    ap (λ xs. take c.self.inside.kept (put_back xs c.self.inside.overwritten.items)) c.in_ok-push.ensures.items ∙ since ∙ ap (λ v. v.since) c.self.view_is

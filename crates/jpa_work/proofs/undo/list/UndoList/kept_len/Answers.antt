use Rattle.std.proofs.Common.{◌≡◌, ◌∙◌, ap, sym, length}
use Rattle.jpa_work.proofs.undo.Undo.{length_kept}
use Rattle.jpa_work.proofs.undo.list.UndoList.kept_len.Goals as goal

pub returns-clause-kept : goal.returns-clause-kept
returns-clause-kept g c =
    sym (length_kept c.self.inside.kept c.self.inside.items.items c.self.inside.overwritten.items c.self.invariant) ∙ ap (λ v. length v.since) c.self.view_is

use Rattle.std.proofs.Common.{◌≡◌, ℕ, true, refl}
use Rattle.jpa_work.specs.declared.heap.LiveObject.{LiveObject}
use Rattle.jpa_work.specs.context.Undo.{now, since, undone}
use Rattle.jpa_work.specs.context.Work.{object}
use Rattle.jpa_flush.specs.flush.Marked.{keeps_links}
use Rattle.jpa_flush.proofs.flush.Noted.{links_kept}
use Rattle.jpa_flush.proofs.flush.Prefix.{before_next, before_all}
use Rattle.jpa_flush.proofs.flush.keeping.keep_links.Goals as goal

pub loop-note-preserved : goal.loop-note-preserved
loop-note-preserved c =
    let u = c.args.work.now in
    let P : ℕ × LiveObject → Type 0 = λ o. keeps_links u.manager o.1 (object (now u) o.0) ≡ true in
    before_next P c.loop-note.note-index c.note-item.result c.overwritten-noted.result.now c.note-item.is (c.keeps_link_at.ensures c.if-not-keeps_link_at.false) c.loop-note.invariant

pub returns : goal.returns
returns c = λ t.
    let u = c.args.work.now in
    let w = undone u.manager (since u) in
    let os = c.overwritten-noted.result.now in
    let P : ℕ × LiveObject → Type 0 = λ o. keeps_links u.manager o.1 (object (now u) o.0) ≡ true in
    links_kept w (now u) os c.overwritten-noted.ensures.back refl (before_all P c.loop-note.note-index os c.loop-note-test.false c.loop-note.invariant)

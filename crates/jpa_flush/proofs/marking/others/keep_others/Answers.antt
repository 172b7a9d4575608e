use Rattle.std.proofs.Common.{◌≡◌, ℕ, true}
use Rattle.jpa_work.specs.declared.heap.LiveObject.{LiveObject}
use Rattle.jpa_work.specs.context.Undo.{now}
use Rattle.jpa_work.specs.context.Work.{object}
use Rattle.jpa_flush.specs.flush.Marked.{before, keeps_others}
use Rattle.jpa_flush.proofs.flush.Prefix.{before_next, before_all}
use Rattle.jpa_flush.proofs.marking.Theirs.{others_go_on}
use Rattle.jpa_flush.proofs.marking.others.keep_others.Goals as goal

pub loop-note-preserved : goal.loop-note-preserved
loop-note-preserved c =
    let u = c.args.work.now in
    let P : ℕ × LiveObject → Type 0 = λ o. keeps_others u.manager o.1 (object (now u) o.0) ≡ true in
    before_next P c.loop-note.note-index c.note-item.result c.overwritten-noted.result.now c.note-item.is (c.keeps_others_at.ensures c.if-not-keeps_others_at.false) c.loop-note.invariant

pub returns : goal.returns
returns c = λ t m k es marks other.
    let u = c.args.work.now in
    let os = c.overwritten-noted.result.now in
    let P : ℕ × LiveObject → Type 0 = λ o. keeps_others u.manager o.1 (object (now u) o.0) ≡ true in
    others_go_on m k es marks (before u) (now u) os c.overwritten-noted.ensures.back other (c.keep_names.ensures c.if-not-keep_names.false) (before_all P c.loop-note.note-index os c.loop-note-test.false c.loop-note.invariant)

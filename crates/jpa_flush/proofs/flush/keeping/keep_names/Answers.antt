use Rattle.std.proofs.Common.{◌≡◌, ◌≤◌, ℕ, true, length, refl, arith}
use Rattle.jpa_work.specs.declared.heap.LiveObject.{LiveObject}
use Rattle.jpa_work.specs.context.Undo.{now, since, undone}
use Rattle.jpa_work.specs.context.Work.{object}
use Rattle.jpa_flush.specs.flush.Marked.{keeps_name}
use Rattle.jpa_flush.proofs.flush.Noted.{names_kept}
use Rattle.jpa_flush.proofs.flush.Prefix.{before_next, before_all}
use Rattle.jpa_flush.proofs.flush.keeping.keep_names.Goals as goal

pub loop-note-preserved : goal.loop-note-preserved
loop-note-preserved c =
    let v = now c.args.work.now in
    let P : ℕ × LiveObject → Type 0 = λ o. keeps_name o.1 (object v o.0) ≡ true in
    before_next P c.loop-note.note-index c.note-item.result c.overwritten-noted.result.now c.note-item.is (c.keeps_name_at.ensures c.if-not-keeps_name_at.false) c.loop-note.invariant

pub returns : goal.returns
returns c = λ t.
    let u = c.args.work.now in
    let w = undone u.manager (since u) in
    let v = now u in
    let os = c.overwritten-noted.result.now in
    let P : ℕ × LiveObject → Type 0 = λ o. keeps_name o.1 (object v o.0) ≡ true in
    let few : length w.objects ≤ length v.objects = omega (arith, c.kept_len-kept.ensures.kept, c.kept_len-kept.ensures.within) in
    record { manager = refl; count = few; names = names_kept w v os c.overwritten-noted.ensures.back (before_all P c.loop-note.note-index os c.loop-note-test.false c.loop-note.invariant) }

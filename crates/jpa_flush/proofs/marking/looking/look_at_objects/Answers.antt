use Rattle.std.proofs.Common.{◌≢◌, ℕ, ◌+◌, get_or, sym}
use Rattle.jpa_work.specs.declared.heap.LiveObject.{LiveObject}
use Rattle.jpa_work.specs.heap.Objects.{no_object}
use Rattle.jpa_work.specs.declared.context.Entry.{Entry}
use Rattle.jpa_work.specs.context.Undo.{now}
use Rattle.jpa_flush.specs.marking.Anew.{HasObjectAsItWas}
use Rattle.jpa_flush.proofs.marking.Over.{over_both, over_none, over_weaker}
use Rattle.jpa_flush.proofs.flush.Prefix.{Before, before_all, before_next, before_none}
use Rattle.jpa_flush.proofs.marking.Renewed.{stands_at}
use Rattle.jpa_flush.proofs.marking.looking.look_at_objects.Goals as goal

pub loop-note-init : goal.loop-note-init
loop-note-init c =
    let w = now c.args.work.now in
    let os = c.overwritten-noted.result.now in
    over_none c.args.metamodel.now w c.args.marks.now (λ i. (d : Entry) → Before (λ (o : ℕ × LiveObject). o.0 ≢ (get_or w.context i d).object) 0 os)
    (λ i l d. before_none (λ (o : ℕ × LiveObject). o.0 ≢ (get_or w.context i d).object) os)

pub loop-note-preserved : goal.loop-note-preserved
loop-note-preserved c =
    let m = c.args.metamodel.now in
    let w = now c.args.work.now in
    let os = c.overwritten-noted.result.now in
    let i = c.loop-note.note-index in
    let o = c.note-item.result in
    let P : ℕ → ℕ → Type 0 = λ n k. (d : Entry) → Before (λ (x : ℕ × LiveObject). x.0 ≢ (get_or w.context k d).object) n os in
    let Q : ℕ → Type 0 = λ k. (d : Entry) → (get_or w.context k d).object ≢ o.0 in
    let both = over_both m w (P i) Q c.args.marks.now c.loop-note.marks c.look_at_object.new.marks c.loop-note.invariant c.in_ok-look_at_object.ensures in
    over_weaker m w (λ k. P i k × Q k) (P (i + 1)) c.args.marks.now c.look_at_object.new.marks
    (λ k l h d. before_next (λ (x : ℕ × LiveObject). x.0 ≢ (get_or w.context k d).object) i o os c.note-item.is (λ e. h.1 d (sym e)) (h.0 d)) both

pub returns : goal.returns
returns c =
    let u = c.args.work.now in
    let os = c.overwritten-noted.result.now in
    let i = c.loop-note.note-index in
    let P : ℕ → Type 0 = λ k. (d : Entry) → Before (λ (x : ℕ × LiveObject). x.0 ≢ (get_or u.context.now k d).object) i os in
    over_weaker c.args.metamodel.now (now u) P (HasObjectAsItWas u) c.args.marks.now c.loop-note.marks
    (λ k l h d past. stands_at u.objects.now u.objects.since os (get_or u.context.now k d).object no_object c.overwritten-noted.ensures.back
    (before_all (λ (x : ℕ × LiveObject). x.0 ≢ (get_or u.context.now k d).object) i os c.loop-note-test.false (h d)) past)
    c.loop-note.invariant

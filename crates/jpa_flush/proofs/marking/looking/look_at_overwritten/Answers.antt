use Rattle.std.proofs.Common.{◌≢◌, ℕ, ◌+◌, sym}
use Rattle.jpa_work.specs.declared.context.Entry.{Entry}
use Rattle.jpa_work.specs.context.Undo.{now}
use Rattle.jpa_flush.specs.marking.Anew.{StandsAt}
use Rattle.jpa_flush.proofs.marking.Over.{over_both, over_none, over_weaker}
use Rattle.jpa_flush.proofs.flush.Prefix.{Before, before_all, before_next, before_none}
use Rattle.jpa_flush.proofs.marking.Renewed.{stands_at}
use Rattle.jpa_flush.proofs.marking.looking.look_at_overwritten.Goals as goal

pub loop-note-init : goal.loop-note-init
loop-note-init c =
    let os = c.overwritten-noted.result.now in
    over_none c.args.metamodel.now (now c.args.work.now) c.args.marks.now (λ i. Before (λ (o : ℕ × Entry). o.0 ≢ i) 0 os) (λ i l. before_none (λ (o : ℕ × Entry). o.0 ≢ i) os)

pub loop-note-preserved : goal.loop-note-preserved
loop-note-preserved c =
    let m = c.args.metamodel.now in
    let w = now c.args.work.now in
    let os = c.overwritten-noted.result.now in
    let i = c.loop-note.note-index in
    let o = c.note-item.result in
    let P : ℕ → ℕ → Type 0 = λ n k. Before (λ (x : ℕ × Entry). x.0 ≢ k) n os in
    let both = over_both m w (P i) (λ k. k ≢ o.0) c.args.marks.now c.loop-note.marks c.look_at.new.marks c.loop-note.invariant c.in_ok-look_at.ensures in
    over_weaker m w (λ k. P i k × (k ≢ o.0)) (P (i + 1)) c.args.marks.now c.look_at.new.marks
    (λ k l h. before_next (λ (x : ℕ × Entry). x.0 ≢ k) i o os c.note-item.is (λ e. h.1 (sym e)) h.0) both

pub returns : goal.returns
returns c =
    let u = c.args.work.now in
    let os = c.overwritten-noted.result.now in
    let i = c.loop-note.note-index in
    over_weaker c.args.metamodel.now (now u) (λ k. Before (λ (x : ℕ × Entry). x.0 ≢ k) i os) (StandsAt u) c.args.marks.now c.loop-note.marks
    (λ k l h d past. stands_at u.context.now u.context.since os k d c.overwritten-noted.ensures.back (before_all (λ (x : ℕ × Entry). x.0 ≢ k) i os c.loop-note-test.false h) past)
    c.loop-note.invariant

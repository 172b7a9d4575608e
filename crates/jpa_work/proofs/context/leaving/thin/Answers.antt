use Rattle.std.proofs.Common.{◌≡◌, ◌∙◌, ap, sym, cond, take, arith, length}
use Rattle.std.proofs.Math.Seq.{take-length}
use Rattle.std.specs.Prelude.{◌==◌, filter}
use Rattle.std.specs.List.{list_any}
use Rattle.jpa_work.specs.context.Near.{fingerprint}
use Rattle.jpa_work.specs.context.Indexed.{under, has_place, places_with}
use Rattle.jpa_work.proofs.context.Staying.{leaves_under, thin_leaves, thin_stays, thin_more, all_thinned}
use Rattle.jpa_work.proofs.context.leaving.thin.Goals as goal
use Rattle.jpa_work.proofs.context.leaving.thin.Goals.{then-not-has, else-not-has}

pub loop-entry-preserved : goal.loop-entry-preserved
loop-entry-preserved c = λ print.
    let h = has_place c.args.at.now in
    let entries = c.args.entries.now in
    let i = c.loop-entry.entry-index in
    let e = c.entry-item.result in
    let now = under c.loop-entry.index print in
    thin_more h print entries i e now (under c.if-not-has.index print) c.loop-entry-test.true c.entry-item.is (c.loop-entry.invariant print)
    (elim c.if-not-has.branch [
      | then-not-has w ↦
          ap (λ index. under index print) w.index-is ∙ w.keep_placed.ensures print
          ∙ ap (λ k. cond (k == print) (filter h now) now) (w.fingerprint.ensures ∙ ap fingerprint w.as_slice.ensures)
          ∙ ap (λ b. cond b (filter h now) now) (sym (thin_leaves h print e (sym c.has.ensures ∙ w.if-not-has.true)))
      | else-not-has w ↦ ap (λ index. under index print) w.index-is ∙ ap (λ b. cond b (filter h now) now) (sym (thin_stays h print e (sym c.has.ensures ∙ w.if-not-has.false)))
    ])

pub returns : goal.returns
returns c = λ print.
    let h = has_place c.args.at.now in
    let entries = c.args.entries.now in
    let all = places_with print entries in
    let last : c.loop-entry.entry-index ≡ length entries = omega (arith, c.loop-entry-test.false, c.loop-entry.auto.entry-index-end) in
    all_thinned h print entries (under c.loop-entry.index print)
    (c.loop-entry.invariant print ∙ ap (λ es. cond (list_any (leaves_under h print) es) (filter h all) all) (ap (λ i. take i entries) last ∙ take-length entries))

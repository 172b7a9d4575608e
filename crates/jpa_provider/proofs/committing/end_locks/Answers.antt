use Rattle.std.proofs.Common.{◌≡◌, ◌∙◌, ◌<◌, List, ap, sym, subst, length, get_or, arith}
use Rattle.jpa_work.specs.declared.context.Entry.{Entry}
use Rattle.jpa_work.specs.context.Work.{unlocked}
use Rattle.jpa_flush.specs.flush.Marked.{from}
use Rattle.jpa_flush.proofs.flush.Settled.{partly, partly_length}
use Rattle.jpa_provider.proofs.Walks.{unlock_end, unlock_next}
use Rattle.jpa_provider.proofs.committing.end_locks.Goals as goal

-- as many entries stand as before
pub unlock_at-requires : goal.unlock_at-requires
unlock_at-requires c =
    let es = c.args.context.now.now in
    let i = c.loop-place.place-index in
    let count = ap (λ (us : List Entry). length us) c.loop-place.invariant.now ∙ partly_length unlocked (from c.args.places.now i) es in
    subst (λ n. get_or c.args.places.now i 0 < n) (sym count) ((c.requires.rising).within i c.loop-place-test.true)

pub loop-place-preserved : goal.loop-place-preserved
loop-place-preserved c =
    record {
      now = unlock_next c.requires c.loop-place.context.now c.unlock_at.new.self.now c.loop-place.place-index c.loop-place-test.true c.loop-place.invariant.now c.unlock_at.ensures.now;
      marks = c.unlock_at.ensures.marks ∙ c.loop-place.invariant.marks;
    }

pub returns-clause-now : goal.returns-clause-now
returns-clause-now c =
    let es = c.args.context.now.now in
    let places = c.args.places.now in
    let last : c.loop-place.place-index ≡ length places = omega (arith, c.loop-place-test.false, c.loop-place.auto.place-index-end) in
    unlock_end c.requires c.loop-place.context.now (c.loop-place.invariant.now ∙ ap (λ j. partly unlocked (from places j) es) last)

use Rattle.std.proofs.Common.{get_or}
use Rattle.std.proofs.lemmas.List.{get_or_default}
use Rattle.jpa_work.specs.context.Undo.{now}
use Rattle.jpa_flush.proofs.flush.Prefix.{before_next}
use Rattle.jpa_flush.specs.marking.Committed.{IsSeenAt}
use Rattle.jpa_flush.proofs.marking.Ending.{seen_more}
use Rattle.jpa_flush.proofs.marking.committed.mark_places.Goals as goal

pub loop-place-preserved : goal.loop-place-preserved
loop-place-preserved c =
    let m = c.args.metamodel.now in
    let w = now c.args.work.now in
    let places = c.args.places.now in
    let i = c.loop-place.place-index in
    let p = get_or places i 0 in
    let a = c.loop-place.marks in
    let b = c.mark_at.new.marks in
    record {
      seen = before_next (IsSeenAt m w b) i p places (get_or_default places i 0 p c.loop-place-test.true) c.in_ok-mark_at.ensures.seen
          (λ k d l n. seen_more m w a b c.in_ok-mark_at.ensures.more (get_or places k d) (c.loop-place.invariant.seen k d l n));
      called = λ h. c.in_ok-mark_at.ensures.called (c.loop-place.invariant.called h);
    }

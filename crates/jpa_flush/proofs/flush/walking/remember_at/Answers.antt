use Rattle.std.proofs.Common.{◌≡◌, ◌∙◌, ◌+◌, List, ap, sym, length, get_or, arith}
use Rattle.jpa_work.specs.declared.context.Entry.{Entry}
use Rattle.jpa_work.specs.context.Undo.{now, since}
use Rattle.jpa_flush.specs.flush.Flush.{remembered}
use Rattle.jpa_flush.specs.flush.Marked.{from}
use Rattle.jpa_flush.specs.flush.Plan.{is_planned}
use Rattle.jpa_flush.proofs.flush.Remembered.{partly_ready}
use Rattle.jpa_flush.proofs.flush.Settled.{partly}
use Rattle.jpa_flush.proofs.flush.TurnsOfMemory.{memory_set, memory_kept, memory_passed, memory_ends}
use Rattle.jpa_flush.proofs.flush.walking.remember_at.Goals as goal
use Rattle.jpa_flush.proofs.flush.walking.remember_at.Goals.{then-is_planned_at, else-is_planned_at+in_ok-current+in-Some+in_ok-set, else-is_planned_at+in_ok-current+in_default}

-- an entry of the plan is the one that stood there, which remembers already
pub loop-place-preserved : goal.loop-place-preserved
loop-place-preserved c =
    let m = c.args.metamodel.now in
    let w0 = now c.args.work.now in
    let w1 = now c.loop-place.work in
    let w2 = now c.if-is_planned_at.work in
    let i = c.loop-place.place-index in
    let p = get_or c.args.places.now i 0 in
    let e = c.index-as_slice-place.result in
    let l = c.loop-place-test.true in
    let same = c.loop-place.invariant.same in
    let looked = c.requires.looked in
    let read : e ≡ get_or w1.context p e = c.index-as_slice-place.is ∙ ap (λ (es : List Entry). get_or es p e) c.as_slice.ensures in
    let next : w2 ≡ record w0 { context = partly (remembered m w0) (from c.args.places.now (i + 1)) w0.context } =
    elim c.if-is_planned_at.branch [
      | then-is_planned_at v ↦
          ap now v.work-is
          ∙ memory_passed m w0 w1 looked i e l same read
          (λ d is. c.requires.settled p d ((looked.rising).within i l) (ap (is_planned c.args.plan.now) (sym is) ∙ (c.is_planned_at.ensures v.if-is_planned_at.true).1))
      | else-is_planned_at+in_ok-current+in-Some+in_ok-set v ↦
          ap now v.work-is
          ∙ (λ j. record w1 { context = v.in_ok-set.ensures.changed j })
          ∙ memory_set m w0 w1 looked i e v.in-Some.current v.in_ok-current.field-0 l same read v.in-Some.is v.in_ok-current.ensures.ok
      | else-is_planned_at+in_ok-current+in_default v ↦ ap now v.work-is ∙ memory_kept m w0 w1 looked i e v.in_ok-current.field-0 l same read v.in_default.is v.in_ok-current.ensures.ok
    ] in
    record {
      same = next;
      ready = partly_ready m w0 w2 (from c.args.places.now (i + 1)) next c.requires.ready;
      since =
          elim c.if-is_planned_at.branch [
            | then-is_planned_at v ↦ ap since v.work-is ∙ c.loop-place.invariant.since
            | else-is_planned_at+in_ok-current+in-Some+in_ok-set v ↦
                ap since v.work-is ∙ (λ j. record (since c.loop-place.work) { context = v.set.ensures.since j; marks = v.set.ensures.marks j }) ∙ c.loop-place.invariant.since
            | else-is_planned_at+in_ok-current+in_default v ↦ ap since v.work-is ∙ c.loop-place.invariant.since
          ];
    }

pub returns-clause-ok : goal.returns-clause-ok
returns-clause-ok c =
    let m = c.args.metamodel.now in
    let w0 = now c.args.work.now in
    let places = c.args.places.now in
    let last : c.loop-place.place-index ≡ length places = omega (arith, c.loop-place-test.false, c.loop-place.auto.place-index-end) in
    memory_ends m w0 (now c.loop-place.work) c.requires.looked
    (c.loop-place.invariant.same ∙ ap (λ j. record w0 { context = partly (remembered m w0) (from places j) w0.context }) last)

use Rattle.std.proofs.Common.{◌≡◌, ◌∙◌, ◌+◌, ◌++◌, List, ap, sym, length, get_or, drop, arith}
use Rattle.jpa_work.specs.declared.context.Entry.{Entry}
use Rattle.jpa_work.specs.context.Undo.{now}
use Rattle.jpa_flush.specs.flush.Marked.{from}
use Rattle.jpa_provider.proofs.Walks.{gone_end, gone_in, gone_next, stays_next}
use Rattle.jpa_provider.proofs.committing.removed_of.Goals as goal
use Rattle.jpa_provider.proofs.committing.removed_of.Goals.{then-leaves+in_ok-push, else-leaves}

pub loop-place-preserved : goal.loop-place-preserved
loop-place-preserved c =
    let w = now c.args.work.now in
    let i = c.loop-place.place-index in
    let e = c.index-as_slice-place.result in
    let read : e ≡ get_or w.context (get_or c.args.places.now i 0) e = c.index-as_slice-place.is ∙ ap (λ (es : List Entry). get_or es (get_or c.args.places.now i 0) e) c.as_slice.ensures in
    elim c.if-leaves.branch [
      | then-leaves+in_ok-push v ↦
          gone_next w c.requires.looked i e c.loop-place.gone c.if-leaves.gone c.loop-place-test.true read c.loop-place.invariant
          (sym c.leaves.ensures ∙ v.if-leaves.true) (v.gone-is ∙ v.in_ok-push.ensures.ok)
      | else-leaves v ↦
          ap (λ ns. ns ++ gone_in w (drop (from c.args.places.now (i + 1)) w.context)) v.gone-is
          ∙ stays_next w c.requires.looked i e c.loop-place.gone c.loop-place-test.true read c.loop-place.invariant (sym c.leaves.ensures ∙ v.if-leaves.false)
    ]

pub returns : goal.returns
returns c =
    let w = now c.args.work.now in
    let places = c.args.places.now in
    let last : c.loop-place.place-index ≡ length places = omega (arith, c.loop-place-test.false, c.loop-place.auto.place-index-end) in
    gone_end w c.requires.looked c.loop-place.gone (ap (λ j. c.loop-place.gone ++ gone_in w (drop (from places j) w.context)) (sym last) ∙ c.loop-place.invariant)

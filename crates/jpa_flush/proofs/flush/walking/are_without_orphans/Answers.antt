use Rattle.std.proofs.Common.{◌≡◌, ◌∙◌, List, ap, sym, length, get_or, drop, arith, Bool}
use Rattle.std.specs.List.{list_all}
use Rattle.jpa_work.specs.declared.context.Entry.{Entry}
use Rattle.jpa_work.specs.context.Undo.{now}
use Rattle.jpa_flush.specs.flush.Marked.{from, has_no_orphan}
use Rattle.jpa_flush.proofs.flush.Turns.{test_next, test_ends}
use Rattle.jpa_flush.proofs.flush.walking.are_without_orphans.Goals as goal

pub loop-place-preserved : goal.loop-place-preserved
loop-place-preserved c =
    let w = now c.args.work.now in
    let m = c.args.metamodel.now in
    let i = c.loop-place.place-index in
    let p = get_or c.args.places.now i 0 in
    let e = c.index-as_slice-place.result in
    let none : Entry → Bool = λ e. has_no_orphan m w e.object in
    let read : e ≡ get_or w.context p e = c.index-as_slice-place.is ∙ ap (λ (es : List Entry). get_or es p e) c.as_slice.ensures in
    test_next none c.requires.looked i e c.loop-place-test.true read (ap none c.index-as_slice-place.is ∙ sym c.in_ok-has_no_orphan.ensures.ok ∙ c.if-not-branch.false) ∙ c.loop-place.invariant

pub returns-clause-ok : goal.returns-clause-ok
returns-clause-ok c =
    let w = now c.args.work.now in
    let places = c.args.places.now in
    let none : Entry → Bool = λ e. has_no_orphan c.args.metamodel.now w e.object in
    let last : c.loop-place.place-index ≡ length places = omega (arith, c.loop-place-test.false, c.loop-place.auto.place-index-end) in
    test_ends none c.requires.looked ∙ ap (λ j. list_all none (drop (from places j) w.context)) (sym last) ∙ c.loop-place.invariant

use Rattle.std.proofs.Common.{◌≡◌, ◌∙◌, List, ap, sym, length, get_or, drop, arith, Bool}
use Rattle.std.specs.List.{list_all}
use Rattle.jpa_work.specs.declared.context.Entry.{Entry}
use Rattle.jpa_work.specs.context.Undo.{now}
use Rattle.jpa_flush.specs.flush.Marked.{from, is_linked_if_managed}
use Rattle.jpa_flush.proofs.flush.Turns.{test_next, test_ends}
use Rattle.jpa_flush.proofs.flush.walking.are_linked.Goals as goal

pub loop-place-preserved : goal.loop-place-preserved
loop-place-preserved c =
    let w = now c.args.work.now in
    let m = c.args.metamodel.now in
    let i = c.loop-place.place-index in
    let p = get_or c.args.places.now i 0 in
    let e = c.index-as_slice-place.result in
    let linked : Entry → Bool = λ e. is_linked_if_managed m w e.object in
    let read : e ≡ get_or w.context p e = c.index-as_slice-place.is ∙ ap (λ (es : List Entry). get_or es p e) c.as_slice.ensures in
    test_next linked c.requires.looked i e c.loop-place-test.true read (ap linked c.index-as_slice-place.is ∙ sym c.is_linked_if_managed.ensures ∙ c.if-not-is_linked_if_managed.false) ∙ c.loop-place.invariant

pub returns : goal.returns
returns c =
    let w = now c.args.work.now in
    let places = c.args.places.now in
    let linked : Entry → Bool = λ e. is_linked_if_managed c.args.metamodel.now w e.object in
    let last : c.loop-place.place-index ≡ length places = omega (arith, c.loop-place-test.false, c.loop-place.auto.place-index-end) in
    test_ends linked c.requires.looked ∙ ap (λ j. list_all linked (drop (from places j) w.context)) (sym last) ∙ c.loop-place.invariant

use Rattle.std.proofs.Common.{◌≡◌, ◌∙◌, List, ap, sym, length, get_or, drop, arith}
use Rattle.std.specs.List.{list_all}
use Rattle.jpa_work.specs.declared.context.Entry.{Entry}
use Rattle.jpa_work.specs.context.Undo.{now}
use Rattle.jpa_flush.specs.flush.Flush.{read_holds}
use Rattle.jpa_flush.specs.flush.Marked.{from}
use Rattle.jpa_flush.proofs.flush.Locked.{reads_looked}
use Rattle.jpa_flush.proofs.flush.Turns.{test_next, test_ends}
use Rattle.jpa_flush.proofs.flush.locks.reads_hold.Goals as goal

pub loop-place-preserved : goal.loop-place-preserved
loop-place-preserved c =
    let w = now c.args.work.now in
    let m = c.args.metamodel.now in
    let places = c.args.places.now in
    let i = c.loop-place.place-index in
    let p = get_or places i 0 in
    let e = c.index-as_slice-place.result in
    let read : e ≡ get_or w.context p e = c.index-as_slice-place.is ∙ ap (λ (es : List Entry). get_or es p e) c.as_slice.ensures in
    test_next (read_holds m w) (reads_looked m w w.context places c.requires.looked) i e c.loop-place-test.true read
    (sym c.in_ok-read_holds.ensures.ok ∙ c.if-not-branch.false) ∙ c.loop-place.invariant

pub returns-clause-ok : goal.returns-clause-ok
returns-clause-ok c =
    let w = now c.args.work.now in
    let m = c.args.metamodel.now in
    let places = c.args.places.now in
    let last : c.loop-place.place-index ≡ length places = omega (arith, c.loop-place-test.false, c.loop-place.auto.place-index-end) in
    test_ends (read_holds m w) (reads_looked m w w.context places c.requires.looked)
    ∙ ap (λ j. list_all (read_holds m w) (drop (from places j) w.context)) (sym last) ∙ c.loop-place.invariant

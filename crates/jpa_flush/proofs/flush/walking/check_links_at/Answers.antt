use Rattle.std.proofs.Common.{◌≡◌, ◌∙◌, List, ap, sym, length, get_or, drop, arith, true}
use Rattle.std.specs.List.{list_all}
use Rattle.jpa_value.specs.declared.refusal.Cause.{Cause}
use Rattle.jpa_value.specs.declared.refusal.State.{State}
use Rattle.jpa_work.specs.declared.context.Entry.{Entry}
use Rattle.jpa_work.specs.context.Undo.{now}
use Rattle.jpa_work.specs.context.Steps.{require}
use Rattle.jpa_flush.specs.flush.Flush.{links_stored}
use Rattle.jpa_flush.specs.flush.Marked.{from}
use Rattle.jpa_flush.proofs.flush.Turns.{test_next, test_ends}
use Rattle.jpa_flush.proofs.flush.walking.check_links_at.Goals as goal

pub loop-place-preserved : goal.loop-place-preserved
loop-place-preserved c =
    let w = now c.args.work.now in
    let m = c.args.metamodel.now in
    let i = c.loop-place.place-index in
    let e = c.index-as_slice-place.result in
    let p = get_or c.args.places.now i 0 in
    let read : e ≡ get_or w.context p e = c.index-as_slice-place.is ∙ ap (λ (es : List Entry). get_or es p e) c.as_slice.ensures in
    test_next (links_stored m w) c.requires.looked i e c.loop-place-test.true read (sym c.links_stored.ensures ∙ c.if-not-links_stored.false) ∙ c.loop-place.invariant

pub returns : goal.returns
returns c =
    let w = now c.args.work.now in
    let m = c.args.metamodel.now in
    let places = c.args.places.now in
    let last : c.loop-place.place-index ≡ length places = omega (arith, c.loop-place-test.false, c.loop-place.auto.place-index-end) in
    let all : list_all (links_stored m w) w.context ≡ true =
    sym c.loop-place.invariant ∙ ap (λ j. list_all (links_stored m w) (drop (from places j) w.context)) last ∙ sym (test_ends (links_stored m w) c.requires.looked) in
    record { meets = λ world. ap (λ b. require b (Cause.IllegalState State.Reference) w) all }

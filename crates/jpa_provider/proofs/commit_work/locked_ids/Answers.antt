use Rattle.std.proofs.Common.{◌≡◌, ◌∙◌, ◌++◌, List, ap, sym, length, get_or, drop, arith}
use Rattle.std.specs.List.{flat_map}
use Rattle.jpa_work.specs.declared.context.Entry.{Entry}
use Rattle.jpa_work.specs.context.Undo.{now}
use Rattle.jpa_flush.specs.flush.Marked.{from}
use Rattle.jpa_machine.specs.machine.Transactions.{read_along}
use Rattle.jpa_provider.proofs.Walks.{locked_end, locked_next}
use Rattle.jpa_provider.proofs.commit_work.locked_ids.Goals as goal

pub loop-place-preserved : goal.loop-place-preserved
loop-place-preserved c =
    let w = now c.args.work.now in
    let m = c.args.metamodel.now in
    let i = c.loop-place.place-index in
    let e = c.index-as_slice-place.result in
    let read : e ≡ get_or w.context (get_or c.args.places.now i 0) e = c.index-as_slice-place.is ∙ ap (λ (es : List Entry). get_or es (get_or c.args.places.now i 0) e) c.as_slice.ensures in
    locked_next m w c.requires.looked i e c.loop-place.locked c.push_locked.new.locked c.loop-place-test.true read c.loop-place.invariant c.in_ok-push_locked.ensures.ok

pub returns-clause-ok : goal.returns-clause-ok
returns-clause-ok c =
    let w = now c.args.work.now in
    let m = c.args.metamodel.now in
    let places = c.args.places.now in
    let last : c.loop-place.place-index ≡ length places = omega (arith, c.loop-place-test.false, c.loop-place.auto.place-index-end) in
    locked_end m w c.requires.looked c.loop-place.locked
    (ap (λ j. c.loop-place.locked ++ flat_map (read_along m w) (drop (from places j) w.context)) (sym last) ∙ c.loop-place.invariant)

use Rattle.std.proofs.Common.{List, get_or, arith}
use borrow.Author.Count.{below_more}
use Rattle.jpa_provider.specs.declared.session.EntityManager.{EntityManager}
use Rattle.jpa_provider.specs.Beside.{IsTold}
use Rattle.jpa_provider.proofs.Held.{held_twice, place_within, told_more, told_all}
use Rattle.jpa_provider.proofs.beside.keep_back_others.Goals as goal

pub keep_back_if_begun-requires : goal.keep_back_if_begun-requires
keep_back_if_begun-requires c =
    place_within c.args.view.now.committed c.args.managers.now.items c.loop-place.managers.items c.args.manager c.args.places.now c.loop-place.place-index c.loop-place.invariant.held c.requires c.loop-place-test.true

pub loop-place-preserved : goal.loop-place-preserved
loop-place-preserved c =
    let mid : List EntityManager = c.loop-place.managers.items in
    let new : List EntityManager = c.keep_back_if_begun.new.managers.items in
    let C = c.args.view.now.committed in
    let m = c.args.manager in
    let places = c.args.places.now in
    let ids = c.args.ids.now in
    let i = c.loop-place.place-index in
    let so_far = c.loop-place.invariant in
    let kept = c.keep_back_if_begun.ensures in
    let one : IsTold m new ids (get_or places i 0) = c.in_ok-keep_back_if_begun.ensures.told in
    record {
      held = held_twice C c.args.managers.now.items mid new m so_far.held kept.held;
      told = below_more (λ j. IsTold m new ids (get_or places j 0)) i (λ j l. told_more mid new m (get_or places i 0) ids kept.elsewhere one (get_or places j 0) (so_far.told j l)) one;
    }

pub returns-clause-told : goal.returns-clause-told
returns-clause-told c =
    let i = c.loop-place.invariant in
    let test = c.loop-place-test.false in
    told_all c.args.view.now.committed c.args.managers.now.items c.loop-place.managers.items c.args.manager c.args.places.now c.args.ids.now i.held c.requires (λ j l. i.told j (omega (arith, l, test)))

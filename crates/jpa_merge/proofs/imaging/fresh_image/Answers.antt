use Rattle.std.proofs.Common.{◌≡◌, ◌∙◌, true, false, List, ap, sym, subst, get_or, rules, arith}
use Rattle.std.specs.Prelude.{is_some}
use Rattle.std.proofs.lemmas.List.{get_or_default}
use Rattle.jpa_work.specs.declared.heap.LiveObject.{LiveObject}
use Rattle.jpa_work.specs.heap.Objects.{no_object}
use Rattle.jpa_behaviour.specs.Behaviour.{World}
use Rattle.jpa_work.specs.context.Steps.{Done}
use Rattle.jpa_work.specs.context.Undo.{now}
use Rattle.jpa_work.specs.context.Work.{object}
use Rattle.jpa_operations.specs.fetch.Grown.{IsReady}
use Rattle.jpa_merge.specs.Merge.{fresh_image, with_fresh}
use Rattle.jpa_merge.proofs.Fresh.{changed, fresh_done, fresh_imaged, fresh_ready, fresh_grown}
use Rattle.jpa_operations.proofs.fetch.Grown.{grown_on}
use Rattle.jpa_operations.specs.fetch.Grown.{HasGrown}
use Rattle.jpa_merge.proofs.imaging.fresh_image.Goals as goal

pub become_managed-requires : goal.become_managed-requires
become_managed-requires c =
    let m = c.args.metamodel.now in
    let w = now c.args.work.now in
    let pushed = changed (with_fresh m c.args.node) w (now c.push_fresh.new.work) c.in_ok-push_fresh.ensures.carries.meets in
    let count = c.in_ok-push_fresh.ensures.count in
    let place = c.len-image.ensures in
    record {
      orderly = c.requires.orderly;
      ready = subst (IsReady m) (sym pushed) (fresh_ready m w c.args.node c.requires.ready c.requires.node);
      object = omega (arith, count, place);
    }

meets : (c : goal.In_ok-become_managed) (world : World) →
    fresh_image (record world { model = c.args.metamodel.now }) c.args.node (now c.args.work.now) ≡ Done (record { node = c.args.node; image = c.len-image.result; fresh = true }) (now c.become_managed.new.work)
meets c world =
    let m = c.args.metamodel.now in
    let w = now c.args.work.now in
    let n = c.args.node in
    let x = c.index-as_slice-node.result in
    let own : get_or c.as_slice.result.now n x ≡ object w n = ap (λ (os : List LiveObject). get_or os n x) c.as_slice.ensures ∙ get_or_default w.objects n x no_object c.requires.node in
    let none : is_some (object w n).version ≡ false = ap (λ (o : LiveObject). is_some o.version) (sym own) ∙ sym c.is_some.ensures ∙ c.if-is_some.false in
    let pushed = changed (with_fresh m n) w (now c.push_fresh.new.work) c.in_ok-push_fresh.ensures.carries.meets in
    fresh_done (record world { model = m }) n w none c.len-image.result (now c.push_fresh.new.work) c.len-image.ensures c.if-image-ge-MOST_OBJECTS.false pushed (now c.become_managed.new.work)
    (c.in_ok-become_managed.ensures.meets world)

pub returns-clause-carries : goal.returns-clause-carries
returns-clause-carries c =
    let m = c.args.metamodel.now in
    let w = now c.args.work.now in
    let u = now c.push_fresh.new.work in
    let pushed = changed (with_fresh m c.args.node) w u c.in_ok-push_fresh.ensures.carries.meets in
    let grown = subst (HasGrown w) (sym pushed) (fresh_grown m w c.args.node c.requires.ready c.requires.node) in
    record {
      meets = meets c;
      goes = record {
        ready = c.in_ok-become_managed.ensures.goes.ready;
        grown = grown_on w u (now c.become_managed.new.work) grown c.in_ok-become_managed.ensures.goes.grown;
      };
      view = search rules;
      since = search rules;
    }

pub returns-clause-imaged : goal.returns-clause-imaged
returns-clause-imaged c =
    let m = c.args.metamodel.now in
    let w = now c.args.work.now in
    let n = c.args.node in
    let u = now c.push_fresh.new.work in
    let pushed = changed (with_fresh m n) w u c.in_ok-push_fresh.ensures.carries.meets in
    fresh_imaged m w u (now c.become_managed.new.work) n c.len-image.result c.requires.node c.len-image.ensures pushed c.in_ok-become_managed.ensures.goes.grown

use Rattle.std.proofs.Common.{◌≡◌, ◌∙◌, ◌<◌, arith, length, ap, sym, subst, List}
use Rattle.std.specs.Prelude.{All}
use Rattle.jpa_work.specs.context.Undo.{now}
use Rattle.jpa_cascade.specs.declared.Node.{Node}
use Rattle.jpa_cascade.specs.declared.Operation.{Operation}
use Rattle.jpa_cascade.specs.There.{IsThere}
use Rattle.jpa_cascade.proofs.There.{waves_are_there}
use Rattle.jpa_operations.proofs.fetch.Grown.{grown_on}
use Rattle.jpa_operations.proofs.ops.Ready.{linked_within}
use Rattle.jpa_merge.specs.Merge.{first_image}
use Rattle.jpa_merge.proofs.Found.{first_there}
use Rattle.jpa_merge.proofs.Kept.{are_imaged_on}
use Rattle.jpa_merge.proofs.merging.merge.Goals as goal

-- each node was there as the merge began
pub images_of-requires-clause-there : goal.images_of-requires-clause-there
images_of-requires-clause-there g c =
    let m = c.args.unit.now.metamodel in
    let w = now c.args.work.now in
    subst (λ (nodes : List Node). All (IsThere w) nodes) (sym (c.as_slice.ensures ∙ c.in_ok-nodes.ensures.waves))
    (waves_are_there m Operation.Merge w c.args.object (linked_within w.objects (c.requires.ready).linked) ((c.requires.ready).placed).entries c.requires.object)

-- the images are there still
pub returns-clause-within : goal.returns-clause-within
returns-clause-within g c =
    let n = c.args.object in
    let w = now c.args.work.now in
    let u = now c.images_of.new.work in
    let t = now c.copy_nodes.new.work in
    let v = now c.pre_persist_each.new.work in
    let list = c.in_ok-list.list in
    let same : c.first_image.result ≡ first_image n list = c.first_image.ensures ∙ ap (first_image n) (c.as_slice-3.ensures ∙ c.in_ok-images.ensures ∙ c.into_vec.ensures) in
    let later = grown_on u t v c.in_ok-copy_nodes.ensures.goes.grown c.in_ok-pre_persist_each.ensures.goes.grown in
    let start : n < length v.objects = let l = c.requires.object in let a = c.in_ok-list.ensures.goes.grown.count in let b = later.count in omega (arith, l, a, b) in
    subst (λ k. k < length v.objects) (sym same) (first_there v n list start (are_imaged_on u v list later c.in_ok-list.ensures.imaged))

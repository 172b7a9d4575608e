use Rattle.std.proofs.Common.{◌≡◌, ◌∙◌, ap, suc, ◌-◌, ◌++◌, [], ◌∷◌, length, take, drop, arith}
use Rattle.std.proofs.lemmas.List.{take_all}
use Rattle.std.proofs.lemmas.Grind.{common_steps}
use Rattle.std.specs.List.{flat_map}
use Rattle.jpa_work.specs.context.Undo.{now}
use Rattle.jpa_cascade.specs.declared.Node.{Node}
use Rattle.jpa_cascade.specs.Waves.{targets, unseen, waves_by}
use Rattle.jpa_cascade.proofs.Turns.{turned, ended}
use Rattle.jpa_cascade.proofs.waving.waves.Goals as goal

pub loop-from-preserved : goal.loop-from-preserved
loop-from-preserved c =
    let next = targets c.args.metamodel.now c.args.operation (now c.args.work.now) in
    let nodes = c.loop-from.nodes.items in
    let from = c.loop-from.from in
    let found = c.in_ok-found.found.items in
    let told = c.loop-from.invariant.told in
    let more_is : c.push_unseen-in-loop-from.new.nodes.items ≡ nodes ++ unseen nodes found = c.in_ok-push_unseen-2.ensures.ok ∙ ap (λ f. nodes ++ unseen nodes f) c.as_slice.ensures.value in
    let to_is : c.len-from.result ≡ length nodes = grind (arith, common_steps) in
    let d = c.deref.result.now in
    let part_is : take (length d - from) (drop from d) ≡ drop from nodes = take_all _ _ (grind (arith, common_steps)) ∙ ap (drop from) c.deref.ensures.value in
    let found_is : found ≡ flat_map next (drop from nodes) = c.in_ok-found.ensures.ok ∙ ap (flat_map next) part_is in
    let longer = more_is ∙ ap (λ f. nodes ++ unseen nodes f) found_is in
    record {
      told = (
        suc told.0,
        λ more. ap (λ k. waves_by next k [] (Node.Live c.args.start ∷ [])) (omega arith)
            ∙ told.1 (suc more) ∙ turned next more from c.len-from.result nodes c.push_unseen-in-loop-from.new.nodes.items to_is longer,
      );
      within = rw (to_is, more_is) (grind (arith, common_steps));
      agree = c.in_ok-push_unseen-2.ensures.agree;
    }

pub returns-clause-waves : goal.returns-clause-waves
returns-clause-waves c =
    let told = c.loop-from.invariant.told in
    c.of.ensures ∙ ended c.args.metamodel.now c.args.operation (now c.args.work.now) c.args.start told.0 c.loop-from.from c.loop-from.nodes.items (grind (arith, common_steps, c.loop-from-test.false)) told.1

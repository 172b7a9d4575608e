use Rattle.std.proofs.Common.{◌∙◌, refl, ap, arith}
use Rattle.jpa_work.specs.declared.context.work.UnitOfWork.{UnitOfWork}
use Rattle.jpa_work.specs.context.Steps.{each}
use Rattle.jpa_work.specs.context.Undo.{now}
use Rattle.jpa_cascade.specs.declared.Operation.{Operation}
use Rattle.jpa_operations.specs.ops.States.{detach_node}
use Rattle.jpa_operations.proofs.ops.Ready.{there_still}
use Rattle.jpa_operations.proofs.ops.Rounds.{next_done, node_there}
use Rattle.jpa_operations.proofs.ops.detaching.detach.Goals as goal

pub loop-node-init : goal.loop-node-init
loop-node-init c =
    record {
      rest = ap (λ xs. each detach_node xs (now c.args.work.now)) (c.as_slice-node-items.ensures ∙ c.in_ok-nodes.ensures.waves);
      count = refl;
      others = refl;
      kept = λ k. k;
    }

-- a node of the waves is there still
pub detach_node-requires : goal.detach_node-requires
detach_node-requires c =
    let w0 = now c.args.work.now in
    let w = now c.loop-node.work in
    let x = c.node-item.result in
    let same = c.loop-node.invariant.count in
    let first = node_there c.args.metamodel.now Operation.Detach w0 c.args.object c.as_slice-node-items.result.now c.loop-node.node-index x c.requires.ready c.requires.object
    (c.as_slice-node-items.ensures ∙ c.in_ok-nodes.ensures.waves) c.loop-node-test.true c.node-item.is in
    record { there = there_still w0 w x (omega (arith, same)) (ap (λ (u : UnitOfWork). (now u).view) c.loop-node.invariant.others) first }

pub loop-node-preserved : goal.loop-node-preserved
loop-node-preserved c =
    let w = now c.loop-node.work in
    let w' = now c.detach_node.new.work in
    let u' = c.detach_node.new.work in
    record {
      rest = next_done detach_node c.as_slice-node-items.result.now c.loop-node.node-index c.node-item.result w w' c.loop-node-test.true c.node-item.is c.detach_node.ensures.detached ∙ c.loop-node.invariant.rest;
      count = c.detach_node.ensures.count ∙ c.loop-node.invariant.count;
      others = c.detach_node.ensures.others ∙ ap (λ (u : UnitOfWork). record u { objects = u'.objects; context = u'.context }) c.loop-node.invariant.others;
      kept = λ k. c.detach_node.ensures.kept (c.loop-node.invariant.kept k);
    }

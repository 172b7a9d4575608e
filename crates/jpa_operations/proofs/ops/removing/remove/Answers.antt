use Rattle.std.proofs.Common.{◌∙◌, refl, ap}
use Rattle.jpa_behaviour.specs.Served.{world_of_unit}
use Rattle.jpa_open.specs.Opened as opened
use Rattle.jpa_work.specs.context.Steps.{each}
use Rattle.jpa_work.specs.context.Undo.{now}
use Rattle.jpa_cascade.specs.declared.Operation.{Operation}
use Rattle.jpa_operations.specs.ops.States.{remove_node}
use Rattle.jpa_operations.proofs.fetch.Grown.{grown_on}
use Rattle.jpa_operations.proofs.ops.Ready.{from_itself, there_still}
use Rattle.jpa_operations.proofs.ops.Rounds.{next_done, node_there}
use Rattle.jpa_operations.proofs.ops.removing.remove.Goals as goal

pub loop-node-init : goal.loop-node-init
loop-node-init g c =
    let world = world_of_unit g.B.Behaviour.meaning c.args.unit.now in
    let w = now c.args.work.now in
    record {
      rest = ap (λ xs. each (remove_node world) xs w) (c.as_slice-node-items.ensures ∙ c.in_ok-nodes.ensures.waves);
      goes = from_itself c.args.unit.now.metamodel w c.requires.ready;
      view = refl;
      since = refl;
    }

-- a node of the waves is there still
pub remove_node-requires-clause-there : goal.remove_node-requires-clause-there
remove_node-requires-clause-there g c =
    let m = c.args.unit.now.metamodel in
    let w0 = now c.args.work.now in
    let w = now c.loop-node.work in
    let x = c.node-item.result in
    let first = node_there m Operation.Remove w0 c.args.object c.as_slice-node-items.result.now c.loop-node.node-index x c.requires.ready c.requires.object
    (c.as_slice-node-items.ensures ∙ c.in_ok-nodes.ensures.waves) c.loop-node-test.true c.node-item.is in
    there_still w0 w x c.loop-node.invariant.goes.grown.count (ap opened.now c.loop-node.invariant.view) first

pub loop-node-preserved : goal.loop-node-preserved
loop-node-preserved g c =
    let m = c.args.unit.now.metamodel in
    let world = world_of_unit g.B.Behaviour.meaning c.args.unit.now in
    let w0 = now c.args.work.now in
    let w = now c.loop-node.work in
    let w' = now c.remove_node.new.work in
    let x = c.node-item.result in
    let nodes = c.as_slice-node-items.result.now in
    let goes = c.loop-node.invariant.goes in
    let done = c.in_ok-remove_node.ensures.carries.meets in
    record {
      rest = next_done (remove_node world) nodes c.loop-node.node-index x w w' c.loop-node-test.true c.node-item.is done ∙ c.loop-node.invariant.rest;
      goes = record { ready = c.in_ok-remove_node.ensures.goes.ready; grown = grown_on w0 w w' goes.grown c.in_ok-remove_node.ensures.goes.grown };
      view = c.remove_node.ensures.carries.view ∙ c.loop-node.invariant.view;
      since = c.remove_node.ensures.carries.since ∙ c.loop-node.invariant.since;
    }

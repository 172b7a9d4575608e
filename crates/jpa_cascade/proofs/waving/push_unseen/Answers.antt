use Rattle.std.proofs.Common.{◌≡◌, ◌∙◌, ◌+◌, ◌++◌, ◌∷◌, [], ap, sym, subst, drop, cond, true}
use Rattle.std.specs.BTreeSet.{contains}
use Rattle.std.specs.Ordering.{eq_by_cmp}
use Rattle.jpa_cascade.specs.declared.Node.{Node}
use Rattle.jpa_cascade.specs.Order.{AreSeen, node_cmp}
use Rattle.jpa_cascade.specs.Waves.{unseen}
use Rattle.jpa_cascade.proofs.Unseen.{agree_more, agree_still, known_passed, fresh_passed, is_new, not_new}
use Rattle.jpa_cascade.proofs.waving.push_unseen.Goals as goal
use Rattle.jpa_cascade.proofs.waving.push_unseen.Goals.{then-branch+in_ok-try_copy-2+in_ok-push, else-branch}

pub loop-node-preserved : goal.loop-node-preserved
loop-node-preserved c =
    let nodes = c.loop-node.nodes.items in
    let found = c.args.found.now in
    let i = c.loop-node.node-index in
    let x = c.node-item.result in
    let seen = c.insert.new.self in
    let before = c.loop-node.invariant in
    let copied : c.in_ok-try_copy.field-0 ≡ x = c.in_ok-try_copy.ensures.equal in
    let updated : ((q : Node) → contains node_cmp seen q ≡ cond (eq_by_cmp node_cmp x q) true (contains node_cmp c.loop-node.seen q)) =
    λ q. c.in_ok-insert.ensures.updates.0 q ∙ ap (λ k. cond (eq_by_cmp node_cmp k q) true (contains node_cmp c.loop-node.seen q)) copied in
    elim c.if-branch.branch [
      | then-branch+in_ok-try_copy-2+in_ok-push w ↦
          let fresh = sym (before.agree x) ∙ ap (contains node_cmp c.loop-node.seen) (sym copied) ∙ is_new _ (sym w.if-branch.true ∙ c.in_ok-insert.ensures.added) in
          let longer : c.if-branch.nodes.items ≡ nodes ++ x ∷ [] = (λ k. (w.nodes-is k).items) ∙ w.in_ok-push.ensures.items ∙ ap (λ y. nodes ++ y ∷ []) w.in_ok-try_copy-2.ensures.equal in
          record {
            rest = ap (λ ns. ns ++ unseen ns (drop (i + 1) found)) longer ∙ fresh_passed nodes found i x c.loop-node-test.true c.node-item.is fresh ∙ before.rest;
            agree = subst (λ ns. AreSeen ns seen) (sym longer) (agree_more nodes c.loop-node.seen seen x before.agree updated);
          }
      | else-branch w ↦
          let known = sym (before.agree x) ∙ ap (contains node_cmp c.loop-node.seen) (sym copied) ∙ not_new _ (sym w.if-branch.false ∙ c.in_ok-insert.ensures.added) in
          let still : c.if-branch.nodes.items ≡ nodes = λ k. (w.nodes-is k).items in
          record {
            rest = ap (λ ns. ns ++ unseen ns (drop (i + 1) found)) still ∙ known_passed nodes found i x c.loop-node-test.true c.node-item.is known ∙ before.rest;
            agree = subst (λ ns. AreSeen ns seen) (sym still) (agree_still nodes c.loop-node.seen seen x before.agree updated known);
          }
    ]
